use Rattle.std.proofs.Common.{◌≡◌, map, drop}
use Rattle.hs_functions.specs.Units.{externals}
use Rattle.hs_syntax.specs.Views.{view_external}
use Rattle.hs_tree.specs.Views.{view_function}
use Rattle.hs_functions.proofs.units.externals.Given as goal

-- the external declarations that are left, after the functions so far, are declared as all are
abbrev pub invariant-its : goal.invariant-its
invariant-its l =
    externals (map view_function l.all.items) (map view_external (drop l.it-index l.its)) l.m
    ≡ externals (map view_function l.fn.done.items) (map view_external l.its) l.fn.m
