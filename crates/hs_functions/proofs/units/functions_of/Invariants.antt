use Rattle.std.proofs.Common.{◌≡◌, [], map, drop}
use Rattle.hs_functions.specs.Units.{units_of}
use Rattle.hs_syntax.specs.Views.{view_unit}
use Rattle.hs_tree.specs.Views.{view_function}
use Rattle.hs_functions.proofs.units.functions_of.Given as goal

-- the units that are left, after the functions so far, are as all are
abbrev pub invariant-its : goal.invariant-its
invariant-its l =
    units_of (map view_function l.all.items) (map view_unit (drop l.it-index l.its)) l.m ≡ units_of [] (map view_unit l.its) l.fn.m
