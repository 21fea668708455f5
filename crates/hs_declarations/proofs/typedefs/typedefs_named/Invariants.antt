use Rattle.std.proofs.Common.{◌≡◌, map, drop}
use Rattle.hs_declarations.specs.Declarations.{typedefs_named}
use Rattle.hs_syntax.specs.Views.{view_item}
use Rattle.hs_declarations.proofs.typedefs.typedefs_named.Given as goal

-- the names that are left are declared as all are
abbrev pub invariant-its : goal.invariant-its
invariant-its l = typedefs_named (map view_item (drop l.it-index l.its)) l.rest l.m ≡ typedefs_named (map view_item l.its) l.fn.ids l.fn.m
