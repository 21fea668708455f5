use Rattle.std.proofs.Common.{◌≡◌, ◌++◌, map, drop}
use Rattle.hs_linkage.specs.Definitions.{all_definitions}
use Rattle.hs_syntax.specs.Views.{view_unit}
use Rattle.hs_linkage.proofs.definitions.Definitions.of.Given as goal

-- the definitions so far, with those of the units that are left, are all
abbrev pub invariant-units : goal.invariant-units
invariant-units l =
    l.its ++ all_definitions l.number (map view_unit (drop l.unit-index l.units)) ≡ all_definitions 0 (map view_unit l.units)
