-- The units so far are of the grammar, and these are their trees.
use Rattle.std.proofs.Common.{map, take}
use Rattle.hs_syntax.specs.Views.{view_unit}
use Rattle.hs_source.specs.Source.{AreTrees}
use Rattle.hs_source.proofs.source.parsed.Given as goal

abbrev pub invariant-units : goal.invariant-units
invariant-units l = AreTrees (take l.tokens-index l.units) (map view_unit l.trees.items)
