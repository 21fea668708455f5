use Rattle.std.proofs.Common.{[], length}
use Rattle.hs_tree.specs.Straight.Fine.{are_fine_names}
use Rattle.hs_checker.specs.Straight.Rows.{declaration, begins_declaration}
use Rattle.hs_checker.proofs.Rows.{IsSoFar}
use Rattle.hs_checker.proofs.straight.declarations.declarations.Given as goal

abbrev pub invariant-all : goal.invariant-all
invariant-all l = IsSoFar declaration (are_fine_names []) begins_declaration l.tokens l.variables.items l.rest

abbrev pub decreases-all : goal.decreases-all
decreases-all l = length l.rest
