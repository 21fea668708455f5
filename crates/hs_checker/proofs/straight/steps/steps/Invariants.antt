use Rattle.std.proofs.Common.{[], length}
use Rattle.hs_tree.specs.Straight.Fine.{are_fine_steps}
use Rattle.hs_checker.specs.Straight.Rows.{statement, begins_statement}
use Rattle.hs_checker.proofs.Rows.{IsSoFar}
use Rattle.hs_checker.proofs.straight.steps.steps.Given as goal

abbrev pub invariant-all : goal.invariant-all
invariant-all l = IsSoFar (statement l.variables) (are_fine_steps l.variables []) begins_statement l.tokens l.steps.items l.rest

abbrev pub decreases-all : goal.decreases-all
decreases-all l = length l.rest
