use Rattle.hs_cut.proofs.Pushing.{IsUnderway}
use Rattle.hs_cut.proofs.augment.pushed.Given as goal

-- the unit has come from the vertex
abbrev pub invariant-steps : goal.invariant-steps
invariant-steps l = IsUnderway l.edges l.distances l.fn.end.vertex l.vertex l.distance l.fn.flow.items l.flow.items

abbrev pub decreases-steps : goal.decreases-steps
decreases-steps l = l.distance
