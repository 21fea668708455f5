use Rattle.hs_cut.proofs.Descending.{IsDescent}
use Rattle.hs_cut.proofs.obstacle.descent.Given as goal

-- what goes on from the vertex completes the way
abbrev pub invariant-steps : goal.invariant-steps
invariant-steps l = IsDescent l.gates l.rows l.distances l.first l.first_distance l.vertex l.distance l.path.items

abbrev pub decreases-steps : goal.decreases-steps
decreases-steps l = l.distance
