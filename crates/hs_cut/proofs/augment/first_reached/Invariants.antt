use Rattle.std.proofs.Common.{◌≡◌, take, All, None}
use Rattle.hs_cut.specs.Distances.{distance_at}
use Rattle.hs_cut.proofs.augment.first_reached.Given as goal

-- the vertices so far were not reached
abbrev pub invariant-loop-vertex : goal.invariant-loop-vertex
invariant-loop-vertex l = All (λ vertex. distance_at l.distances vertex ≡ None) (take l.vertex-index l.vertices)
