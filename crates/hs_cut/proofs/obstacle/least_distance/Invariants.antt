use Rattle.std.proofs.Common.{take}
use Rattle.hs_cut.specs.Descents.{IsLeastDistance}
use Rattle.hs_cut.proofs.obstacle.least_distance.Given as goal

-- the least so far
abbrev pub invariant-loop-vertex : goal.invariant-loop-vertex
invariant-loop-vertex l = IsLeastDistance l.distances (take l.vertex-index l.vertices) l.least
