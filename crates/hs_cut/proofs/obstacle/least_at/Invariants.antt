use Rattle.std.proofs.Common.{take}
use Rattle.hs_cut.specs.Descents.{IsLeastAt}
use Rattle.hs_cut.proofs.obstacle.least_at.Given as goal

-- the least so far
abbrev pub invariant-loop-vertex : goal.invariant-loop-vertex
invariant-loop-vertex l = IsLeastAt l.distances l.distance (take l.vertex-index l.vertices) l.least
