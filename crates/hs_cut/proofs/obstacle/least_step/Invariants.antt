use Rattle.std.proofs.Common.{take}
use Rattle.hs_cut.specs.Descents.{IsLeastAt}
use Rattle.hs_cut.specs.Distances.{targets}
use Rattle.hs_cut.proofs.obstacle.least_step.Given as goal

-- the least so far
abbrev pub invariant-loop-arc : goal.invariant-loop-arc
invariant-loop-arc l = IsLeastAt l.distances l.distance (targets l.gates (take l.arc-index l.row)) l.least
