use Rattle.std.proofs.Common.{take}
use Rattle.hs_cut.specs.Distances.{IsReached, targets}
use Rattle.hs_cut.proofs.distances.reach_row.Given as goal

-- what the arcs so far lead to is reached
abbrev pub invariant-loop-arc : goal.invariant-loop-arc
invariant-loop-arc l = IsReached l.distance (targets l.gates (take l.arc-index l.row)) l.fn.distances l.fn.next.items l.distances l.next.items
