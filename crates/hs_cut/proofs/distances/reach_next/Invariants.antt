use Rattle.std.proofs.Common.{take, flat_map}
use Rattle.hs_cut.specs.Distances.{IsReached, next_to}
use Rattle.hs_cut.proofs.distances.reach_next.Given as goal

-- what is a step from the vertices so far is reached
abbrev pub invariant-loop-vertex : goal.invariant-loop-vertex
invariant-loop-vertex l =
    IsReached l.distance (flat_map (next_to l.gates l.rows) (take l.vertex-index l.frontier)) l.fn.distances l.fn.next.items l.distances l.next.items
