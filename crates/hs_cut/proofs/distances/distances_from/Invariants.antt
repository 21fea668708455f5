use Rattle.std.proofs.Common.{◌+◌, length, count_by, is_none}
use Rattle.hs_cut.proofs.Search.{IsFrontier}
use Rattle.hs_cut.proofs.distances.distances_from.Given as goal

-- the distances so far are right
abbrev pub invariant-rounds : goal.invariant-rounds
invariant-rounds l = IsFrontier l.gates l.rows l.starts l.distances.items l.frontier.items l.distance

-- who has no distance yet, and who was found last
abbrev pub decreases-rounds : goal.decreases-rounds
decreases-rounds l = count_by is_none l.distances.items + length l.frontier.items
