use Rattle.std.proofs.Common.{take}
use Rattle.hs_cut.specs.Distances.{IsReached}
use Rattle.hs_cut.proofs.distances.reach_starts.Given as goal

-- the starts so far are reached
abbrev pub invariant-loop-start : goal.invariant-loop-start
invariant-loop-start l = IsReached 0 (take l.start-index l.starts) l.fn.distances l.fn.next.items l.distances l.next.items
