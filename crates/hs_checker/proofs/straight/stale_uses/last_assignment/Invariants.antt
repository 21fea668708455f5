-- The place is that of the last one among the steps that were looked at.
use Rattle.hs_checker.proofs.Staleness.{IsLastBefore}
use Rattle.hs_checker.proofs.straight.stale_uses.last_assignment.Given as goal

abbrev pub invariant-loop-place : goal.invariant-loop-place
invariant-loop-place l = IsLastBefore l.variable l.done l.place l.last
