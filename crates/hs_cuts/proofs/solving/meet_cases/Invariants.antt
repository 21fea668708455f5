use Rattle.std.proofs.Common.{◌≤◌, ℕ}
use Rattle.hs_cuts.specs.Meeting.{Met, Flagged, SeenBefore}
use Rattle.hs_rows.specs.Sets.{has, width}
use Rattle.hs_cuts.proofs.solving.meet_cases.Given as goal

-- the rows of the cases so far are met
abbrev pub invariant-cases : goal.invariant-cases
invariant-cases l = record {
  met : (total : ℕ) → total ≤ width l.fn.rows → Met total l.ops (has l.fn.rows l.ops) (SeenBefore l.code.cases l.first l.end l.place) l.fn.rows l.rows;
  flagged : (total : ℕ) → total ≤ width l.fn.rows → Flagged total l.ops l.fn.rows l.rows l.fn.flags l.flags l.changed;
}
