use Rattle.hs_fact_rows.specs.Meeting.{Met, Flagged, SeenBefore, row_facts}
use Rattle.hs_fact_rows.proofs.solving.meet_cases.Given as goal

-- the rows of the cases so far are met
abbrev pub invariant-cases : goal.invariant-cases
invariant-cases l = record {
  met : Met l.plan l.ops (row_facts l.plan l.ops l.fn.rows l.ops) (SeenBefore l.code.cases l.first l.end l.place) l.fn.rows l.rows;
  flagged : Flagged l.plan l.ops l.fn.rows l.rows l.fn.flags l.flags l.changed;
}
