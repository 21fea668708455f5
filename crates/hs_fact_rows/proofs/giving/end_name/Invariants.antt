use Rattle.hs_fact_rows.proofs.Turning.{ended_below}
use Rattle.hs_fact_rows.specs.Given.{Turns}
use Rattle.hs_fact_rows.proofs.giving.end_name.Given as goal

-- the facts of the fields so far are ended
abbrev pub invariant-fields : goal.invariant-fields
invariant-fields l = Turns l.plan l.row (ended_below l.plan l.k l.name) l.initial.rows l.rows
