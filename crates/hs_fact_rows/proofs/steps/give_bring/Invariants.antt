use Rattle.hs_fact_rows.proofs.Making.{shifted}
use Rattle.hs_fact_rows.specs.Given.{Makes, popped}
use Rattle.hs_fact_rows.proofs.steps.give_bring.Given as goal

-- the places so far have the values above them
abbrev pub invariant-places : goal.invariant-places
invariant-places l =
    Makes l.way.plan l.way.to l.way.from (λ facts cell. shifted l.depth l.base l.at facts cell (popped l.base cell (facts cell))) l.fn.rows l.rows
