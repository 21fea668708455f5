use Rattle.hs_fact_rows.proofs.Making.{then_placed, no_names}
use Rattle.hs_fact_rows.specs.Given.{popped, no_name, with_of}
use Rattle.hs_rows.specs.Sets.{bit_in}
use Rattle.hs_fact_rows.proofs.steps.give_read.Goals as goal

pub returns : goal.returns
returns c names slots =
    then_placed c.args.way.plan c.args.way.to c.args.way.from c.args.base (λ facts cell. popped c.args.base cell (facts cell)) (λ facts. no_name)
    (λ facts. with_of facts c.args.depth c.args.base) (bit_in 0) (bit_in c.with_at-with.result) c.args.rows.now c.start.new.rows c.put_place.new.rows
    c.start.ensures c.put_place.ensures (no_names c.args.way.plan) c.with_at-with.ensures.names
