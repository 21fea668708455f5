use Rattle.hs_fact_rows.proofs.Making.{then_placed, no_names}
use Rattle.hs_fact_rows.specs.Given.{popped, no_name, saved_of}
use Rattle.hs_rows.specs.Sets.{bit_in}
use Rattle.std.proofs.Common.{◌-◌}
use Rattle.hs_fact_rows.proofs.steps.give_conv.Goals as goal

pub returns : goal.returns
returns c names slots =
    let top = c.saturating_sub-top.ensures in
    then_placed c.args.way.plan c.args.way.to c.args.way.from (c.args.depth - 1) (λ facts cell. popped (c.args.depth - 1) cell (facts cell)) (λ facts. no_name)
    (λ facts. saved_of facts c.args.depth (c.args.depth - 1)) (bit_in 0) (bit_in c.saved_at-saved.result) c.args.rows.now c.start.new.rows c.put_place.new.rows
    (rw top at c.start.ensures) (rw top at c.put_place.ensures) (no_names c.args.way.plan) (rw top at c.saved_at-saved.ensures.names)
