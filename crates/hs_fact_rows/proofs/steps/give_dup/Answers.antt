use Rattle.hs_fact_rows.proofs.Making.{then_placed}
use Rattle.hs_fact_rows.specs.Given.{popped, with_of, saved_of}
use Rattle.hs_rows.specs.Sets.{bit_in}
use Rattle.std.proofs.Common.{◌-◌}
use Rattle.hs_fact_rows.proofs.steps.give_dup.Goals as goal

pub returns : goal.returns
returns c names slots =
    then_placed c.args.way.plan c.args.way.to c.args.way.from c.args.depth (λ facts cell. popped c.args.depth cell (facts cell))
    (λ facts. with_of facts c.args.depth (c.args.depth - 1)) (λ facts. saved_of facts c.args.depth (c.args.depth - 1))
    (bit_in c.both_at-top.result.0) (bit_in c.both_at-top.result.1) c.args.rows.now c.start.new.rows c.put_place.new.rows
    c.start.ensures c.put_place.ensures (rw c.saturating_sub.ensures at c.both_at-top.ensures.with) (rw c.saturating_sub.ensures at c.both_at-top.ensures.saved)
