use Rattle.hs_fact_rows.proofs.Making.{then_slotted}
use Rattle.hs_fact_rows.specs.Given.{popped, one_name, saved_of}
use Rattle.hs_rows.specs.Sets.{bit_in}
use Rattle.std.proofs.Common.{◌-◌}
use Rattle.hs_fact_rows.proofs.steps.give_set_slot.Goals as goal

pub returns : goal.returns
returns c names slots =
    then_slotted c.args.way.plan c.args.way.to c.args.way.from (one_name c.args.slot) (λ facts cell. popped c.args.depth cell (facts cell))
    (λ facts. saved_of facts c.args.depth (c.args.depth - 1)) (bit_in c.saved_at-saved.result) c.args.rows.now c.start.new.rows c.put_slot.new.rows
    c.start.ensures c.put_slot.ensures (rw c.saturating_sub.ensures at c.saved_at-saved.ensures.names)
