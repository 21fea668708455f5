use Rattle.hs_fact_rows.proofs.Making.{then_slotted, no_names, Makes-turn}
use Rattle.hs_fact_rows.specs.Given.{popped, one_name, no_name, without, slotted, named}
use Rattle.hs_rows.specs.Sets.{bit_in}
use Rattle.std.proofs.Common.{◌-◌}
use Rattle.hs_fact_rows.proofs.steps.give_set_name.Goals as goal

pub returns : goal.returns
returns c names slots =
    let first = Makes-turn c.args.way.plan c.args.way.to c.args.way.from (λ facts cell. popped c.args.depth cell (facts cell)) (without (one_name
    c.args.name)) c.args.rows.now c.start.new.rows
    c.end_known.new.rows c.start.ensures c.end_known.ensures in
    let second = then_slotted c.args.way.plan c.args.way.to c.args.way.from (one_name c.args.slot)
    (λ facts cell. without (one_name c.args.name) cell (popped c.args.depth cell (facts cell))) (λ facts. no_name) (bit_in 0) c.args.rows.now
    c.end_known.new.rows
    c.put_slot.new.rows first c.put_slot.ensures (no_names c.args.way.plan) in
    Makes-turn c.args.way.plan c.args.way.to c.args.way.from
    (λ facts cell. slotted (one_name c.args.slot) no_name cell (without (one_name c.args.name) cell (popped c.args.depth cell (facts cell))))
    (named (c.args.depth - 1) c.args.name) c.args.rows.now c.put_slot.new.rows c.add_known.new.rows second (rw c.saturating_sub.ensures at c.add_known.ensures)
