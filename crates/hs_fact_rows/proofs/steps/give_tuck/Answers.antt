use Rattle.hs_fact_rows.proofs.Making.{then_placed}
use Rattle.hs_fact_rows.specs.Given.{popped, with_of, saved_of, placed}
use Rattle.hs_rows.specs.Sets.{bit_in}
use Rattle.std.proofs.Common.{◌-◌}
use Rattle.hs_fact_rows.proofs.steps.give_tuck.Goals as goal

pub returns : goal.returns
returns c names slots =
    let d = c.args.depth in
    let top = c.saturating_sub-top.ensures in
    let low = c.saturating_sub-low.ensures in
    let first = then_placed c.args.way.plan c.args.way.to c.args.way.from (d - 2) (λ facts cell. popped (d - 2) cell (facts cell)) (λ facts. with_of
    facts d (d - 1))
    (λ facts. saved_of facts d (d - 1)) (bit_in c.both_at-upper.result.0) (bit_in c.both_at-upper.result.1) c.args.rows.now c.start.new.rows
    c.put_place.new.rows
    (rw low at c.start.ensures) (rw low at c.put_place.ensures) (rw top at c.both_at-upper.ensures.with) (rw top at c.both_at-upper.ensures.saved) in
    let second = then_placed c.args.way.plan c.args.way.to c.args.way.from (d - 1)
    (λ facts cell. placed (d - 2) (with_of facts d (d - 1)) (saved_of facts d (d - 1)) cell (popped (d - 2) cell (facts cell)))
    (λ facts. with_of facts d (d - 2)) (λ facts. saved_of facts d (d - 2)) (bit_in c.both_at-lower.result.0) (bit_in c.both_at-lower.result.1)
    c.args.rows.now c.put_place.new.rows c.put_place-2.new.rows
    first (rw top at c.put_place-2.ensures) (rw low at c.both_at-lower.ensures.with) (rw low at c.both_at-lower.ensures.saved) in
    then_placed c.args.way.plan c.args.way.to c.args.way.from d
    (λ facts cell. placed (d - 1) (with_of facts d (d - 2)) (saved_of facts d (d - 2)) cell
    (placed (d - 2) (with_of facts d (d - 1)) (saved_of facts d (d - 1)) cell (popped (d - 2) cell (facts cell))))
    (λ facts. with_of facts d (d - 1)) (λ facts. saved_of facts d (d - 1)) (bit_in c.both_at-upper.result.0) (bit_in c.both_at-upper.result.1)
    c.args.rows.now c.put_place-2.new.rows c.put_place-3.new.rows
    second c.put_place-3.ensures (rw top at c.both_at-upper.ensures.with) (rw top at c.both_at-upper.ensures.saved)
