use Rattle.std.proofs.Common.{add-one, arith}
use Rattle.hs_fact_rows.proofs.Making.{bring_none, bring_next, bring_done}
use Rattle.hs_rows.specs.Sets.{bit_in}
use Rattle.hs_fact_rows.proofs.steps.give_bring.Goals as goal

pub places-init : goal.places-init
places-init c = bring_none c.args.way.plan c.args.depth c.requires.depth_in_range c.args.way.to c.args.way.from c.args.base c.args.rows.now
    c.start.new.rows c.start.ensures

-- one place more
pub places-preserved : goal.places-preserved
places-preserved c =
    rw add-one (
    bring_next c.args.way.plan c.args.depth c.requires.depth_in_range c.args.way.to c.args.way.from c.args.base c.places.at (bit_in
    c.both_at-above.result.0) (bit_in c.both_at-above.result.1)
    c.args.rows.now c.places.rows c.put_place.new.rows (omega arith) c.requires.apart c.requires.from.there c.requires.from.room c.places.invariant
    c.put_place.ensures (rw add-one at c.both_at-above.ensures.with) (rw add-one at c.both_at-above.ensures.saved))

-- and the one that was brought
pub returns : goal.returns
returns c names slots =
    bring_done c.args.way.plan c.args.depth c.requires.depth_in_range c.args.way.to c.args.way.from c.args.base c.places.at (bit_in
    c.both_at-moved.result.0) (bit_in c.both_at-moved.result.1)
    c.args.rows.now c.places.rows c.put_place-2.new.rows (omega (arith, c.saturating_sub-last.ensures)) c.requires.apart c.requires.from.there
    c.requires.from.room
    c.places.invariant (rw c.saturating_sub-last.ensures at c.put_place-2.ensures) c.both_at-moved.ensures.with c.both_at-moved.ensures.saved
