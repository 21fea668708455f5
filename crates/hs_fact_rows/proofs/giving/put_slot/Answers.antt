use Rattle.hs_fact_rows.proofs.Turning.{slot_turn}
use Rattle.hs_rows.specs.Sets.{bit_in}
use Rattle.hs_fact_rows.proofs.giving.put_slot.Goals as goal

pub returns : goal.returns
returns c =
    slot_turn c.args.plan c.args.row c.args.slot c.slot_first.result (bit_in c.args.saved) c.args.rows.now c.write.new.rows c.slot_first.ensures.is
    c.write.ensures c.requires.fit.room c.requires.fit.there c.requires.there
