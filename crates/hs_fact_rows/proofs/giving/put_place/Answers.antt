use Rattle.hs_fact_rows.proofs.Turning.{place_turn}
use Rattle.hs_rows.specs.Sets.{bit_in}
use Rattle.hs_fact_rows.proofs.giving.put_place.Goals as goal

pub returns-then-place-plan : goal.returns-then-place-plan
returns-then-place-plan c =
    place_turn c.args.plan c.args.row c.args.place c.with_first.result c.saved_first.result (bit_in c.args.words.0) (bit_in c.args.words.1) c.args.rows.now
    c.write.new.rows c.write-then-place-plan.new.rows c.with_first.ensures.is c.saved_first.ensures.is c.write.ensures c.write-then-place-plan.ensures
    c.requires.fit.room c.requires.fit.there
