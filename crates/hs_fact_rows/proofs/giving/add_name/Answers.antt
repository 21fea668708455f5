use Rattle.hs_fact_rows.proofs.Turning.{name_turn}
use Rattle.hs_fact_rows.proofs.giving.add_name.Goals as goal

pub returns-then-place-plan : goal.returns-then-place-plan
returns-then-place-plan c =
    name_turn c.args.plan c.args.row c.args.place c.args.name c.with_first.result c.args.rows.now c.put-new.new.self c.with_first.ensures.is
    c.put-new.ensures.others c.put-new.ensures.size c.put-new.ensures.there c.requires.fit.room c.requires.fit.there c.requires.there
