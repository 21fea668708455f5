use Rattle.hs_fact_rows.proofs.Turning.{start_made_at, start_whole}
use Rattle.hs_fact_rows.proofs.giving.start.Goals as goal

pub returns-then-base-plan : goal.returns-then-base-plan
returns-then-base-plan c =
    start_made_at c.args.plan c.args.row c.args.from c.args.base c.with_first-first.result c.total.result c.args.rows.now c.copy_row.new.self c.clear.new.rows
    c.with_first-first.ensures.is c.total.ensures c.requires.fit.room c.requires.fit.there c.if-base-plan.true c.copy_row.ensures.others
    c.copy_row.ensures.size c.copy_row.ensures.copied c.clear.ensures

pub returns-else-base-plan : goal.returns-else-base-plan
returns-else-base-plan c =
    start_whole c.args.plan c.args.row c.args.from c.args.base c.args.rows.now c.copy_row.new.self c.requires.fit.room c.if-base-plan.false
    c.copy_row.ensures.others c.copy_row.ensures.size c.copy_row.ensures.copied
