use Rattle.std.proofs.Common.{sym, ◌∙◌}
use Rattle.hs_fact_rows.proofs.Cutting.{visit_done}
use Rattle.hs_fact_rows.specs.Laws.Numbers.{some_one}
use Rattle.hs_fact_rows.specs.Cuts.{the_task}
use Rattle.hs_fact_rows.proofs.solving.visit.Goals as goal

pub returns : goal.returns
returns g c its there =
    let ops = c.ops_of-ops.ensures.is in
    let same = some_one c.step_at.result its (sym c.step_at.ensures ∙ there) in
    visit_done (the_task c.args.job.plan c.args.job.lists.names.now c.args.job.lists.slots.now c.args.job.steps.now c.args.job.code.now
    (g.C.Callees.assigned c.args.callees.now)) c.requires.task c.args.at its c.succ-next.result c.args.rows.now c.give.new.rows
    c.meet_some-one.new.rows c.meet_some-two.new.rows
    c.meet_cases-three.new.rows c.args.flags.now c.meet_some-one.new.flags c.meet_some-two.new.flags c.meet_cases-three.new.flags c.meet_some-one.result
    c.meet_some-two.result c.meet_cases-three.result there (rw (ops, same) at c.give.ensures) c.requires.count c.requires.fit.room
    (rw ops at c.meet_some-one.ensures.met) (rw ops at c.meet_some-one.ensures.flagged) (rw ops at c.meet_some-two.ensures.met)
    (rw ops at c.meet_some-two.ensures.flagged) (rw ops at c.meet_cases-three.ensures.met) (rw ops at c.meet_cases-three.ensures.flagged)
    c.succ-next.ensures.exact
