use Rattle.std.proofs.Common.{arith, get_or, ◌<◌, length}
use Rattle.std.proofs.lemmas.Option.{slice_get-get_or}
use Rattle.hs_fact_rows.proofs.Cutting.{visited_one}
use Rattle.hs_fact_rows.specs.Cuts.{the_task}
use Rattle.hs_fact_rows.specs.declared.step.Step.TheVariants as step
use Rattle.hs_fact_rows.proofs.solving.visit_if.Goals as goal

pub returns : goal.returns
returns g c =
    let its = get_or c.args.job.steps.now c.args.at (step.Pop 0) in
    let in_steps : c.args.at < length c.args.job.steps.now = omega (arith, c.requires.task.steps, c.requires.there) in
    let in_flags : c.args.at < length c.args.flags.now = omega (arith, c.requires.flags, c.requires.there) in
    let there = slice_get-get_or c.args.job.steps.now c.args.at (step.Pop 0) in_steps in
    visited_one (the_task c.args.job.plan c.args.job.lists.names.now c.args.job.lists.slots.now c.args.job.steps.now c.args.job.code.now
    (g.C.Callees.assigned c.args.callees.now)) c.requires.task c.args.at its c.args.rows.now c.visit.new.rows c.args.flags.now c.visit.new.flags
    c.visit.result there in_flags
    c.requires.standing (c.visit.ensures its there)
