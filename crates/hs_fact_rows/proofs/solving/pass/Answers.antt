use Rattle.std.proofs.Common.{add-one}
use Rattle.hs_fact_rows.proofs.Cutting.{passed_none, passed_next}
use Rattle.hs_fact_rows.specs.Cuts.{the_task}
use Rattle.hs_fact_rows.proofs.solving.pass.Goals as goal

pub ops-init : goal.ops-init
ops-init g c = passed_none (the_task c.args.job.plan c.args.job.lists.names.now c.args.job.lists.slots.now c.args.job.steps.now c.args.job.code.now
    (g.C.Callees.assigned c.args.callees.now)) c.requires.task c.args.rows.now c.args.flags.now c.requires.standing

-- one operation more
pub ops-preserved : goal.ops-preserved
ops-preserved g c =
    rw add-one (
    passed_next (the_task c.args.job.plan c.args.job.lists.names.now c.args.job.lists.slots.now c.args.job.steps.now c.args.job.code.now
    (g.C.Callees.assigned c.args.callees.now)) c.requires.task c.ops.at c.args.rows.now c.ops.rows c.visit_if-visited.new.rows c.args.flags.now
    c.ops.flags c.visit_if-visited.new.flags
    c.ops.changed c.visit_if-visited.result c.ops.invariant c.visit_if-visited.ensures)
