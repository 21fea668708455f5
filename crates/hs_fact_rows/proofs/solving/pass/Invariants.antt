use Rattle.hs_fact_rows.specs.Cuts.{the_task, Passed}
use Rattle.hs_fact_rows.proofs.solving.pass.Given as goal

-- so many operations are visited
abbrev pub invariant-ops : goal.invariant-ops
invariant-ops g l =
    Passed (the_task l.job.plan l.job.lists.names.now l.job.lists.slots.now l.job.steps.now l.job.code.now (g.C.Callees.assigned l.callees))
    l.at l.fn.rows l.rows l.fn.flags l.flags l.changed
