use Rattle.std.proofs.Common.{◌≡◌, length}
use Rattle.hs_fact_rows.specs.Cuts.{Cuts, IsStanding, the_task}
use Rattle.hs_rows.specs.Sets.{SameSize}
use Rattle.hs_fact_rows.proofs.solving.solve.Given as goal

-- the rows come down from all facts
abbrev pub invariant-passes : goal.invariant-passes
invariant-passes g l = record {
  cuts : Cuts (the_task l.job.plan l.job.lists.names.now l.job.lists.slots.now l.job.steps.now l.job.code.now (g.C.Callees.assigned l.callees))
      l.initial.rows l.rows;
  standing : IsStanding (the_task l.job.plan l.job.lists.names.now l.job.lists.slots.now l.job.steps.now l.job.code.now (g.C.Callees.assigned
      l.callees)) l.flags.items l.rows;
  size : SameSize l.initial.rows l.rows;
  len : length l.flags.items ≡ length l.job.code.now.ops;
}
