use Rattle.std.proofs.Common.{◌≤◌, ◌+◌, List, length, sym, subst, ◌∙◌, ap}
use Rattle.hs_effects.specs.Calling.{whole_of}
use Rattle.hs_fact_rows.specs.Cuts.{IsSolved, IsTask, Task}
use Rattle.hs_restores.specs.Laws.Jobs.{same_task, task_whole}
use Rattle.hs_restores.specs.Laws.Naming.{distinct_names}
use Rattle.hs_restores.specs.Laws.Numbering.{IsDistinct}
use Rattle.hs_restores.specs.Laws.Noting.{window_is}
use Rattle.hs_restores.specs.Restoring.{assigned_of}
use Rattle.hs_restores.specs.Stepping.{greatest, scope_in}
use Rattle.hs_tree.specs.Views.{view_function}
use Rattle.hs_tree.specs.declared.head.Variable.{Variable}
use Rattle.hs_restores.proofs.finding.window_rows.Goals as goal

-- no name is there twice
pub steps_by-requires-clause-distinct : goal.steps_by-requires-clause-distinct
steps_by-requires-clause-distinct c =
    subst IsDistinct (sym c.requires.names)
    (distinct_names (scope_in c.args.code.now.program.now (view_function c.args.own.function.now)) c.args.own.code.now)

-- the job is the task of the window
pub solve-requires-clause-task : goal.solve-requires-clause-task
solve-requires-clause-task c =
    subst IsTask
    (sym (same_task (scope_in c.args.code.now.program.now (view_function c.args.own.function.now)) c.args.own.code.now c.in_ok-plan.plan
    c.args.window.0 c.args.window.1 (assigned_of c.args.callees.now) c.args.own.names.now c.part.result.now c.args.own.slots.now c.items-slots.result.now
    c.deref.result.now c.items-ops.result.now c.part.ensures c.items-slots.ensures
    (c.deref.ensures.value ∙ c.in_ok-steps.ensures (view_function c.args.own.function.now)) c.items-ops.ensures.lends c.requires.names))
    (task_whole (scope_in c.args.code.now.program.now (view_function c.args.own.function.now)) c.args.own.code.now c.in_ok-plan.plan
    c.args.window.0 c.args.window.1 c.args.own.slots.now (assigned_of c.args.callees.now)
    (window_is (whole_of c.args.code.now) c.args.own.number (view_function c.args.own.function.now) c.args.own.code.now c.args.own.slots.now
    (assigned_of c.args.callees.now) c.requires.ready c.in_ok-plan.plan c.args.window.0 c.args.window.1
    (subst (λ (list : List Variable). c.args.window.0 + c.args.window.1 ≤ length list) c.requires.names c.requires.fits) c.in_ok-plan.ensures.names
    (c.in_ok-plan.ensures.slots ∙ ap length c.items-slots.ensures)
    (c.in_ok-plan.ensures.places ∙ c.greatest.ensures ∙ ap (greatest 0) c.items-ops.ensures.lends)))

pub returns-clause-for_window : goal.returns-clause-for_window
returns-clause-for_window c =
    window_is (whole_of c.args.code.now) c.args.own.number (view_function c.args.own.function.now) c.args.own.code.now c.args.own.slots.now
    (assigned_of c.args.callees.now) c.requires.ready c.in_ok-plan.plan c.args.window.0 c.args.window.1
    (subst (λ (list : List Variable). c.args.window.0 + c.args.window.1 ≤ length list) c.requires.names c.requires.fits) c.in_ok-plan.ensures.names
    (c.in_ok-plan.ensures.slots ∙ ap length c.items-slots.ensures)
    (c.in_ok-plan.ensures.places ∙ c.greatest.ensures ∙ ap (greatest 0) c.items-ops.ensures.lends)

pub returns-clause-solved : goal.returns-clause-solved
returns-clause-solved c =
    let same = same_task (scope_in c.args.code.now.program.now (view_function c.args.own.function.now)) c.args.own.code.now
    c.in_ok-plan.plan c.args.window.0 c.args.window.1 (assigned_of c.args.callees.now) c.args.own.names.now c.part.result.now c.args.own.slots.now
    c.items-slots.result.now c.deref.result.now c.items-ops.result.now c.part.ensures c.items-slots.ensures
    (c.deref.ensures.value ∙ c.in_ok-steps.ensures (view_function c.args.own.function.now)) c.items-ops.ensures.lends c.requires.names in
    subst (λ (its : Task). IsSolved its c.in_ok-rows.rows) same c.in_ok-rows.ensures.solved
