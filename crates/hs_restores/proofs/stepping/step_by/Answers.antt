use Rattle.std.proofs.Common.{◌≡◌, ◌-◌, ap, sym, subst, ◌∙◌, refl, List, Option}
use Rattle.std.specs.List.{slice_get}
use Rattle.hs_code.specs.declared.op.Op.{Op}
use Rattle.hs_fact_rows.specs.Steps.{routine_step}
use Rattle.hs_fact_rows.specs.declared.step.Step.TheVariants as step
use Rattle.hs_facts.specs.Names.{role_in, taken}
use Rattle.hs_restores.proofs.PlainSteps.{plain_step}
use Rattle.hs_restores.specs.Stepping.{part_in, scope_in, step_by}
use Rattle.hs_table.specs.declared.role.Role.{Role}
use Rattle.hs_tree.specs.declared.function.BoundRoutine.{BoundRoutine}
use Rattle.hs_restores.proofs.stepping.step_by.Goals as goal

-- by the role of the routine
pub returns-in-Routine : goal.returns-in-Routine
returns-in-Routine c function =
    let base : c.saturating_sub-base.result ≡ c.args.depth - taken (scope_in c.args.program.now function) c.args.op =
    c.saturating_sub-base.ensures ∙ ap (λ n. c.args.depth - n) (c.taken.ensures function) in
    let role : c.role_at.result ≡ role_in (slice_get c.args.program.now.routines c.in-Routine.place) =
    c.role_at.ensures ∙ ap (λ (list : List BoundRoutine). role_in (slice_get list c.in-Routine.place)) c.items.ensures in
    c.routine_step.ensures
    ∙ ap (λ n. routine_step c.role_at.result c.args.depth n) base
    ∙ ap (λ (it : Option Role). routine_step it c.args.depth (c.args.depth - taken (scope_in c.args.program.now function) c.args.op)) role
    ∙ subst (λ (its : Op). routine_step (role_in (slice_get c.args.program.now.routines c.in-Routine.place)) c.args.depth
    (c.args.depth - taken (scope_in c.args.program.now function) its)
    ≡ step_by (scope_in c.args.program.now function) c.args.window.names.now (part_in c.args.window) c.args.slots.now its c.args.depth) (sym c.in-Routine.is) refl

-- with the arguments taken
pub returns-in-Call : goal.returns-in-Call
returns-in-Call c function =
    let base : c.saturating_sub-base.result ≡ c.args.depth - taken (scope_in c.args.program.now function) c.args.op =
    c.saturating_sub-base.ensures ∙ ap (λ n. c.args.depth - n) (c.taken.ensures function) in
    ap (λ n. step.Call n c.in-Call.function) base
    ∙ subst (λ (its : Op). step.Call (c.args.depth - taken (scope_in c.args.program.now function) its) c.in-Call.function
    ≡ step_by (scope_in c.args.program.now function) c.args.window.names.now (part_in c.args.window) c.args.slots.now its c.args.depth) (sym c.in-Call.is) refl

-- any other one only takes values
pub returns-in_default : goal.returns-in_default
returns-in_default c function =
    let base : c.saturating_sub-base.result ≡ c.args.depth - taken (scope_in c.args.program.now function) c.args.op =
    c.saturating_sub-base.ensures ∙ ap (λ n. c.args.depth - n) (c.taken.ensures function) in
    ap (λ n. step.Pop n) base
    ∙ sym (plain_step (scope_in c.args.program.now function) c.args.window.names.now (part_in c.args.window) c.args.slots.now c.args.depth c.args.op c.in_default.not-Get
    c.in_default.not-Set c.in_default.not-Dup c.in_default.not-Tuck c.in_default.not-Conv c.in_default.not-Routine c.in_default.not-Call
    c.in_default.not-Bring)
