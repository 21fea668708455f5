use Rattle.std.proofs.Common.{◌≡◌, ◌-◌, ap, sym, subst, ◌∙◌, refl}
use Rattle.std.specs.List.{slice_get}
use Rattle.hs_code.specs.Stacks.{routine_signature}
use Rattle.hs_code.specs.declared.op.Op.{Op}
use Rattle.hs_facts.specs.Effects.{disposes, unlocks}
use Rattle.hs_facts.specs.Names.{gives_handle, role_in, taken}
use Rattle.hs_lock_rows.specs.Changing.{role_change}
use Rattle.hs_lock_rows.specs.declared.change.Change.TheVariants as change
use Rattle.hs_must.proofs.PlainChanges.{plain_change}
use Rattle.hs_must.specs.Changing.{change_by, may}
use Rattle.hs_restores.specs.Stepping.{scope_in}
use Rattle.hs_must.proofs.changing.change_by.Goals as goal

-- by the role of the routine
pub returns-in-Routine : goal.returns-in-Routine
returns-in-Routine c function =
    let m = c.args.maker in
    let base : c.saturating_sub-base.result ≡ c.args.depth - taken (scope_in m.program.now function) c.args.op =
    c.saturating_sub-base.ensures ∙ ap (λ n. c.args.depth - n) (c.taken.ensures function) in
    c.routine_change.ensures
    ∙ ap (λ n. role_change (role_in (slice_get m.program.now.routines c.in-Routine.place))
    (gives_handle m.program.now.types (routine_signature (slice_get m.program.now.routines c.in-Routine.place))) c.args.depth n) base
    ∙ subst (λ (its : Op). role_change (role_in (slice_get m.program.now.routines c.in-Routine.place))
    (gives_handle m.program.now.types (routine_signature (slice_get m.program.now.routines c.in-Routine.place))) c.args.depth
    (c.args.depth - taken (scope_in m.program.now function) its)
    ≡ change_by (scope_in m.program.now function) m.names.now m.slots.now (may m.effects.now m.functions unlocks)
    (may m.effects.now m.functions disposes) its c.args.depth) (sym c.in-Routine.is) refl

-- with the arguments taken
pub returns-in-Call : goal.returns-in-Call
returns-in-Call c function =
    let m = c.args.maker in
    let base : c.saturating_sub-base.result ≡ c.args.depth - taken (scope_in m.program.now function) c.args.op =
    c.saturating_sub-base.ensures ∙ ap (λ n. c.args.depth - n) (c.taken.ensures function) in
    c.call_change.ensures
    ∙ ap (λ n. change.Call n c.in-Call.function (may m.effects.now m.functions unlocks c.in-Call.function)
    (may m.effects.now m.functions disposes c.in-Call.function)) base
    ∙ subst (λ (its : Op). change.Call (c.args.depth - taken (scope_in m.program.now function) its) c.in-Call.function
    (may m.effects.now m.functions unlocks c.in-Call.function) (may m.effects.now m.functions disposes c.in-Call.function)
    ≡ change_by (scope_in m.program.now function) m.names.now m.slots.now (may m.effects.now m.functions unlocks)
    (may m.effects.now m.functions disposes) its c.args.depth) (sym c.in-Call.is) refl

-- any other one only takes values
pub returns-in_default : goal.returns-in_default
returns-in_default c function =
    let m = c.args.maker in
    let base : c.saturating_sub-base.result ≡ c.args.depth - taken (scope_in m.program.now function) c.args.op =
    c.saturating_sub-base.ensures ∙ ap (λ n. c.args.depth - n) (c.taken.ensures function) in
    ap (λ n. change.Pop n) base
    ∙ sym (plain_change (scope_in m.program.now function) m.names.now m.slots.now (may m.effects.now m.functions unlocks)
    (may m.effects.now m.functions disposes) c.args.depth c.args.op c.in_default.not-Get
    c.in_default.not-Set c.in_default.not-Load c.in_default.not-Dup c.in_default.not-Tuck c.in_default.not-Conv c.in_default.not-Bring
    c.in_default.not-Routine c.in_default.not-Call)
