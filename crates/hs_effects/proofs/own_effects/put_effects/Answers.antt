use Rattle.std.proofs.Common.{◌≡◌, get_or, sym, ◌∙◌, ap, refl}
use Rattle.hs_code.specs.declared.function_code.Placed.{Placed}
use Rattle.hs_effects.proofs.CallersPut.{nothing, op_read}
use Rattle.hs_effects.proofs.OwnsPut.{owns_begin, owns_step}
use Rattle.hs_effects.proofs.SixEffects.{Each}
use Rattle.hs_effects.specs.Effecting.{HasNumber, effects_of_op, flag, restored}
use Rattle.hs_effects.specs.declared.op_effects.OpEffects.{OpEffects}
use Rattle.hs_effects.proofs.own_effects.put_effects.Goals as goal

-- no operation yet
pub ops-init : goal.ops-init
ops-init c = owns_begin (HasNumber c.args.routines.now c.args.restores.now) c.args.ops.now c.args.function c.args.work.now

-- the effects of one operation more
pub ops-preserved : goal.ops-preserved
ops-preserved c =
    let its : Placed = get_or c.args.ops.now c.ops.at nothing in
    let same : c.effects_of_op-has.result ≡ effects_of_op c.args.routines.now (restored c.args.restores.now c.args.function c.ops.at) its.op =
    c.effects_of_op-has.ensures ∙ ap (λ restores. effects_of_op c.args.routines.now restores its.op) c.is_restore.ensures in
    owns_step (HasNumber c.args.routines.now c.args.restores.now) c.args.ops.now c.ops.at c.args.function its
    (op_read c.args.ops.now c.ops.at c.ops-test.true) (Each c.args.function c.effects_of_op-has.result) c.args.work.now c.ops.work
    c.put_each.new.work c.ops.invariant c.in_ok-put_each.ensures.grows
    (λ f b adds. (adds.0, (adds.1.0, adds.1.1, ap (λ (it : OpEffects). flag it adds.1.0) (sym same) ∙ adds.1.2)))
    (λ b has. (refl, (has.0, has.1, ap (λ (it : OpEffects). flag it has.0) same ∙ has.2)))
