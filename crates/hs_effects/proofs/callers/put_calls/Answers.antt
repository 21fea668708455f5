use Rattle.std.proofs.Common.{◌<◌, ◌+◌, ℕ, length, get_or, arith, sym, ◌∙◌, subst}
use Rattle.std.specs.declared.alloc.Global.{Global}
use Rattle.std.specs.declared.vec.Vec.{Vec}
use Rattle.hs_code.specs.declared.function_code.Placed.{Placed}
use Rattle.hs_effects.proofs.CallersPut.{calls_pass, calls_more, nothing, op_read}
use Rattle.hs_effects.specs.Calling.{CallsPut, IsCallIn}
use Rattle.hs_effects.proofs.callers.put_calls.Goals.{in-Some+in_ok-put_caller, in_default}
use Rattle.hs_effects.proofs.callers.put_calls.Goals as goal

-- the operation calls a function that is there
pub put_caller-requires : goal.put_caller-requires
put_caller-requires c =
    let its : Placed = get_or c.args.ops.now c.ops.its-index nothing in
    let is : IsCallIn c.args.ops.now c.ops.its-index c.in-Some.callee =
    (its, op_read c.args.ops.now c.ops.its-index c.ops-test.true, sym c.callee_of.ensures ∙ c.in-Some.is) in
    let below : c.in-Some.callee < length c.args.rows.now.items = c.requires.in_range c.ops.its-index c.in-Some.callee is in
    record { known = omega (arith, below, c.ops.invariant.each) }

-- it calls one, or none
pub ops-preserved : goal.ops-preserved
ops-preserved c =
    let its : Placed = get_or c.args.ops.now c.ops.its-index nothing in
    elim c.match-callee_of.branch [
      | in-Some+in_ok-put_caller w ↦
          subst (λ (rows : Vec (Vec ℕ Global) Global). CallsPut c.args.ops.now c.args.caller (c.ops.its-index + 1) c.args.rows.now.items rows.items)
          (sym w.rows-is)
          (calls_more c.args.ops.now c.args.caller c.ops.its-index c.args.rows.now.items c.ops.rows.items its
          (op_read c.args.ops.now c.ops.its-index c.ops-test.true) c.ops.invariant w.in-Some.callee w.put_caller.new.rows.items
          (sym c.callee_of.ensures ∙ w.in-Some.is) w.in_ok-put_caller.ensures.put)
      | in_default w ↦
          subst (λ (rows : Vec (Vec ℕ Global) Global). CallsPut c.args.ops.now c.args.caller (c.ops.its-index + 1) c.args.rows.now.items rows.items)
          (sym w.rows-is)
          (calls_pass c.args.ops.now c.args.caller c.ops.its-index c.args.rows.now.items c.ops.rows.items its
          (op_read c.args.ops.now c.ops.its-index c.ops-test.true) c.ops.invariant (sym c.callee_of.ensures ∙ w.in_default.is))
    ]
