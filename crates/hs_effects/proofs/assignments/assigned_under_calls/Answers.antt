use Rattle.std.proofs.Common.{◌<◌, ◌↔◌, ℕ, List, length, arith, Contains, subst}
use Rattle.std.specs.declared.alloc.Global.{Global}
use Rattle.std.specs.declared.vec.Vec.{Vec}
use Rattle.hs_effects.proofs.CallersPut.{caller_is_there}
use Rattle.hs_effects.proofs.Leading.{assigns_exactly}
use Rattle.hs_effects.specs.Calling.{Gets, callers_from, whole_of}
use Rattle.hs_effects.specs.Working.{IsIn}
use Rattle.hs_effects.proofs.assignments.assigned_under_calls.Goals as goal

-- each caller is a function of the program
pub closed-requires-clause-callers_in_range : goal.closed-requires-clause-callers_in_range
closed-requires-clause-callers_in_range c f caller has =
    let calls = (c.in_ok-callers.ensures.right f caller).0
    (subst (λ (rows : List (Vec ℕ Global)). Contains (callers_from rows f) caller) c.deref.ensures.value has) in
    let below : caller < length c.args.code.now.functions.items = caller_is_there (whole_of c.args.code.now) caller f calls in
    omega (arith, below, c.in_ok-own.ensures.functions)

-- chains of calls lead to what is got
pub returns-clause-exact : goal.returns-clause-exact
returns-clause-exact c =
    assigns_exactly (whole_of c.args.code.now) c.in_ok-callers.callers.items c.in_ok-own.own.rows c.in_ok-rows.rows c.in_ok-callers.ensures.right
    c.in_ok-own.ensures.exact
    (subst (λ (rows : List (Vec ℕ Global)). (f b : ℕ) → IsIn c.in_ok-rows.rows f b ↔ Gets rows (IsIn c.in_ok-own.own.rows) f b) c.deref.ensures.value
    c.in_ok-rows.ensures.exact)
