use Rattle.std.proofs.Common.{◌≡◌, ◌<◌, ◌≤◌, ◌↔◌, ℕ, Bool, List, length, arith, Contains, subst}
use Rattle.std.specs.declared.alloc.Global.{Global}
use Rattle.std.specs.declared.vec.Vec.{Vec}
use Rattle.hs_effects.proofs.CallersPut.{caller_is_there}
use Rattle.hs_effects.proofs.Exactly.{effects_exactly, small_number}
use Rattle.hs_effects.proofs.Growing.{width_same}
use Rattle.hs_effects.specs.Calling.{Gets, callers_from, whole_of}
use Rattle.hs_effects.specs.Effecting.{HasNumber}
use Rattle.hs_effects.specs.Owning.{Owns}
use Rattle.hs_effects.specs.Working.{IsIn}
use Rattle.hs_rows.specs.Sets.{width}
use Rattle.hs_effects.proofs.table.effects_with_restores.Goals as goal

-- each caller is a function of the program
pub closed-requires-clause-callers_in_range : goal.closed-requires-clause-callers_in_range
closed-requires-clause-callers_in_range c f caller has =
    let calls = (c.in_ok-callers.ensures.right f caller).0
    (subst (λ (rows : List (Vec ℕ Global)). Contains (callers_from rows f) caller) c.deref-2.ensures.value has) in
    let below : caller < length c.args.code.now.functions.items = caller_is_there (whole_of c.args.code.now) caller f calls in
    omega (arith, below, c.in_ok-own.ensures.functions)

-- chains of calls lead to what is got
pub returns-clause-exact : goal.returns-clause-exact
returns-clause-exact c = record {
  effects = λ f effect below.
      let count : c.in_ok-effects.effects.count ≡ c.in_ok-own.own.rows.count = c.in_ok-effects.ensures.size.count in
      let same : width c.in_ok-effects.effects ≡ width c.in_ok-own.own.rows =
      width_same c.in_ok-own.own.rows c.in_ok-effects.effects c.in_ok-effects.ensures.size in
      let enough : 6 ≤ width c.in_ok-own.own.rows = c.in_ok-own.ensures.numbers in
      let there : f < length c.args.code.now.functions.items = below in
      effects_exactly (whole_of c.args.code.now) c.args.restores.items c.requires.restores c.in_ok-callers.callers.items c.in_ok-own.own.rows
      c.in_ok-effects.effects c.in_ok-callers.ensures.right
      (subst (λ (rows : List (Vec Bool Global)). (g b : ℕ)
      → IsIn c.in_ok-own.own.rows g b ↔ Owns (HasNumber c.args.code.now.program.now.routines rows) (whole_of c.args.code.now) g b)
      c.deref.ensures.value c.in_ok-own.ensures.exact)
      (subst (λ (rows : List (Vec ℕ Global)). (g b : ℕ) → IsIn c.in_ok-effects.effects g b ↔ Gets rows (IsIn c.in_ok-own.own.rows) g b)
      c.deref-2.ensures.value c.in_ok-effects.ensures.exact)
      f effect (omega (arith, there, count, c.in_ok-own.ensures.functions))
      (small_number effect (width c.in_ok-effects.effects) (omega (arith, same, enough)));
  assigns = λ f g below within.
      let there : f < length c.args.code.now.functions.items = below in
      let inside : g < length c.args.code.now.program.now.globals = within in
      c.in_ok-assigned.ensures.exact f g (omega (arith, there, c.in_ok-assigned.ensures.functions))
      (omega (arith, inside, c.in_ok-assigned.ensures.globals));
  restores = c.requires.restores;
}
