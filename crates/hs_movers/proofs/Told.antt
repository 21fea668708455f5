-- What movers tell that count their decisions.
use Rattle.std.proofs.Common.{◌≡◌, ℕ, zero, suc, ◌-◌, ◌<◌, Some, refl, ap, ◌∙◌, arith}
use native.Mathlib.Numerals.{unary_clauses}
use Rattle.hs_heap.specs.declared.decision.Decision.{Decision}
use Rattle.hs_movers.specs.Movers.{Decides, most_decisions, no_block, repeated}
use Rattle.hs_movers.specs.Seeds.{next_state, decision_for, seeded}

-- the count in code
pub counted : most_decisions ≡ 4000001
unfolding most_decisions
counted = refl

-- none is left
pub none_repeated : (count : ℕ) (decision given : Decision) → count ≡ 0 → given ≡ no_block
    → Decides (Some (repeated count decision)) given (Some (repeated count decision))
unfolding repeated
none_repeated zero decision given end is = (is, refl)
none_repeated (suc more) decision given end is = absurd (omega arith)

-- the next one
pub one_repeated : (count : ℕ) (decision given : Decision) → 0 < count → given ≡ decision
    → Decides (Some (repeated count decision)) given (Some (repeated (count - 1) decision))
unfolding repeated
one_repeated zero decision given some is = absurd (omega arith)
one_repeated (suc more) decision given some is = simp unary_clauses (is, refl)

-- none is left
pub none_drawn : (count state : ℕ) (given : Decision) → count ≡ 0 → given ≡ no_block
    → Decides (Some (seeded count state)) given (Some (seeded count state))
unfolding seeded
none_drawn zero state given end is = (is, refl)
none_drawn (suc more) state given end is = absurd (omega arith)

-- the next one
pub one_drawn : (count state after : ℕ) (given : Decision) → 0 < count → after ≡ next_state state → given ≡ decision_for after
    → Decides (Some (seeded count state)) given (Some (seeded (count - 1) after))
unfolding seeded
one_drawn zero state after given some step is = absurd (omega arith)
one_drawn (suc more) state after given some step is =
    simp unary_clauses (is ∙ ap decision_for step, ap (λ (from : ℕ). Some (seeded more from)) step)
