-- The effects of one operation are put in one after the other.
use Rattle.std.proofs.Common.{◌≡◌, ◌⊎◌, inl, inr, ℕ, true}
use Rattle.hs_effects.proofs.Growing.{Grows-then}
use Rattle.hs_effects.specs.Effecting.{flag, number_of}
use Rattle.hs_effects.specs.Working.{Grows, Only}
use Rattle.hs_effects.specs.declared.op_effects.OpEffects.{OpEffects}
use Rattle.hs_effects.specs.declared.work.Work.{Work}
use Rattle.hs_facts.specs.Effects.{Effect, moves, purges, unlocks, marks, bits, disposes}

module _ (function : ℕ) (its : OpEffects) where
  -- one of them
  abbrev pub If : Effect → ℕ → ℕ → Type 0
  If effect f b = (flag its effect ≡ true) × Only function (number_of effect) f b

  abbrev pub Each : ℕ → ℕ → Type 0
  Each f b = (f ≡ function) × ((effect : Effect) × (b ≡ number_of effect) × (flag its effect ≡ true))

  to_each : (effect : Effect) (f b : ℕ) → If effect f b → Each f b
  to_each effect f b is = (is.1.0, (effect, is.1.1, is.0))

  abbrev Two : ℕ → ℕ → Type 0
  Two f b = If moves f b ⊎ If purges f b

  abbrev Three : ℕ → ℕ → Type 0
  Three f b = Two f b ⊎ If unlocks f b

  abbrev Four : ℕ → ℕ → Type 0
  Four f b = Three f b ⊎ If marks f b

  abbrev Five : ℕ → ℕ → Type 0
  Five f b = Four f b ⊎ If bits f b

  two_each : (f b : ℕ) → Two f b → Each f b
  two_each f b (inl is) = to_each moves f b is
  two_each f b (inr is) = to_each purges f b is

  three_each : (f b : ℕ) → Three f b → Each f b
  three_each f b (inl is) = two_each f b is
  three_each f b (inr is) = to_each unlocks f b is

  four_each : (f b : ℕ) → Four f b → Each f b
  four_each f b (inl is) = three_each f b is
  four_each f b (inr is) = to_each marks f b is

  five_each : (f b : ℕ) → Five f b → Each f b
  five_each f b (inl is) = four_each f b is
  five_each f b (inr is) = to_each bits f b is

  by_effect : (f b : ℕ) → f ≡ function → (effect : Effect) → b ≡ number_of effect → flag its effect ≡ true → Five f b ⊎ If disposes f b
  by_effect f b same moves is has = inl (inl (inl (inl (inl (has, (same, is))))))
  by_effect f b same purges is has = inl (inl (inl (inl (inr (has, (same, is))))))
  by_effect f b same unlocks is has = inl (inl (inl (inr (has, (same, is)))))
  by_effect f b same marks is has = inl (inl (inr (has, (same, is))))
  by_effect f b same bits is has = inl (inr (has, (same, is)))
  by_effect f b same disposes is has = inr (has, (same, is))

  pub six : (zeroth first second third fourth fifth sixth : Work) → Grows (If moves) zeroth first → Grows (If purges) first second
      → Grows (If unlocks) second third → Grows (If marks) third fourth → Grows (If bits) fourth fifth → Grows (If disposes) fifth sixth
      → Grows Each zeroth sixth
  six zeroth first second third fourth fifth sixth a b c d e f =
      Grows-then Five (If disposes) Each zeroth fifth sixth
      (Grows-then Four (If bits) Five zeroth fourth fifth
      (Grows-then Three (If marks) Four zeroth third fourth
      (Grows-then Two (If unlocks) Three zeroth second third
      (Grows-then (If moves) (If purges) Two zeroth first second a b (λ g n is. is) (λ g n is. inl is) (λ g n is. inr is))
      c (λ g n is. is) (λ g n is. inl is) (λ g n is. inr is))
      d (λ g n is. is) (λ g n is. inl is) (λ g n is. inr is))
      e (λ g n is. is) (λ g n is. inl is) (λ g n is. inr is))
      f (λ g n is. by_effect g n is.0 is.1.0 is.1.1 is.1.2) five_each (to_each disposes)
