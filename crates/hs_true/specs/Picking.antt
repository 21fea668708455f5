-- A value that is brought to the top of the stack, and the others (own).
--     Picks low stack w others      the value of the place `low`, and the others in their order
--     picks_value, picks_below, picks_above, ..      where the values are, and which handles they have
use Rattle.std.proofs.Common.{◌≡◌, ◌<◌, ◌≤◌, ◌-◌, ◌⊎◌, inl, inr, ℕ, zero, suc, Bool, true, false, List, [], ◌∷◌, length, Option, Some, None, refl, sym, ap, ◌∙◌, subst, arith, ◌==◌}
use Rattle.std.proofs.lemmas.Bool.Decides.{nat_tests}
use Rattle.std.proofs.lemmas.Option.{same_Some}
use Rattle.std.specs.List.{AllByRecursion}
use Rattle.hs_code_run.specs.Steps.{picked, under}
use Rattle.hs_hiding.specs.Holding.{Lacks}
use Rattle.hs_meaning.specs.Values.{Value}
use Rattle.hs_truth.specs.Places.{OthersLack, others_too, under_top, at_place, the_top}

-- ---- a value of the stack, and the others

-- the value of the place `low` is picked, and the others keep their order
pub data Picks : ℕ → List Value → Value → List Value → Type 0 where
  top : (w : Value) (rest : List Value) → Picks (length rest) (w ∷ rest) w rest
  lower : (low : ℕ) (v : Value) (stack : List Value) (w : Value) (others : List Value) → Picks low stack w others → Picks low (v ∷ stack) w (v ∷ others)

pub picks_length : (low : ℕ) (stack : List Value) (w : Value) (others : List Value) → Picks low stack w others → length stack ≡ suc (length others)
picks_length _ _ _ _ (top w rest) = refl
picks_length _ _ _ _ (lower low v stack w others is) = ap suc (picks_length low stack w others is)

pub picks_low : (low : ℕ) (stack : List Value) (w : Value) (others : List Value) → Picks low stack w others → low ≤ length others
picks_low _ _ _ _ (top w rest) = omega arith
picks_low _ _ _ _ (lower low v stack w others is) = higher low (length others) (picks_low low stack w others is)
  where
    higher : (a b : ℕ) → a ≤ b → a ≤ suc b
    higher a b so = omega (so, arith)

-- where the values are
pub picks_value : (low : ℕ) (stack : List Value) (w : Value) (others : List Value) → Picks low stack w others → at_place low stack ≡ Some w
picks_value _ _ _ _ (top w rest) = the_top (length rest) w rest refl
picks_value _ _ _ _ (lower low v stack w others is) =
    under_top low v stack (omega (picks_low low stack w others is, picks_length low stack w others is, arith)) ∙ picks_value low stack w others is

pub picks_below : (low : ℕ) (stack : List Value) (w : Value) (others : List Value) → Picks low stack w others → (i : ℕ) → i < low
    → at_place i others ≡ at_place i stack
picks_below _ _ _ _ (top w rest) i less = sym (under_top i w rest less)
picks_below _ _ _ _ (lower low v stack w others is) i less =
    under_top i v others (omega (less, picks_low low stack w others is, arith)) ∙ picks_below low stack w others is i less
    ∙ sym (under_top i v stack (omega (less, picks_low low stack w others is, picks_length low stack w others is, arith)))

pub picks_above : (low : ℕ) (stack : List Value) (w : Value) (others : List Value) → Picks low stack w others → (i : ℕ) → low ≤ i → i < length others
    → at_place i others ≡ at_place (suc i) stack
picks_above _ _ _ _ (top w rest) i high less = absurd (omega (high, less, arith))
picks_above _ _ _ _ (lower low v stack w others is) i high less =
    by_test (i == length others) refl (λ fewer. picks_above low stack w others is i high fewer)
  where
    by_test : (z : Bool) → (i == length others) ≡ z → (i < length others → at_place i others ≡ at_place (suc i) stack)
        → at_place i (v ∷ others) ≡ at_place (suc i) (v ∷ stack)
    by_test true so again =
        the_top i v others (grind (so, nat_tests, arith))
        ∙ sym (the_top (suc i) v stack (ap suc (grind (so, nat_tests, arith)) ∙ sym (picks_length low stack w others is)))
    by_test false so again =
        under_top i v others (grind (so, less, nat_tests, arith))
        ∙ again (grind (so, less, nat_tests, arith))
        ∙ sym (under_top (suc i) v stack (omega (picks_length low stack w others is, smaller, arith)))
      where
        smaller : i < length others
        smaller = grind (so, less, nat_tests, arith)

-- what has no handle of a block
pub picks_lack : (n low : ℕ) (stack : List Value) (w : Value) (others : List Value) → Picks low stack w others → AllByRecursion (Lacks n) stack
    → AllByRecursion (Lacks n) (w ∷ others)
picks_lack n _ _ _ _ (top w rest) all = all
picks_lack n _ _ _ _ (lower low v stack w others is) all = on (picks_lack n low stack w others is all.1)
  where
    on : AllByRecursion (Lacks n) (w ∷ others) → AllByRecursion (Lacks n) (w ∷ v ∷ others)
    on them = (them.0, (all.0, them.1))

-- past the end no place is left out
all_others : (n i : ℕ) (stack : List Value) → length stack ≤ i → OthersLack n i stack → AllByRecursion (Lacks n) stack
all_others n i [] high are = tt
all_others n i (v ∷ stack) high are = (it are.0, all_others n i stack (omega (high, arith)) are.1)
  where
    it : (i ≡ length stack) ⊎ Lacks n v → Lacks n v
    it (inl at) = absurd (omega (at, high, arith))
    it (inr lacks) = lacks

pub picks_others_below : (n low : ℕ) (stack : List Value) (w : Value) (others : List Value) → Picks low stack w others → (i : ℕ) → i < low
    → OthersLack n i stack → Lacks n w × OthersLack n i others
picks_others_below n _ _ _ _ (top w rest) i less are = (it are.0, are.1)
  where
    it : (i ≡ length rest) ⊎ Lacks n w → Lacks n w
    it (inl at) = absurd (omega (at, less, arith))
    it (inr lacks) = lacks
picks_others_below n _ _ _ _ (lower low v stack w others is) i less are = on (picks_others_below n low stack w others is i less are.1)
  where
    it : (i ≡ length stack) ⊎ Lacks n v → Lacks n v
    it (inl at) = absurd (omega (at, less, picks_low low stack w others is, picks_length low stack w others is, arith))
    it (inr lacks) = lacks

    on : Lacks n w × OthersLack n i others → Lacks n w × OthersLack n i (v ∷ others)
    on them = (them.0, (inr (it are.0), them.1))

-- the picked place is the one that is left out
pub picks_others_at : (n low : ℕ) (stack : List Value) (w : Value) (others : List Value) → Picks low stack w others → OthersLack n low stack
    → AllByRecursion (Lacks n) others
picks_others_at n _ _ _ _ (top w rest) are = all_others n (length rest) rest (omega arith) are.1
picks_others_at n _ _ _ _ (lower low v stack w others is) are = (it are.0, picks_others_at n low stack w others is are.1)
  where
    it : (low ≡ length stack) ⊎ Lacks n v → Lacks n v
    it (inl at) = absurd (omega (at, picks_low low stack w others is, picks_length low stack w others is, arith))
    it (inr lacks) = lacks

-- a place above it
pub picks_others_above : (n low : ℕ) (stack : List Value) (w : Value) (others : List Value) → Picks low stack w others → (i : ℕ) → low ≤ i
    → i < length others → OthersLack n (suc i) stack → Lacks n w × OthersLack n i others
picks_others_above n _ _ _ _ (top w rest) i high less are = absurd (omega (high, less, arith))
picks_others_above n _ _ _ _ (lower low v stack w others is) i high less are =
    by_test (i == length others) refl (λ fewer. picks_others_above n low stack w others is i high fewer are.1)
  where
    first : (suc i ≡ length stack) ⊎ Lacks n v → (i ≡ length others) ⊎ Lacks n v
    first (inl at) = inl (omega (at, picks_length low stack w others is, arith))
    first (inr lacks) = inr lacks

    all_lack : i ≡ length others → AllByRecursion (Lacks n) (w ∷ others)
    all_lack so =
        picks_lack n low stack w others is
        (all_others n (suc i) stack (omega (so, picks_length low stack w others is, arith)) are.1)

    on : Lacks n w × OthersLack n i others → Lacks n w × OthersLack n i (v ∷ others)
    on them = (them.0, (first are.0, them.1))

    by_test : (z : Bool) → (i == length others) ≡ z → (i < length others → Lacks n w × OthersLack n i others) → Lacks n w × OthersLack n i (v ∷ others)
    by_test true so again =
        ((all_lack (grind (so, nat_tests, arith))).0, (first are.0, others_too n i others (all_lack (grind (so, nat_tests, arith))).1))
    by_test false so again = on (again (grind (so, less, nat_tests, arith)))

-- what the machine picks
pub picked_is : (k : ℕ) (stack : List Value) (its : Value × List Value) → picked k stack ≡ Some its → Picks (length stack - suc k) stack its.0 its.1
picked_is k [] its is = absurd cc
picked_is zero (v ∷ stack) its is =
    subst (λ (x : Value × List Value). Picks (length (v ∷ stack) - 1) (v ∷ stack) x.0 x.1) (same_Some (v, stack) its is)
    (subst (λ low. Picks low (v ∷ stack) v stack) (sym (no_less (length stack))) (top v stack))
  where
    no_less : (a : ℕ) → suc a - 1 ≡ a
    no_less a = omega arith
picked_is (suc k) (v ∷ stack) its is = by_rest (picked k stack) refl is (λ it so. picked_is k stack it so)
  where
    one_less : (a b : ℕ) → suc a - suc b ≡ a - b
    one_less a b = omega arith

    by_rest : (found : Option (Value × List Value)) → picked k stack ≡ found → under v found ≡ Some its
        → ((it : Value × List Value) → picked k stack ≡ Some it → Picks (length stack - suc k) stack it.0 it.1)
        → Picks (length (v ∷ stack) - suc (suc k)) (v ∷ stack) its.0 its.1
    by_rest None so is again = absurd cc
    by_rest (Some it) so is again =
        subst (λ (x : Value × List Value). Picks (length (v ∷ stack) - suc (suc k)) (v ∷ stack) x.0 x.1) (same_Some (it.0, v ∷ it.1) its is)
        (subst (λ low. Picks low (v ∷ stack) it.0 (v ∷ it.1)) (sym (one_less (length stack) (suc k)))
        (lower (length stack - suc k) v stack it.0 it.1 (again it so)))
