-- Places of the stack of a call, counted from 0 at its bottom (own).
--     at_place i stack           the value of a place
--     OthersLack n i stack       no other place has a handle of block n
--     below_place, under_top, ..      what is taken away or put on top changes no lower place
use Rattle.std.proofs.Common.{ℕ, zero, suc, List, [], ◌∷◌, Option, Some, None, if◌then◌else◌, ◌==◌, length, ◌⊎◌, ◌≡◌, ◌<◌, ◌≤◌, inl, inr, Bool, true, false, refl, sym, ◌∙◌, arith, subst, ◌-◌, true≢false}
use Rattle.std.proofs.lemmas.Bool.Decides.{nat_tests}
use Rattle.std.proofs.lemmas.Option.{none-some, same_Some}
use Rattle.std.specs.List.{AllByRecursion}
use Rattle.hs_code_run.specs.Steps.{below, holds, taken_onto}
use Rattle.hs_hiding.specs.Holding.{Lacks}
use Rattle.hs_meaning.specs.Values.{Value}

-- the value of a place of the stack, counted from 0 at its bottom
abbrev pub at_place : ℕ → List Value → Option Value
at_place i [] = None
at_place i (v ∷ rest) = if i == length rest then Some v else at_place i rest

-- no other place has a handle of the block
abbrev pub OthersLack : ℕ → ℕ → List Value → Type 0
OthersLack n i [] = Unit {0}
OthersLack n i (v ∷ rest) = ((i ≡ length rest) ⊎ Lacks n v) × OthersLack n i rest

-- ---- places

pub under_top : (i : ℕ) (v : Value) (stack : List Value) → i < length stack → at_place i (v ∷ stack) ≡ at_place i stack
under_top i v stack low = by_test (i == length stack) refl
  where
    by_test : (z : Bool) → (i == length stack) ≡ z → (if z then Some v else at_place i stack) ≡ at_place i stack
    by_test true is = absurd (grind (is, low, nat_tests, arith))
    by_test false is = refl

pub the_top : (i : ℕ) (v : Value) (stack : List Value) → i ≡ length stack → at_place i (v ∷ stack) ≡ Some v
the_top i v stack so = by_test (i == length stack) refl
  where
    by_test : (z : Bool) → (i == length stack) ≡ z → (if z then Some v else at_place i stack) ≡ Some v
    by_test true is = refl
    by_test false is = absurd (grind (is, so, nat_tests, arith))

below_short : (k : ℕ) (stack : List Value) → length (below k stack) ≤ length stack
below_short zero stack = omega arith
below_short (suc k) [] = omega arith
below_short (suc k) (v ∷ stack) = step (length (below k stack)) (length stack) (below_short k stack)
  where
    step : (a b : ℕ) → a ≤ b → a ≤ suc b
    step a b is = omega (is, arith)

low_too : (i a b : ℕ) → i < a → a ≤ b → i < b
low_too i a b low is = omega (low, is, arith)

pub below_place : (i k : ℕ) (stack : List Value) → i < length (below k stack) → at_place i (below k stack) ≡ at_place i stack
below_place i zero stack low = refl
below_place i (suc k) [] low = refl
below_place i (suc k) (v ∷ stack) low =
    below_place i k stack low ∙ sym (under_top i v stack (low_too i (length (below k stack)) (length stack) low (below_short k stack)))

-- a place with a value is below the top
pub place_low : (i : ℕ) (stack : List Value) (v : Value) → at_place i stack ≡ Some v → i < length stack
place_low i [] v is = absurd (none-some v is)
place_low i (u ∷ stack) v is = by_test (i == length stack) refl is (λ is. place_low i stack v is)
  where
    at_top : (a b : ℕ) → (a == b) ≡ true → a < suc b
    at_top a b is = grind (is, nat_tests, arith)

    lower : (a b : ℕ) → a < b → a < suc b
    lower a b is = omega (is, arith)

    by_test : (z : Bool) → (i == length stack) ≡ z → (if z then Some u else at_place i stack) ≡ Some v → (at_place i stack ≡ Some v → i < length stack)
        → i < suc (length stack)
    by_test true so is each = at_top i (length stack) so
    by_test false so is each = lower i (length stack) (each is)

-- the others of a place that stays lack it
pub others_below : (n i k : ℕ) (stack : List Value) → OthersLack n i stack → OthersLack n i (below k stack)
others_below n i zero stack are = are
others_below n i (suc k) [] are = are
others_below n i (suc k) (v ∷ stack) are = others_below n i k stack are.1

pub not_here : (i n : ℕ) → i < n → i ≡ n → ⊥
not_here i n low is = omega (low, is, arith)

pub taken_lack : (n i k : ℕ) (stack onto : List Value) → i < length (below k stack) → OthersLack n i stack → AllByRecursion (Lacks n) onto
    → AllByRecursion (Lacks n) (taken_onto k stack onto)
taken_lack n i zero stack onto low are is = is
taken_lack n i (suc k) [] onto low are is = is
taken_lack n i (suc k) (v ∷ stack) onto low are is = taken_lack n i k stack (v ∷ onto) low are.1 (lacks are.0, is)
  where
    lacks : (i ≡ length stack) ⊎ Lacks n v → Lacks n v
    lacks (inl at) = absurd (not_here i (length stack) (low_too i (length (below k stack)) (length stack) low (below_short k stack)) at)
    lacks (inr it) = it

pub others_at : (n i j : ℕ) (v : Value) (stack : List Value) → OthersLack n i stack → at_place j stack ≡ Some v → (j ≡ i → ⊥) → Lacks n v
others_at n i j v [] are is apart = absurd (none-some v is)
others_at n i j v (u ∷ stack) are is apart = by_test (j == length stack) refl is (λ is. others_at n i j v stack are.1 is apart)
  where
    same : (j == length stack) ≡ true → i ≡ length stack → j ≡ i
    same is so = grind (is, so, nat_tests, arith)

    lacks : (j == length stack) ≡ true → (i ≡ length stack) ⊎ Lacks n u → Lacks n u
    lacks is (inl so) = absurd (apart (same is so))
    lacks is (inr it) = it

    by_test : (z : Bool) → (j == length stack) ≡ z → (if z then Some u else at_place j stack) ≡ Some v → (at_place j stack ≡ Some v → Lacks n v) → Lacks n v
    by_test true is so each = subst (Lacks n) (same_Some u v so) (lacks is are.0)
    by_test false is so each = each so

-- each place
at_lacks : (n i : ℕ) (v : Value) (stack : List Value) → AllByRecursion (Lacks n) stack → at_place i stack ≡ Some v → Lacks n v
at_lacks n i v [] are is = absurd (none-some v is)
at_lacks n i v (u ∷ stack) are is = by_test (i == length stack) is (λ is. at_lacks n i v stack are.1 is)
  where
    by_test : (z : Bool) → (if z then Some u else at_place i stack) ≡ Some v → (at_place i stack ≡ Some v → Lacks n v) → Lacks n v
    by_test true so each = subst (Lacks n) (same_Some u v so) are.0
    by_test false so each = each so

pub others_too : (n i : ℕ) (stack : List Value) → AllByRecursion (Lacks n) stack → OthersLack n i stack
others_too n i [] are = tt
others_too n i (v ∷ stack) are = (inr are.0, others_too n i stack are.1)

-- ---- lists of values

pub all_taken : (P : Value → Type 0) (k : ℕ) (stack onto : List Value) → AllByRecursion P stack → AllByRecursion P onto
    → AllByRecursion P (taken_onto k stack onto)
all_taken P zero stack onto are is = is
all_taken P (suc k) [] onto are is = is
all_taken P (suc k) (v ∷ stack) onto are is = all_taken P k stack (v ∷ onto) are.1 (are.0, is)

pub all_below : (P : Value → Type 0) (k : ℕ) (stack : List Value) → AllByRecursion P stack → AllByRecursion P (below k stack)
all_below P zero stack are = are
all_below P (suc k) [] are = are
all_below P (suc k) (v ∷ stack) are = all_below P k stack are.1

-- as many values are left as are not taken
pub below_length : (k : ℕ) (stack : List Value) → holds k stack ≡ true → length stack - k ≡ length (below k stack)
below_length zero stack is = omega arith
below_length (suc k) [] is = absurd (true≢false (sym is))
below_length (suc k) (v ∷ stack) is = less (length stack) k ∙ below_length k stack is
  where
    less : (a b : ℕ) → suc a - suc b ≡ a - b
    less a b = omega arith
