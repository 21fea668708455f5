-- What an operation gives of the facts With and Saved is what its step gives of them in numbers.
use Rattle.std.proofs.Common.{◌≡◌, ◌≢◌, ◌<◌, ◌≤◌, ◌⊎◌, ℕ, zero, suc, ◌==◌, nat_lt, Bool, true, false, not, ◌&&◌, ◌||◌, ap, sym, subst, ◌∙◌, refl, inl, inr, arith, if◌then◌else◌, List, [], ◌∷◌, length, slice_get, Some}
use Rattle.std.proofs.lemmas.Bool.{cases_eq, cases_lt}
use Rattle.std.proofs.lemmas.Bool.Decides.{nat_tests}
use Rattle.hs_fact_rows.specs.Cells.{index_of, found_at}
use Rattle.hs_fact_rows.specs.Given.{gone}
use Rattle.hs_tree.specs.declared.head.Variable.{Variable}
use Rattle.hs_tree.specs.declared.head.Variable.TheVariants as name
use Rattle.hs_facts.specs.Names.{same_variable}

-- ---- tests

pub true_not_false : {P : Type 0} → true ≡ false → P
true_not_false h = grind arith

pub false_not_true : {P : Type 0} → false ≡ true → P
false_not_true h = grind arith

pub both : (a b : Bool) → (a && b) ≡ true → (a ≡ true) × (b ≡ true)
both true b h = (refl, h)
both false b h = false_not_true h

pub both_true : (a b : Bool) → a ≡ true → b ≡ true → (a && b) ≡ true
both_true a b h k = rw h k

pub either : (a b : Bool) → (a || b) ≡ true → (a ≡ true) ⊎ (b ≡ true)
either true b h = inl refl
either false b h = inr h

pub either_left : (a b : Bool) → a ≡ true → (a || b) ≡ true
either_left a b h = rw h refl

pub either_right : (a b : Bool) → b ≡ true → (a || b) ≡ true
either_right true b h = refl
either_right false b h = h

pub not_true : (a : Bool) → not a ≡ true → a ≡ false
not_true true h = false_not_true h
not_true false h = refl

pub same_numbers : (a b : ℕ) → (a == b) ≡ true → a ≡ b
same_numbers a b h = grind (arith, nat_tests)

pub less_numbers : (a b : ℕ) → nat_lt a b ≡ true → a < b
less_numbers a b h = grind (arith, nat_tests)

pub same_numbers_not : (a b : ℕ) → a ≢ b → (a == b) ≡ false
same_numbers_not a b h = grind (arith, nat_tests)

pub same_number : (a b : ℕ) → a ≡ b → (a == b) ≡ true
same_number a b h = grind (arith, nat_tests)

pub less_number : (a b : ℕ) → a < b → nat_lt a b ≡ true
less_number a b h = grind (arith, nat_tests)

pub least_number : (a b : ℕ) → b ≤ a → nat_lt a b ≡ false
least_number a b h = grind (arith, nat_tests)

-- a choice by an equation of numbers
pub chosen : (a b : ℕ) (x y : Bool) → (if a == b then x else y) ≡ true → ((a ≡ b) × (x ≡ true)) ⊎ ((a ≢ b) × (y ≡ true))
chosen a b x y h = by_test (cases_eq a b)
  where
    by_test : (a ≡ b) ⊎ (a ≡ b → ⊥) → ((a ≡ b) × (x ≡ true)) ⊎ ((a ≢ b) × (y ≡ true))
    by_test (inl e) = inl (e, rw (same_number a b e) at h)
    by_test (inr ne) = inr (ne, rw (same_numbers_not a b ne) at h)

pub choose : (a b : ℕ) (x y : Bool) → a ≡ b → x ≡ true → (if a == b then x else y) ≡ true
choose a b x y e h = rw (same_number a b e) h

pub choose_not : (a b : ℕ) (x y : Bool) → a ≢ b → y ≡ true → (if a == b then x else y) ≡ true
choose_not a b x y ne h = rw (same_numbers_not a b ne) h

pub chosen_below : (a b : ℕ) (x y : Bool) → (if nat_lt a b then x else y) ≡ true → ((a < b) × (x ≡ true)) ⊎ ((b ≤ a) × (y ≡ true))
chosen_below a b x y h = by_test (cases_lt a b)
  where
    by_test : (a < b) ⊎ (b ≤ a) → ((a < b) × (x ≡ true)) ⊎ ((b ≤ a) × (y ≡ true))
    by_test (inl e) = inl (e, rw (less_number a b e) at h)
    by_test (inr ne) = inr (ne, rw (least_number a b ne) at h)

-- ---- variables by number

pub same_variables : (a b : Variable) → same_variable a b ≡ true → a ≡ b
same_variables (name.Global a) (name.Global b) h = ap name.Global (same_numbers a b h)
same_variables (name.Global a) (name.Local b) h = false_not_true h
same_variables (name.Local a) (name.Global b) h = false_not_true h
same_variables (name.Local a) (name.Local b) h = ap name.Local (same_numbers a b h)

pub same_itself : (a : Variable) → same_variable a a ≡ true
same_itself (name.Global a) = same_number a a refl
same_itself (name.Local a) = same_number a a refl

pub other_variables : (a b : Variable) → (a ≡ b → ⊥) → same_variable a b ≡ false
other_variables a b ne = by_test (same_variable a b) refl
  where
    by_test : (t : Bool) → same_variable a b ≡ t → same_variable a b ≡ false
    by_test true e = absurd (ne (same_variables a b e))
    by_test false e = e

pub index_found : (list : List Variable) (v : Variable) → index_of list v < length list → slice_get list (index_of list v) ≡ Some v
index_found [] v h = absurd (omega arith)
index_found (x ∷ rest) v h = by_test (same_variable x v) refl h (λ k. index_found rest v k)
  where
    further_on : suc (index_of rest v) < suc (length rest) → index_of rest v < length rest
    further_on k = omega arith

    by_test : (t : Bool) → same_variable x v ≡ t → found_at (same_variable x v) (index_of rest v) < suc (length rest)
        → (index_of rest v < length rest → slice_get rest (index_of rest v) ≡ Some v)
        → slice_get (x ∷ rest) (found_at (same_variable x v) (index_of rest v)) ≡ Some v
    by_test true e k found = rw e (ap Some (same_variables x v e))
    by_test false e k found = rw e (found (further_on (rw e at k)))

pub some_one : {A : Type 0} (a b : A) → Some a ≡ Some b → a ≡ b
some_one a b h = cc

pub index_one : (list : List Variable) (x v : Variable) → index_of list v < length list → index_of list x ≡ index_of list v → x ≡ v
index_one list x v h e =
    some_one x v (sym (index_found list x (subst (λ n. n < length list) (sym e) h)) ∙ ap (slice_get list) e ∙ index_found list v h)

-- if a variable is in the list, the numbers are one exactly if the variables are
pub index_turned : (list : List Variable) (x v : Variable) → index_of list x < length list → (index_of list x == index_of list v) ≡ same_variable x v
index_turned list x v h = by_test (same_variable x v) refl
  where
    by_test : (t : Bool) → same_variable x v ≡ t → (index_of list x == index_of list v) ≡ same_variable x v
    by_test true e = same_number (index_of list x) (index_of list v) (ap (index_of list) (same_variables x v e)) ∙ sym e
    by_test false e =
        same_numbers_not (index_of list x) (index_of list v) (λ same. true_not_false (sym (same_itself x) ∙ ap (λ y. same_variable x y)
        (sym (index_one list v x h (sym same))) ∙ e))
        ∙ sym e

-- past the list nothing is gone
pub gone_past : (assigned : ℕ → Bool) (list : List Variable) (i : ℕ) → length list ≤ i → gone assigned list i ≡ false
gone_past assigned [] i h = refl
gone_past assigned (x ∷ rest) zero h = absurd (omega arith)
gone_past assigned (x ∷ rest) (suc i) h = gone_past assigned rest i (omega arith)

-- a variable that is in no list has the number after it
pub index_least : (list : List Variable) (v : Variable) → index_of list v ≤ length list
index_least [] v = omega arith
index_least (x ∷ rest) v = by_test (same_variable x v) (index_least rest v)
  where
    by_test : (t : Bool) → index_of rest v ≤ length rest → found_at t (index_of rest v) ≤ suc (length rest)
    by_test true h = omega arith
    by_test false h = omega (arith, h)
