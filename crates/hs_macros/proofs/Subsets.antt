-- A walk over two rows of numbers that rise decides whether the set of the one is in that of the other.
--     Decides own others s t      what is left of the rows decides whether s is in t
use Rattle.std.proofs.Common.{◌≡◌, ℕ, ◌<◌, ◌≤◌, Bool, true, false, List, [], ◌∷◌, length, refl, sym, ap, ◌∙◌, inl, inr, ◌⊎◌, arith}
use Rattle.std.specs.Ordering.{nat_cmp, is_eq, eq_by_cmp}
use Rattle.std.specs.declared.cmp.Ordering.TheVariants.{Less, Equal, Greater}
use Rattle.std.specs.Cmp.{tied_itself, nat_cmp_total}
use Rattle.std.specs.FinSet as set
use Rattle.std.proofs.lemmas.Bool.{both_ways, false_from_ne_true, or_cases, or_left, or_right}
use Rattle.std.proofs.lemmas.Map.Keys.{sorted_tail}
use Rattle.hs_macros.specs.Numbers.{Numbers}
use Rattle.hs_macros.proofs.Rising.{set_of, IsRising, alike, contains_tied, turned}
use Rattle.hs_macros.proofs.Rows.{rest, Compares, rest-cons, contains_behind, contains_before}

-- the rows rise, and what is left of them decides
pub record Decides (own others : List ℕ) (s t : Numbers) : Type 0 where
  pub own_rises : IsRising own
  pub others_rise : IsRising others
  pub same : set.is_subset (set_of own) (set_of others) ≡ set.is_subset s t

-- ---- sets with one number more

-- tests that imply each other are the same
same_test : (a b : Bool) → (a ≡ true → b ≡ true) → (b ≡ true → a ≡ true) → a ≡ b
same_test true b forth back = sym (forth refl)
same_test false true forth back = back refl
same_test false false forth back = refl

-- the set of no numbers is in every set
is_subset-empty : (t : Numbers) → set.is_subset set.empty t ≡ true
is_subset-empty t = set.contains-is_subset nat_cmp_total set.empty t (λ q held. absurd (both_ways _ (set.contains-empty nat_cmp q) held))

-- a set with a number that the other lacks is not in the other
is_subset_not : (s t : Numbers) (number : ℕ) → set.contains s number ≡ true → set.contains t number ≡ false → set.is_subset s t ≡ false
is_subset_not s t number held missing = false_from_ne_true _ (λ within. both_ways _ missing (set.is_subset-contains nat_cmp_total s t within number held))

-- the first number of a row is in it
contains_first : (number : ℕ) (row : List ℕ) → set.contains (set_of (number ∷ row)) number ≡ true
contains_first number row =
    set.contains-insert nat_cmp_total (set_of row) number number ∙ or_left _ _ (ap is_eq (tied_itself nat_cmp_total number))

-- a set still holds what it held, with one more
contains-insert_old : (s : Numbers) (number q : ℕ) → set.contains s q ≡ true → set.contains (set.insert s number) q ≡ true
contains-insert_old s number q held = set.contains-insert nat_cmp_total s number q ∙ or_right _ _ held

-- a set with one more holds nothing else
contains-insert_cases : (s : Numbers) (number q : ℕ) → set.contains (set.insert s number) q ≡ true
    → (eq_by_cmp nat_cmp q number ≡ true) ⊎ (set.contains s q ≡ true)
contains-insert_cases s number q held = or_cases _ _ (sym (set.contains-insert nat_cmp_total s number q) ∙ held)

-- what is not in a set is no other number of it
apart : {A : Type 0} (s : Numbers) (number q : ℕ) → set.contains s number ≡ false → set.contains s q ≡ true → eq_by_cmp nat_cmp q number ≡ true → A
apart s number q missing held tied = absurd (both_ways _ missing (sym (contains_tied s q number tied) ∙ held))

-- a number that the first set lacks changes nothing in the second
is_subset-insert_right : (s t : Numbers) (number : ℕ) → set.contains s number ≡ false → set.is_subset s (set.insert t number) ≡ set.is_subset s t
is_subset-insert_right s t number missing = same_test _ _
    (λ within. set.contains-is_subset nat_cmp_total s t (λ q held.
    elim (contains-insert_cases t number q (set.is_subset-contains nat_cmp_total s (set.insert t number) within q held)) [
      | inl tied ↦ apart s number q missing held tied
      | inr old ↦ old
    ]))
    (λ within. set.contains-is_subset nat_cmp_total s (set.insert t number) (λ q held.
    contains-insert_old t number q (set.is_subset-contains nat_cmp_total s t within q held)))

-- nor does one that both get
is_subset-insert_both : (s t : Numbers) (number : ℕ) → set.contains s number ≡ false
    → set.is_subset (set.insert s number) (set.insert t number) ≡ set.is_subset s t
is_subset-insert_both s t number missing = same_test _ _
    (λ within. sym (is_subset-insert_right s t number missing) ∙ set.contains-is_subset nat_cmp_total s (set.insert t number) (λ q held.
    set.is_subset-contains nat_cmp_total (set.insert s number) (set.insert t number) within q (contains-insert_old s number q held)))
    (λ within. set.contains-is_subset nat_cmp_total (set.insert s number) (set.insert t number) (λ q held.
    elim (contains-insert_cases s number q held) [
      | inl tied ↦ set.contains-insert nat_cmp_total t number q ∙ or_left _ _ tied
      | inr old ↦ contains-insert_old t number q (set.is_subset-contains nat_cmp_total s t within q old)
    ]))

-- ---- the steps of the walk

-- a number that both rows have is passed
pub Decides-Equal : (own others : List ℕ) (s t : Numbers) → Compares own others Equal
    → Decides own others s t → Decides (rest own) (rest others) s t
Decides-Equal [] others s t equal left = absurd (omega arith)
Decides-Equal (number ∷ own) [] s t equal left = absurd (omega arith)
Decides-Equal (number ∷ own) (other ∷ others) s t equal left =
    let missing = contains_behind number own left.own_rises in
    let even : other ≡ number = sym (alike number other equal.2) in
    rw (rest-cons number own, rest-cons other others) (record {
      own_rises = sorted_tail nat_cmp number own left.own_rises;
      others_rise = sorted_tail nat_cmp other others left.others_rise;
      same =
          sym (is_subset-insert_both (set_of own) (set_of others) number missing)
          ∙ ap (λ number'. set.is_subset (set.insert (set_of own) number) (set.insert (set_of others) number')) (sym even)
          ∙ left.same;
    })

-- a number that only the second has is passed
pub Decides-Greater : (own others : List ℕ) (s t : Numbers) → Compares own others Greater
    → Decides own others s t → Decides own (rest others) s t
Decides-Greater [] others s t greater left = absurd (omega arith)
Decides-Greater (number ∷ own) [] s t greater left = absurd (omega arith)
Decides-Greater (number ∷ own) (other ∷ others) s t greater left =
    let missing = contains_before other number own (turned number other Greater greater.2) left.own_rises in
    rw (rest-cons other others) (record {
      own_rises = left.own_rises;
      others_rise = sorted_tail nat_cmp other others left.others_rise;
      same = sym (is_subset-insert_right (set_of (number ∷ own)) (set_of others) other missing) ∙ left.same;
    })

-- a number that only the first has refutes it
pub Decides-Less : (own others : List ℕ) (s t : Numbers) → Compares own others Less
    → Decides own others s t → false ≡ set.is_subset s t
Decides-Less [] others s t less left = absurd (omega arith)
Decides-Less (number ∷ own) [] s t less left = absurd (omega arith)
Decides-Less (number ∷ own) (other ∷ others) s t less left =
    sym (is_subset_not (set_of (number ∷ own)) (set_of (other ∷ others)) number (contains_first number own)
    (contains_before number other others less.2 left.others_rise))
    ∙ left.same

-- and so does one of the first if the second has none left
pub Decides-no_others : (own others : List ℕ) (s t : Numbers) → 1 ≤ length own → length others < 1 → Decides own others s t → false ≡ set.is_subset s t
Decides-no_others [] others s t own_some no_others left = absurd (omega arith)
Decides-no_others (number ∷ own) (other ∷ others) s t own_some no_others left = absurd (omega arith)
Decides-no_others (number ∷ own) [] s t own_some no_others left =
    sym (is_subset_not (set_of (number ∷ own)) set.empty number (contains_first number own) (set.contains-empty nat_cmp number)) ∙ left.same

-- if the first has none left, it is in the second
pub Decides-no_own : (own others : List ℕ) (s t : Numbers) → length own < 1 → Decides own others s t → true ≡ set.is_subset s t
Decides-no_own (number ∷ own) others s t no_own left = absurd (omega arith)
Decides-no_own [] others s t no_own left = sym (is_subset-empty (set_of others)) ∙ left.same
