-- What numbers in order say of the set of them: what a search finds, and what an insert leaves.
--     set_of numbers                 the numbers as a set
--     IsRising numbers               each number is less than all later ones
--     IsPlace number numbers place   the numbers in front of the place are less than the number, and the others greater
use Rattle.std.proofs.Common.{◌≡◌, ℕ, ◌+◌, ◌-◌, ◌<◌, ◌≤◌, Ordering, Bool, true, false, ◌&&◌, ◌||◌, List, [], ◌∷◌, length, get_or, Ok, Err, Result, is_ok, refl, sym, ap, ◌∙◌, inl, inr, arith}
use Rattle.std.specs.List.{insert, list_any, HoldsAt}
use Rattle.std.specs.List.Sorted.{IsStrictlySortedBy, IsPartitionPoint, IsBinarySearchResult, IsSearchInRange}
use Rattle.std.specs.Ordering.{nat_cmp, is_lt, is_eq, eq_by_cmp, ordering_reverse}
use Rattle.std.specs.declared.cmp.Ordering.TheVariants.{Less, Equal, Greater}
use Rattle.std.specs.Cmp.{Equal-is, nat_cmp_total}
use Rattle.std.specs.FinSet as set
use Rattle.std.proofs.lemmas.Bool.{cases_order, cases_lt}
use Rattle.std.proofs.lemmas.List.Edits.{length-insert, get_or-insert_at, get_or-insert_above, get_or-insert_below}
use Rattle.std.proofs.lemmas.List.Folds.{list_any_at, list_any_none}
use Rattle.std.proofs.lemmas.List.Sorted.{searchable_from_sorted, IsPermutation-insert, list_any-IsPermutation}
use Rattle.std.proofs.lemmas.Map.Keys.{Less-from_sorted, sorted_from_all_adjacent}
use Rattle.hs_macros.specs.Numbers.{Numbers}

-- the numbers as a set
abbrev pub set_of : List ℕ → Numbers
set_of numbers = set.from_list numbers

-- each number is less than all later ones
abbrev pub IsRising : List ℕ → Type 0
IsRising numbers = IsStrictlySortedBy nat_cmp numbers

-- no numbers rise
pub IsRising-none : IsRising []
unfolding IsStrictlySortedBy
IsRising-none = tt

-- the numbers in front of the place are less than the number, and the others are greater
abbrev pub IsPlace : ℕ → List ℕ → ℕ → Type 0
IsPlace number numbers place = IsPartitionPoint (λ other. nat_cmp other number ≡ Less) (λ other. nat_cmp other number ≡ Greater) numbers place

-- numbers that tie are equal
pub alike : set.IsAntisymmetric nat_cmp
alike = set.nat_cmp-IsAntisymmetric

-- two sets of numbers that hold the same are equal
pub same_set : (s t : Numbers) → ((q : ℕ) → set.contains s q ≡ set.contains t q) → s ≡ t
same_set s t = set.same_set nat_cmp_total alike s t

-- numbers that tie are in the same sets
pub contains_tied : (s : Numbers) (q x : ℕ) → eq_by_cmp nat_cmp q x ≡ true → set.contains s q ≡ set.contains s x
contains_tied s q x tied = sym (set.contains_tied nat_cmp_total s q x ((Equal-is (nat_cmp q x)).0 tied))

-- what a comparison answers, it answers the other way round for the two swapped
pub turned : (a b : ℕ) (answer : Ordering) → nat_cmp a b ≡ answer → nat_cmp b a ≡ ordering_reverse answer
turned a b answer is = nat_cmp_total.antisymm b a ∙ ap ordering_reverse is

-- ---- what a search finds

-- what the set of the numbers holds
contains-set_of : (numbers : List ℕ) (q : ℕ) → set.contains (set_of numbers) q ≡ list_any (λ number. eq_by_cmp nat_cmp q number) numbers
contains-set_of [] q = set.contains-empty nat_cmp q
contains-set_of (number ∷ numbers) q =
    set.contains-insert nat_cmp_total _ number q
    ∙ ap (λ later. eq_by_cmp nat_cmp q number || later) (contains-set_of numbers q)

-- a number that ties with one of the list is in the set
pub contains_found : (number : ℕ) (numbers : List ℕ) (at : ℕ) → at < length numbers
    → HoldsAt (λ other. nat_cmp other number ≡ Equal) numbers at → set.contains (set_of numbers) number ≡ true
contains_found number numbers at within tied =
    contains-set_of numbers number
    ∙ list_any_at (λ other. eq_by_cmp nat_cmp number other) numbers at number within
    (ap is_eq (turned (get_or numbers at number) number Equal (tied number)))

-- a number that has a place is not in the set
contains_absent : (number : ℕ) (numbers : List ℕ) (place : ℕ) → IsPlace number numbers place → set.contains (set_of numbers) number ≡ false
contains_absent number numbers place around =
    contains-set_of numbers number
    ∙ list_any_none (λ other. eq_by_cmp nat_cmp number other) numbers (λ at d within. elim (cases_lt at place) [
      | inl before ↦ ap is_eq (turned (get_or numbers at d) number Less (around.0 at d (omega arith) before))
      | inr after ↦ ap is_eq (turned (get_or numbers at d) number Greater (around.1 at d after within))
    ])

-- in numbers that rise, an earlier one is less than a later one
in_order : (numbers : List ℕ) (at later : ℕ) (d : ℕ) → IsRising numbers → at < later → later < length numbers
    → nat_cmp (get_or numbers at d) (get_or numbers later d) ≡ Less
in_order numbers at later d rising before within = Less-from_sorted nat_cmp numbers at later d rising before within

-- in numbers that rise, the place that a search answers is the number's
pub place_of_search : (number : ℕ) (numbers : List ℕ) (place : ℕ)
    → IsBinarySearchResult (λ other. nat_cmp other number) numbers (Err place) → IsRising numbers → IsPlace number numbers place
place_of_search number numbers place answer rising =
    answer (searchable_from_sorted nat_cmp_total (λ other. other) numbers number (λ at d _ within.
    ap is_lt (turned (get_or numbers at d) (get_or numbers (at + 1) d) Less (in_order numbers at (at + 1) d rising (omega arith) within))))

-- in numbers that rise, a search says whether the set holds the number
pub contains_searched : (number : ℕ) (numbers : List ℕ) (answer : Result ℕ ℕ) → IsSearchInRange answer (length numbers)
    → IsBinarySearchResult (λ other. nat_cmp other number) numbers answer → IsRising numbers
    → set.contains (set_of numbers) number ≡ is_ok answer
contains_searched number numbers (Ok at) within tied rising = contains_found number numbers at within tied
contains_searched number numbers (Err place) within split rising = contains_absent number numbers place (place_of_search number numbers place split rising)

-- ---- what an insert leaves

-- past the place, an element is one further on
get_or-insert_past : (numbers : List ℕ) (place : ℕ) (number d : ℕ) (at : ℕ) → place < at → place ≤ length numbers
    → get_or (insert numbers place number) at d ≡ get_or numbers (at - 1) d
get_or-insert_past numbers place number d at past within =
    let back : at ≡ at - 1 + 1 = omega arith in
    ap (λ n. get_or (insert numbers place number) n d) back ∙ get_or-insert_above numbers place number d (at - 1) (omega arith) within

-- two numbers are in order if those that they equal are
order_of : (first second : ℕ) {before after : ℕ} → first ≡ before → second ≡ after → nat_cmp before after ≡ Less
    → nat_cmp first second ≡ Less
order_of first second first_is second_is rising = (λ i. nat_cmp (first_is i) (second_is i)) ∙ rising

-- neighbours are in order if a number is put at its place
neighbours-insert : (number : ℕ) (numbers : List ℕ) (place : ℕ) → place ≤ length numbers → IsPlace number numbers place → IsRising numbers
    → (at : ℕ) (d : ℕ) → at < length numbers → nat_cmp (get_or (insert numbers place number) at d) (get_or (insert numbers place number) (at + 1) d) ≡ Less
neighbours-insert number numbers place within around rising at d inside =
    elim (cases_order (at + 1) place) [
      | inl before ↦ order_of _ _ (get_or-insert_below numbers place number d at (omega arith) within)
          (ap (λ n. get_or (insert numbers place number) n d) before ∙ get_or-insert_at numbers place number d within)
          (around.0 at d (omega arith) (omega arith))
      | inr (inl front) ↦ order_of _ _ (get_or-insert_below numbers place number d at (omega arith) within)
          (get_or-insert_below numbers place number d (at + 1) front within) (in_order numbers at (at + 1) d rising (omega arith) (omega arith))
      | inr (inr past) ↦ elim (cases_lt place at) [
        | inl later ↦ order_of _ _ (get_or-insert_past numbers place number d at later within) (get_or-insert_past numbers place number d (at + 1) past within)
            (in_order numbers (at - 1) (at + 1 - 1) d rising (omega arith) (omega arith))
        | inr at_most ↦
            let here : at ≡ place = omega arith in
            order_of _ _ (ap (λ n. get_or (insert numbers place number) n d) here ∙ get_or-insert_at numbers place number d within)
            (get_or-insert_past numbers place number d (at + 1) past within)
            (turned (get_or numbers (at + 1 - 1) d) number Greater (around.1 (at + 1 - 1) d (omega arith) (omega arith)))
      ]
    ]

-- numbers that rise still do, with one more at its place
pub IsRising-insert : (number : ℕ) (numbers : List ℕ) (place : ℕ) → place ≤ length numbers → IsPlace number numbers place → IsRising numbers
    → IsRising (insert numbers place number)
IsRising-insert number numbers place within around rising =
    let longer : length (insert numbers place number) ≡ length numbers + 1 = length-insert numbers place number within in
    sorted_from_all_adjacent nat_cmp_total (insert numbers place number) 0 (λ at inside.
    neighbours-insert number numbers place within around rising at 0 (omega arith))

-- the set of the numbers with one more
pub set_of-insert : (number : ℕ) (numbers : List ℕ) (place : ℕ) → set_of (insert numbers place number) ≡ set.insert (set_of numbers) number
set_of-insert number numbers place = same_set _ _ (λ q.
    contains-set_of (insert numbers place number) q
    ∙ sym (list_any-IsPermutation (λ other. eq_by_cmp nat_cmp q other) (number ∷ numbers) (insert numbers place number)
    (IsPermutation-insert numbers place number))
    ∙ sym (contains-set_of (number ∷ numbers) q))

-- a number that the set holds adds nothing
pub insert_held : (s : Numbers) (x : ℕ) → set.contains s x ≡ true → set.insert s x ≡ s
insert_held s x held = same_set _ _ (λ q. set.contains-insert nat_cmp_total s x q ∙ or_implied _ _ (λ tied. contains_tied s q x tied ∙ held))
  where
    -- what the second follows from adds nothing to it
    or_implied : (a b : Bool) → (a ≡ true → b ≡ true) → (a || b) ≡ b
    or_implied true b implied = sym (implied refl)
    or_implied false b implied = refl

-- a set adds nothing to one that it is in
pub union_within : (s t : Numbers) → set.is_subset s t ≡ true → set.union s t ≡ t
union_within s t within = same_set _ _ (λ q.
    set.contains-union nat_cmp_total s t q ∙ or_implied _ _ (set.is_subset-contains nat_cmp_total s t within q))
  where
    -- what the second follows from adds nothing to it
    or_implied : (a b : Bool) → (a ≡ true → b ≡ true) → (a || b) ≡ b
    or_implied true b implied = sym (implied refl)
    or_implied false b implied = refl

-- a set shares all with itself
pub intersection_itself : (s : Numbers) → set.intersection s s ≡ s
intersection_itself s = same_set _ _ (λ q. set.contains-intersection nat_cmp_total s s q ∙ and_itself (set.contains s q))
  where
    and_itself : (a : Bool) → (a && a) ≡ a
    and_itself true = refl
    and_itself false = refl

-- and adds nothing to itself
pub union_itself : (s : Numbers) → set.union s s ≡ s
union_itself s = same_set _ _ (λ q. set.contains-union nat_cmp_total s s q ∙ or_itself (set.contains s q))
  where
    or_itself : (a : Bool) → (a || a) ≡ a
    or_itself true = refl
    or_itself false = refl
