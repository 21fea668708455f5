-- Rows of numbers that rise, of which a walk takes the first numbers: what they hold, and what rises.
--     first numbers, rest numbers     the first number of a row, and those after it
--     Compares own others answer      both rows have a first number, and the two compare so
--     holds row q                     the row has the number
--     IsBelow number row              each number of the row is greater than this one
use Rattle.std.proofs.Common.{◌≡◌, ℕ, ◌-◌, ◌≤◌, Ordering, Bool, false, ◌||◌, List, [], ◌∷◌, ◌++◌, length, take, drop, get_or, sym, ap, subst, ◌∙◌, append_assoc, arith}
use Rattle.std.specs.List.{AllByRecursion}
use Rattle.std.specs.List.Sorted.{IsStrictlySortedBy}
use Rattle.std.specs.Ordering.{nat_cmp, is_eq, eq_by_cmp}
use Rattle.std.specs.declared.cmp.Ordering.TheVariants.{Less}
use Rattle.std.specs.Cmp.{nat_cmp_total}
use Rattle.std.specs.FinSet as set
use Rattle.std.proofs.Math.Bool.{or_assoc}
use Rattle.std.proofs.lemmas.List.{take_all}
use Rattle.std.proofs.lemmas.Map.Keys.{sorted_head, sorted_tail}
use Rattle.hs_macros.proofs.Rising.{set_of, IsRising, alike}

-- the first number of a row
abbrev pub first : List ℕ → ℕ
first numbers = get_or numbers 0 0

-- those after it
abbrev pub rest : List ℕ → List ℕ
rest numbers = take (length numbers - 1) (drop 1 numbers)

-- both rows have a first number, and the two compare so
abbrev pub Compares : List ℕ → List ℕ → Ordering → Type 0
Compares own others answer = (1 ≤ length own) × (1 ≤ length others) × (nat_cmp (first own) (first others) ≡ answer)

-- the row has the number
abbrev pub holds : List ℕ → ℕ → Bool
holds row q = set.contains (set_of row) q

-- after the first number stand the others
pub rest-cons : (number : ℕ) (numbers : List ℕ) → rest (number ∷ numbers) ≡ numbers
rest-cons number numbers = take_all (length (number ∷ numbers) - 1) numbers (omega arith)

-- ---- what a row holds

-- what a row with one more number in front holds
pub contains-cons : (number : ℕ) (row : List ℕ) (q : ℕ) → holds (number ∷ row) q ≡ (eq_by_cmp nat_cmp q number || holds row q)
contains-cons number row q = set.contains-insert nat_cmp_total (set_of row) number q

-- the same in the words of an equal number
pub contains-cons_even : (number other : ℕ) (row : List ℕ) (q : ℕ) → other ≡ number
    → holds (other ∷ row) q ≡ (eq_by_cmp nat_cmp q number || holds row q)
contains-cons_even number other row q even = contains-cons other row q ∙ ap (λ number'. eq_by_cmp nat_cmp q number' || holds row q) even

-- what two rows hold together
pub contains-append : (front back : List ℕ) (q : ℕ)
    → holds (front ++ back) q ≡ (holds front q || holds back q)
contains-append [] back q = ap (λ held. held || holds back q) (sym (set.contains-empty nat_cmp q))
contains-append (number ∷ front) back q =
    contains-cons number (front ++ back) q
    ∙ ap (λ held. eq_by_cmp nat_cmp q number || held) (contains-append front back q)
    ∙ sym (or_assoc (eq_by_cmp nat_cmp q number) (holds front q) (holds back q))
    ∙ ap (λ held. held || holds back q) (sym (contains-cons number front q))

-- what a row with one more number at the end holds
pub contains-push : (found : List ℕ) (number : ℕ) (q : ℕ)
    → holds (found ++ number ∷ []) q ≡ (eq_by_cmp nat_cmp q number || holds found q)
contains-push found number q =
    ap (λ s. set.contains s q) (set.from_list_push nat_cmp_total alike found number)
    ∙ set.contains-insert nat_cmp_total (set_of found) number q

-- ---- what a row that rises lacks

-- each number of the row is greater than this one
abbrev pub IsBelow : ℕ → List ℕ → Type 0
IsBelow number row = AllByRecursion (λ other. nat_cmp number other ≡ Less) row

-- what is less than a number is less than each that is greater than the number
IsBelow-Less : (less number : ℕ) (row : List ℕ) → nat_cmp less number ≡ Less → IsBelow number row → IsBelow less row
IsBelow-Less less number [] under above = tt
IsBelow-Less less number (other ∷ row) under above =
    (nat_cmp_total.trans less number other under above.0, IsBelow-Less less number row under above.1)

-- a number that is less than each of a row is not in it
contains_below : (number : ℕ) (row : List ℕ) → IsBelow number row → set.contains (set.from_list {R = nat_cmp} row) number ≡ false
contains_below number [] above = set.contains-empty nat_cmp number
contains_below number (other ∷ row) above =
    set.contains-insert nat_cmp_total (set.from_list row) other number
    ∙ ap (λ answer. is_eq answer || set.contains (set.from_list {R = nat_cmp} row) number) above.0
    ∙ contains_below number row above.1

-- the first number of a row that rises is not after itself
pub contains_behind : (number : ℕ) (row : List ℕ) → IsRising (number ∷ row) → set.contains (set.from_list {R = nat_cmp} row) number ≡ false
contains_behind number row rising = contains_below number row (sorted_head nat_cmp number row rising)

-- a number that is less than the first of a row that rises is not in the row
pub contains_before : (less number : ℕ) (row : List ℕ) → nat_cmp less number ≡ Less → IsRising (number ∷ row)
    → set.contains (set.from_list {R = nat_cmp} (number ∷ row)) less ≡ false
contains_before less number row under rising =
    contains_below less (number ∷ row) (under, IsBelow-Less less number row under (sorted_head nat_cmp number row rising))

-- ---- what rises

-- without the number in the middle, a number that is less than each is still
IsBelow-skip : (number : ℕ) (front : List ℕ) (middle : ℕ) (row : List ℕ)
    → IsBelow number (front ++ middle ∷ row) → IsBelow number (front ++ row)
IsBelow-skip number [] middle row above = above.1
IsBelow-skip number (other ∷ front) middle row above = (above.0, IsBelow-skip number front middle row above.1)

-- without the number in the middle, numbers that rise still do
pub IsRising-skip : (front : List ℕ) (middle : ℕ) (row : List ℕ) → IsRising (front ++ middle ∷ row) → IsRising (front ++ row)
unfolding IsStrictlySortedBy
IsRising-skip [] middle row rising = rising.1
IsRising-skip (number ∷ front) middle row rising = (IsBelow-skip number front middle row rising.0, IsRising-skip front middle row rising.1)

-- what is less than the numbers in front is less than all, if it is less than those after them
IsBelow-between : (number : ℕ) (front : List ℕ) (less : ℕ) (others row : List ℕ)
    → IsBelow number (front ++ less ∷ others) → IsBelow number (front ++ row) → IsBelow number (front ++ less ∷ row)
IsBelow-between number [] less others row above above' = (above.0, above')
IsBelow-between number (other ∷ front) less others row above above' = (above.0, IsBelow-between number front less others row above.1 above'.1)

-- a number goes before the first of a row if it is less than that
pub IsRising-between : (front : List ℕ) (less : ℕ) (others : List ℕ) (number : ℕ) (row : List ℕ) → nat_cmp less number ≡ Less
    → IsRising (front ++ less ∷ others) → IsRising (front ++ number ∷ row) → IsRising (front ++ less ∷ number ∷ row)
unfolding IsStrictlySortedBy
IsRising-between [] less others number row under rising rising' = ((under, IsBelow-Less less number row under rising'.0), rising')
IsRising-between (first' ∷ front) less others number row under rising rising' =
    (IsBelow-between first' front less others (number ∷ row) rising.0 rising'.0, IsRising-between front less others number row under rising.1 rising'.1)

-- the numbers in front rise by themselves
pub IsRising-front : (front row : List ℕ) → IsRising (front ++ row) → IsRising front
unfolding IsStrictlySortedBy
IsRising-front [] row rising = tt
IsRising-front (number ∷ front) row rising = (below_front front rising.0, IsRising-front front row rising.1)
  where
    -- less than all is less than those in front
    below_front : (front' : List ℕ) → IsBelow number (front' ++ row) → IsBelow number front'
    below_front [] above = tt
    below_front (other ∷ front') above = (above.0, below_front front' above.1)

-- the numbers after rise by themselves
pub IsRising-back : (front row : List ℕ) → IsRising (front ++ row) → IsRising row
IsRising-back [] row rising = rising
IsRising-back (number ∷ front) row rising = IsRising-back front row (sorted_tail nat_cmp number (front ++ row) rising)

-- the first of what is left goes after the numbers found
pub IsRising-push : (found : List ℕ) (number : ℕ) (row : List ℕ) → IsRising (found ++ number ∷ row)
    → IsRising ((found ++ number ∷ []) ++ row)
IsRising-push found number row rising =
    subst IsRising (sym (append_assoc found (number ∷ []) row)) rising

-- and so does a number that equals it
pub IsRising-push_even : (found : List ℕ) (number other : ℕ) (row : List ℕ) → other ≡ number → IsRising (found ++ other ∷ row)
    → IsRising ((found ++ number ∷ []) ++ row)
IsRising-push_even found number other row even rising =
    IsRising-push found number row (subst (λ (number' : ℕ). IsRising (found ++ number' ∷ row)) even rising)
