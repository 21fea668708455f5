-- A part of a list of variables, and the numbers in it.
--     part_of from count list      so many variables from that place on
--     part_number, part_other      the number in the part is that in the list less the place, or the length of the part
use Rattle.std.proofs.Common.{◌≡◌, ◌<◌, ◌≤◌, ◌⊎◌, inl, inr, ℕ, zero, suc, ◌+◌, ◌-◌, Bool, true, false, ap, sym, ◌∙◌, refl, arith, List, [], ◌∷◌, length, take, drop, slice_get}
use Rattle.std.proofs.lemmas.Bool.{cases_lt}
use Rattle.std.proofs.lemmas.List.{length-take-le, length-drop}
use Rattle.std.proofs.lemmas.Option.{slice_get_within}
use Rattle.hs_fact_rows.specs.Cells.{index_of, found_at}
use Rattle.hs_fact_rows.specs.Laws.Numbers.{index_found, index_least}
use Rattle.hs_facts.specs.Names.{same_variable}
use Rattle.hs_restores.specs.Laws.Numbering.{IsDistinct}
use Rattle.hs_tree.specs.declared.head.Variable.{Variable}

-- ---- parts

-- so many variables from that place on
abbrev pub part_of : ℕ → ℕ → List Variable → List Variable
part_of from count list = take count (drop from list)

pub part_length : (list : List Variable) (from count : ℕ) → from + count ≤ length list → length (part_of from count list) ≡ count
part_length list from count fits =
    length-take-le count (drop from list) (let rest = length-drop from list in omega (arith, rest, fits))

first_at : (list : List Variable) (count k : ℕ) → k < count → slice_get (take count list) k ≡ slice_get list k
first_at [] zero k below = absurd (omega arith)
first_at [] (suc count) k below = refl
first_at (x ∷ rest) zero k below = absurd (omega arith)
first_at (x ∷ rest) (suc count) zero below = refl
first_at (x ∷ rest) (suc count) (suc k) below = first_at rest count k (omega arith)

rest_at : (list : List Variable) (from k : ℕ) → slice_get (drop from list) k ≡ slice_get list (from + k)
rest_at list zero k = ap (slice_get list) (let e : k ≡ 0 + k = omega arith in e)
rest_at [] (suc from) k = refl
rest_at (x ∷ rest) (suc from) k =
    rest_at rest from k ∙ ap (slice_get (x ∷ rest)) (let e : suc (from + k) ≡ suc from + k = omega arith in e)

part_at : (list : List Variable) (from count k : ℕ) → k < count → slice_get (part_of from count list) k ≡ slice_get list (from + k)
part_at list from count k below = first_at (drop from list) count k below ∙ rest_at list from k

-- ---- numbers

first_number : (list : List Variable) (count : ℕ) (v : Variable) → index_of list v < count → index_of (take count list) v ≡ index_of list v
first_number [] zero v below = refl
first_number [] (suc count) v below = refl
first_number (x ∷ rest) zero v below = absurd (omega arith)
first_number (x ∷ rest) (suc count) v below = by_test (same_variable x v) below (first_number rest count v)
  where
    by_test : (t : Bool) → found_at t (index_of rest v) < suc count
        → (index_of rest v < count → index_of (take count rest) v ≡ index_of rest v)
        → found_at t (index_of (take count rest) v) ≡ found_at t (index_of rest v)
    by_test true b next = refl
    by_test false b next = ap (λ n. suc n) (next (omega (arith, b)))

rest_number : (list : List Variable) (from : ℕ) (v : Variable) → from ≤ index_of list v → index_of list v < length list
    → index_of (drop from list) v + from ≡ index_of list v
rest_number list zero v low there = omega arith
rest_number [] (suc from) v low there = absurd (omega (arith, there))
rest_number (x ∷ rest) (suc from) v low there = by_test (same_variable x v) low there (rest_number rest from v)
  where
    by_test : (t : Bool) → suc from ≤ found_at t (index_of rest v) → found_at t (index_of rest v) < suc (length rest)
        → (from ≤ index_of rest v → index_of rest v < length rest → index_of (drop from rest) v + from ≡ index_of rest v)
        → index_of (drop from rest) v + suc from ≡ found_at t (index_of rest v)
    by_test true b h next = absurd (omega (arith, b))
    by_test false b h next = let same = next (omega (arith, b)) (omega (arith, h)) in omega (arith, same)

pub part_number : (list : List Variable) (from count : ℕ) (v : Variable) → from + count ≤ length list → from ≤ index_of list v
    → index_of list v < from + count → index_of (part_of from count list) v ≡ index_of list v - from
part_number list from count v fits low high =
    let rest = rest_number list from v low (omega (arith, high, fits)) in
    first_number (drop from list) count v (omega (arith, rest, high)) ∙ (let e : index_of (drop from list) v ≡ index_of list v - from = omega (arith, rest) in e)

-- what is in the part is in the list
pub part_there : (list : List Variable) (from count : ℕ) → IsDistinct list → from + count ≤ length list → (v : Variable)
    → index_of (part_of from count list) v < length (part_of from count list)
    → index_of list v ≡ from + index_of (part_of from count list) v
part_there list from count distinct fits v there =
    let len = part_length list from count fits in
    distinct (from + index_of (part_of from count list) v) v
    (sym (part_at list from count (index_of (part_of from count list) v) (omega (arith, len, there))) ∙ index_found (part_of from count list) v there)

pub part_other : (list : List Variable) (from count : ℕ) → IsDistinct list → from + count ≤ length list → (v : Variable)
    → (from ≤ index_of list v → index_of list v < from + count → ⊥) → index_of (part_of from count list) v ≡ count
part_other list from count distinct fits v outside =
    by_place (cases_lt (index_of (part_of from count list) v) (length (part_of from count list)))
  where
    by_place : (index_of (part_of from count list) v < length (part_of from count list))
        ⊎ (length (part_of from count list) ≤ index_of (part_of from count list) v) → index_of (part_of from count list) v ≡ count
    by_place (inl there) =
        let at = part_there list from count distinct fits v there in
        let len = part_length list from count fits in
        absurd (outside (omega (arith, at)) (omega (arith, at, len, there)))
    by_place (inr past) =
        let len = part_length list from count fits in let most = index_least (part_of from count list) v in omega (arith, len, most, past)

pub part_distinct : (list : List Variable) (from count : ℕ) → IsDistinct list → from + count ≤ length list → IsDistinct (part_of from count list)
part_distinct list from count distinct fits i x there =
    let len = part_length list from count fits in
    let below : i < count = let within = slice_get_within (part_of from count list) i x there in omega (arith, within, len) in
    let at = distinct (from + i) x (sym (part_at list from count i below) ∙ there) in
    part_number list from count x fits (omega (arith, at)) (omega (arith, at, below)) ∙ (let e : index_of list x - from ≡ i = omega (arith, at) in e)
