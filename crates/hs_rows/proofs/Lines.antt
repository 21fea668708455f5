-- A row that is written word by word.
--     Written          so many words of a row are written, and no others
--     Written-next     one more
--     Met, Met-next    whether a word changed
use Rattle.std.proofs.Common.{◌≡◌, ◌≢◌, ◌<◌, ◌≤◌, ◌⊎◌, ℕ, zero, suc, ◌+◌, ◌*◌, ◌/◌, ◌%◌, ◌^◌, ◌==◌, Bool, true, false, not, ◌||◌, ap, sym, subst, ◌∙◌, refl, inl, inr, List, length, get_or, set, bit_and, arith, IsTrue, IsFalse}
use Rattle.std.proofs.lemmas.Bool.{cases_eq, cases_lt}
use Rattle.std.proofs.lemmas.Bool.Decides.{eqb_tells}
use Rattle.std.proofs.lemmas.List.{get_or-set_other, length-set}
use Rattle.std.proofs.lemmas.Grind.{get_or-set_at}
use Rattle.std.proofs.lemmas.Nat.{row_fits, mul-le}
use Rattle.std.proofs.lemmas.Nat.Bits.{same_from_bits_below, bit_at-lt}
use Rattle.std.specs.Int.{bit_at}
use Rattle.hs_rows.proofs.Words.{in_row}
use Rattle.hs_rows.specs.Sets.{Sets, bit_in, place_of}

-- so many words of the row have their value
pub record Written (old new : List ℕ) (per to count : ℕ) (value : ℕ → ℕ) : Type 0 where
  pub len : length new ≡ length old
  pub done : (j : ℕ) → j < count → get_or new (to * per + j) 0 ≡ value j
  pub rest : (i : ℕ) → (i < to * per) ⊎ (to * per + count ≤ i) → get_or new i 0 ≡ get_or old i 0

pub Written-none : (old : List ℕ) (per to : ℕ) (value : ℕ → ℕ) → Written old old per to 0 value
Written-none old per to value = record { len = refl; done = λ j h. absurd (omega arith); rest = λ i h. refl }

-- a word of a row
pub in_line :
    (its : Sets) (rows per per' row place : ℕ) (old new : List ℕ) → record { count = rows; per = per; words = old } ≡ its → length old ≡ rows * per
    → length new ≡ length old → per' ≡ per → row < its.count → place < per' → row * per' + place < length new
in_line its rows per per' row place old new view size len same inside within =
    let below : row < rows = subst (λ (it : Sets). row < it.count) (sym view) inside in
    let fits : row * per' + per' ≤ rows * per' = row_fits row per' rows per' below (omega arith) in
    let all : length new ≡ rows * per' = len ∙ size ∙ ap (λ n. rows * n) (sym same) in
    omega arith

-- the next word is read from what it was
pub source_kept :
    (old new : List ℕ) (per to count from : ℕ) (value : ℕ → ℕ) → Written old new per to count value → count < per
    → get_or new (from * per + count) 0 ≡ get_or old (from * per + count) 0
source_kept old new per to count from value w within = by_order (cases_lt from to)
  where
    by_order : (from < to) ⊎ (to ≤ from) → get_or new (from * per + count) 0 ≡ get_or old (from * per + count) 0
    by_order (inl h) =
        let fits : from * per + per ≤ to * per = row_fits from per to per h (omega arith) in
        w.rest (from * per + count) (inl (omega arith))
    by_order (inr h) =
        let above : to * per ≤ from * per = mul-le to per from per h (omega arith) in
        w.rest (from * per + count) (inr (omega arith))

pub Written-next :
    (old new : List ℕ) (per to count word : ℕ) (value : ℕ → ℕ) → Written old new per to count value → to * per + count < length new → word ≡ value count
    → Written old (set new (to * per + count) word) per to (suc count) value
Written-next old new per to count word value w there is = record {
  len = length-set new (to * per + count) word ∙ w.len;
  done = λ j h. by_place j h (cases_eq j count);
  rest = λ i h. get_or-set_other new (to * per + count) i word 0 (λ e. outside i e h) ∙ w.rest i (weaker i h);
}
  where
    outside : (i : ℕ) → i ≡ to * per + count → (i < to * per) ⊎ (to * per + suc count ≤ i) → ⊥
    outside i e (inl h) = omega arith
    outside i e (inr h) = omega arith

    weaker : (i : ℕ) → (i < to * per) ⊎ (to * per + suc count ≤ i) → (i < to * per) ⊎ (to * per + count ≤ i)
    weaker i (inl h) = inl h
    weaker i (inr h) = inr (omega arith)

    by_place : (j : ℕ) → j < suc count → (j ≡ count) ⊎ (j ≡ count → ⊥) → get_or (set new (to * per + count) word) (to * per + j) 0 ≡ value j
    by_place j h (inl e) =
        get_or-set_at new (to * per + count) (to * per + j) word 0 (ap (λ n. to * per + n) e) there ∙ is ∙ ap value (sym e)
    by_place j h (inr ne) =
        let before : j < count = omega arith in
        get_or-set_other new (to * per + count) (to * per + j) word 0 (λ e. ne (omega arith)) ∙ w.done j before

-- ---- a row at its end

-- a number of the row
abbrev pub bit_there : List ℕ → ℕ → ℕ → ℕ → Bool
bit_there words per row bit = bit_in (get_or words (place_of per row bit) 0) (bit % 64)

pub written_bit :
    (old new : List ℕ) (per to bit : ℕ) (value : ℕ → ℕ) → Written old new per to per value → bit < 64 * per
    → bit_there new per to bit ≡ bit_in (value (bit / 64)) (bit % 64)
written_bit old new per to bit value w within = ap (λ n. bit_in n (bit % 64)) (w.done (bit / 64) (in_row per bit within))

pub rest_bit :
    (old new : List ℕ) (per to r b : ℕ) (value : ℕ → ℕ) → Written old new per to per value → b < 64 * per → r ≢ to
    → bit_there new per r b ≡ bit_there old per r b
rest_bit old new per to r b value w within other = ap (λ n. bit_in n (b % 64)) (w.rest (place_of per r b) (by_order (cases_lt r to)))
  where
    by_order : (r < to) ⊎ (to ≤ r) → (place_of per r b < to * per) ⊎ (to * per + per ≤ place_of per r b)
    by_order (inl h) =
        let fits : r * per + per ≤ to * per = row_fits r per to per h (omega arith) in
        let q : b / 64 < per = in_row per b within in
        inl (omega arith)
    by_order (inr h) =
        let fits : to * per + per ≤ r * per = row_fits to per r per (omega (arith, other)) (omega arith) in
        inr (omega arith)

-- ---- whether a word changed

abbrev pub met : List ℕ → ℕ → ℕ → ℕ → ℕ → ℕ
met old per to from j = bit_and (get_or old (to * per + j) 0) (get_or old (from * per + j) 0)

-- so many words of the row are as before
abbrev pub SameWords : List ℕ → ℕ → ℕ → ℕ → ℕ → Type 0
SameWords old per to from count =
    (j i : ℕ) → j < count → i < 64 → bit_in (met old per to from j) i ≡ bit_in (get_or old (to * per + j) 0) i

-- what a Bool says of it
abbrev pub Tells : Bool → Type 0 → Type 0
Tells true fact = ¬ fact
Tells false fact = fact

-- by the Bool
pub as_fact : {P : Type 0} (b : Bool) → IsFalse b → Tells b P → P
as_fact true h t = grind arith
as_fact false h t = t

pub as_refused : {P : Type 0} (b : Bool) → IsTrue b → Tells b P → ¬ P
as_refused true h t = t
as_refused false h t = grind arith

pub Tells-none : (old : List ℕ) (per to from : ℕ) → Tells false (SameWords old per to from 0)
Tells-none old per to from = λ j i h k. absurd (omega arith)

pub Tells-next :
    (old : List ℕ) (per to from count before after : ℕ) (changed : Bool) → Tells changed (SameWords old per to from count)
    → before ≡ get_or old (to * per + count) 0 → after ≡ met old per to from count → before < 2 ^ 64 → after < 2 ^ 64
    → Tells (changed || not (after == before)) (SameWords old per to from (suc count))
Tells-next old per to from count before after true h is its fits fits' = λ all. h (λ j i k l. all j i (omega arith) l)
Tells-next old per to from count before after false h is its fits fits' = by_word (eqb_tells after before)
  where
    by_word : (((after == before) ≡ true) × (after ≡ before)) ⊎ (((after == before) ≡ false) × (after ≢ before))
        → Tells (not (after == before)) (SameWords old per to from (suc count))
    by_word (inl e) =
        rw e.0 (λ j i k l. by_place j i k l (cases_eq j count))
      where
        by_place : (j i : ℕ) → j < suc count → i < 64 → (j ≡ count) ⊎ (j ≡ count → ⊥)
            → bit_in (met old per to from j) i ≡ bit_in (get_or old (to * per + j) 0) i
        by_place j i k l (inl here) =
            ap (λ n. bit_in (met old per to from n) i) here ∙ ap (λ n. bit_in n i) (sym its ∙ e.1 ∙ is)
            ∙ ap (λ n. bit_in (get_or old (to * per + n) 0) i) (sym here)
        by_place j i k l (inr ne) = h j i (omega (arith, ne)) l
    by_word (inr e) =
        rw e.0 (λ all. e.1 (same_from_bits_below 64 after before fits' fits (λ i l. same_bit (bit_at after i) (bit_at before i)
        (bit_at-lt after i) (bit_at-lt before i) (ap (λ n. bit_in n i) its ∙ all count i (omega arith) l ∙ ap (λ n. bit_in n i) (sym is)))))
      where
        same_bit : (x y : ℕ) → x < 2 → y < 2 → (x == 1) ≡ (y == 1) → x ≡ y
        same_bit zero zero h k e = refl
        same_bit zero (suc zero) h k e = grind arith
        same_bit zero (suc (suc y)) h k e = absurd (omega arith)
        same_bit (suc zero) zero h k e = grind arith
        same_bit (suc zero) (suc zero) h k e = refl
        same_bit (suc zero) (suc (suc y)) h k e = absurd (omega arith)
        same_bit (suc (suc x)) y h k e = absurd (omega arith)
