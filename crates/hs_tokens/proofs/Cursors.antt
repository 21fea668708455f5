-- What is ahead of a cursor: the start of a text, a front of it, and the first byte of phases 1 and 2.
use Rattle.std.proofs.Common.{◌≡◌, ℕ, zero, suc, ◌+◌, ◌-◌, ◌≤◌, min, Bool, true, false, not, ◌&&◌, ◌||◌, ◌==◌, List, [], ◌∷◌, length, take, drop, get_or, refl, sym, ap, inl, inr, arith}
use Rattle.std.proofs.lemmas.List.{take_all}
use Rattle.std.proofs.lemmas.Bool.{cases_Bool}
use Rattle.hs_base.specs.declared.pos.Pos.{Pos}
use Rattle.hs_base.specs.Text.{ends_line, next_place}
use Rattle.hs_tokens.specs.Lines.{Placed, placed_from, begins_with_end, unspliced_after, unspliced, logical, is_itself}
use Rattle.hs_tokens.specs.Cursor.{ahead_of}

-- a front of a front is the shorter front
pub take_both : {X : Type 0} (m n : ℕ) (xs : List X) → take m (take n xs) ≡ take (min n m) xs
take_both zero n xs = let none : min n zero ≡ zero = omega arith in rw none refl
take_both (suc m) zero xs = let none : min zero (suc m) ≡ zero = omega arith in rw none refl
take_both (suc m) (suc n) [] = let some : min (suc n) (suc m) ≡ suc (min n m) = omega arith in rw some refl
take_both (suc m) (suc n) (x ∷ xs) =
    let some : min (suc n) (suc m) ≡ suc (min n m) = omega arith in
    rw some (ap (λ rest. x ∷ rest) (take_both m n xs))

-- a front of what is ahead
pub front_of : (pos : Pos) (rest : List ℕ) (left len : ℕ) → ahead_of pos rest (min left len) ≡ take len (ahead_of pos rest left)
unfolding ahead_of
front_of pos rest left len = sym (take_both len left (unspliced (placed_from pos rest)))

-- neither phase makes a text longer
length-placed_from : (pos : Pos) (text : List ℕ) → length (placed_from pos text) ≤ length text
length-placed_from pos [] = omega arith
length-placed_from pos (byte ∷ rest) =
    let below : Pos = record { file = pos.file; line = pos.line + 1; col = 1 } in
    let beside : Pos = record { file = pos.file; line = pos.line; col = pos.col + 1 } in
    let ended : length (placed_from below rest) ≤ length rest = length-placed_from below rest in
    let further : length (placed_from beside rest) ≤ length rest = length-placed_from beside rest in
    elim (cases_Bool (ends_line byte rest)) [
      | inl ends ↦ rw ends (omega arith)
      | inr goes ↦ elim (cases_Bool (byte == 13)) [ inl cr ↦ rw (goes, cr) (omega arith) | inr other ↦ rw (goes, other) (omega arith) ]
    ]

length-unspliced_after : (skip : Bool) (bytes : List Placed) → length (unspliced_after skip bytes) ≤ length bytes
length-unspliced_after skip [] = omega arith
length-unspliced_after true (placed ∷ rest) = omega (arith, length-unspliced_after false rest)
length-unspliced_after false (placed ∷ rest) =
    let kept : length (unspliced_after false rest) ≤ length rest = length-unspliced_after false rest in
    let skipped : length (unspliced_after true rest) ≤ length rest = length-unspliced_after true rest in
    elim (cases_Bool ((placed.byte == 92) && begins_with_end rest)) [ inl splice ↦ rw splice (omega arith) | inr plain ↦ rw plain (omega arith) ]

-- the whole text is ahead of its start
pub whole_text : (file : ℕ) (text : List ℕ) → ahead_of (record { file = file; line = 1; col = 1 }) text (length text) ≡ logical file text
unfolding ahead_of
whole_text file text =
    let start : Pos = record { file = file; line = 1; col = 1 } in
    let shorter : length (unspliced (placed_from start text)) ≤ length (placed_from start text) = length-unspliced_after false (placed_from start text) in
    take_all (length text) (unspliced (placed_from start text)) (omega (arith, length-placed_from start text))

-- the first byte of phase 1
module _ (pos : Pos) where
  -- a line's end is one LF
  pub end_here : (text : List ℕ) → 1 ≤ length text → ends_line (get_or text 0 0) (drop 1 text) ≡ true
      → placed_from pos text ≡ record { byte = 10; pos = pos } ∷ placed_from (next_place pos (get_or text 0 0) (drop 1 text)) (drop 1 text)
  end_here [] some ends = absurd (omega arith)
  end_here (byte ∷ rest) some ends = rw ends refl

  -- another byte stays
  pub other_here : (text : List ℕ) → 1 ≤ length text → ends_line (get_or text 0 0) (drop 1 text) ≡ false → (get_or text 0 0 == 13) ≡ false
      → placed_from pos text
      ≡ record { byte = get_or text 0 0; pos = pos } ∷ placed_from (next_place pos (get_or text 0 0) (drop 1 text)) (drop 1 text)
  other_here [] some goes other = absurd (omega arith)
  other_here (byte ∷ rest) some goes other = rw (goes, other) refl

  -- the CR of a CR LF is left out
  pub return_here : (text : List ℕ) → 1 ≤ length text → ends_line (get_or text 0 0) (drop 1 text) ≡ false → (get_or text 0 0 == 13) ≡ true
      → placed_from pos text ≡ placed_from (next_place pos (get_or text 0 0) (drop 1 text)) (drop 1 text)
  return_here [] some goes cr = absurd (omega arith)
  return_here (byte ∷ rest) some goes cr = rw (goes, cr) refl

-- the first byte of phase 2
pub next_of : (pos next : Pos) (rest after : List ℕ) (left : ℕ) (byte : Placed) → 1 ≤ left
    → unspliced (placed_from pos rest) ≡ byte ∷ unspliced (placed_from next after)
    → ahead_of pos rest left ≡ byte ∷ ahead_of next after (left - 1)
unfolding ahead_of
next_of pos next rest after zero byte some same = absurd (omega arith)
next_of pos next rest after (suc left) byte some same =
    let less : suc left - 1 ≡ left = omega arith in
    rw (same, less) refl

-- nothing is ahead if no byte counts
pub none_left : (pos : Pos) (rest : List ℕ) (left : ℕ) → left ≡ 0 → ahead_of pos rest left ≡ []
unfolding ahead_of
none_left pos rest left none = rw none refl

-- nor at the end
pub none_of : (pos : Pos) (rest : List ℕ) (left : ℕ) → unspliced (placed_from pos rest) ≡ [] → ahead_of pos rest left ≡ []
unfolding ahead_of
none_of pos rest zero same = refl
none_of pos rest (suc left) same = rw same refl

-- what a byte is not, if both phases leave it as it is
pub is_itself_parts : (byte : ℕ) → is_itself byte ≡ true → ((byte == 92) ≡ false) × ((byte == 10) ≡ false) × ((byte == 13) ≡ false)
is_itself_parts byte is = by_tests (byte == 92) (byte == 10) (byte == 13) is
  where
    by_tests : (a b c : Bool) → not (a || b || c) ≡ true → (a ≡ false) × (b ≡ false) × (c ≡ false)
    by_tests false false false is = (refl, refl, refl)
    by_tests false false true is = cc
    by_tests false true c is = cc
    by_tests true b c is = cc

-- a byte that both phases leave as it is
pub itself_here : (pos : Pos) (rest others : List ℕ) (byte left : ℕ) → rest ≡ byte ∷ others → 1 ≤ left → is_itself byte ≡ true
    → ahead_of pos rest left
    ≡ record { byte = byte; pos = pos } ∷ ahead_of (record { file = pos.file; line = pos.line; col = pos.col + 1 }) others (left - 1)
unfolding ahead_of
itself_here pos rest others byte zero first more is = absurd (omega arith)
itself_here pos rest others byte (suc left) first more is =
    let less : suc left - 1 ≡ left = omega arith in
    let parts : ((byte == 92) ≡ false) × ((byte == 10) ≡ false) × ((byte == 13) ≡ false) = is_itself_parts byte is in
    rw first (rw (parts.1, parts.2, parts.0, less) refl)
