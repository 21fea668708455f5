-- What a contract sees of words that are read and written.
use Rattle.std.proofs.Common.{◌≡◌, ◌<◌, ◌≤◌, ◌⊎◌, ℕ, zero, ◌+◌, ◌*◌, ◌/◌, ◌%◌, ◌^◌, ◌==◌, true, false, not, ◌&&◌, ap, sym, subst, ◌∙◌, refl, inl, inr, List, length, get_or, set, replicate, nat_eq, bit_and, bit_or, arith, w64}
use Rattle.std.proofs.lemmas.Bool.{cases_lt}
use Rattle.std.proofs.lemmas.List.{get_or_default, get_or-replicate, get_or_past}
use Rattle.std.proofs.Math.ListN.{length-replicate}
use Rattle.std.proofs.lemmas.Grind.{get_or-set_at}
use Rattle.std.proofs.lemmas.Nat.{row_fits, mod_below}
use Rattle.std.proofs.lemmas.Nat.Bits.{bit_at_set_same, bit_at_set_other, bit_at_clear_same, bit_at_clear_other, bit_at-zero}
use Rattle.std.specs.Int.{bit_not}
use Rattle.hs_rows.proofs.Lines.{Written, written_bit, rest_bit, met, SameWords, bit_there}
use Rattle.hs_rows.proofs.Words.{in_row, has_read, lacks_read, others_kept, KeepsBits, in_both}
use Rattle.hs_rows.specs.Sets.{Sets, has, width, place_of, bit_in, KeepsOthers, KeepsRows}

-- as the words say
abbrev sets : ℕ → ℕ → List ℕ → Sets
sets count per words = record { count = count; per = per; words = words }

pub has_is : (count per row bit : ℕ) (words : List ℕ) → has (sets count per words) row bit ≡ bit_there words per row bit
unfolding has
has_is count per row bit words = refl

-- ---- where a number is

pub in_words : (count per row bit : ℕ) (words : List ℕ) → length words ≡ count * per → row < count → bit < 64 * per → place_of per row bit < length words
in_words count per row bit words size inside within =
    let fits : row * per + per ≤ count * per = row_fits row per count per inside (omega arith) in
    let q : bit / 64 < per = in_row per bit within in
    omega arith

-- what is read there
pub word_read : (words : List ℕ) (i word : ℕ) → i < length words → word ≡ get_or words i word → word ≡ get_or words i 0
word_read words i word within is = is ∙ get_or_default words i word 0 within

-- ---- reading

module _ (its : Sets) (count per row bit word : ℕ) (words : List ℕ) (view : sets count per words ≡ its) (size : length words ≡ count * per)
    (row_in : row < its.count) (bit_in_range : bit < width its) where
  pub there : place_of per row bit < length words
  there = in_words count per row bit words size (subst (λ it. row < it.count) (sym view) row_in) (subst (λ it. bit < width it) (sym view) bit_in_range)

  has_word : word ≡ get_or words (place_of per row bit) word → bit_in word (bit % 64) ≡ has its row bit
  has_word is =
      ap (λ n. bit_in n (bit % 64)) (word_read words (place_of per row bit) word there is) ∙ sym (has_is count per row bit words)
      ∙ ap (λ it. has it row bit) view

  pub tested : word ≡ get_or words (place_of per row bit) word → nat_eq (bit_and (word / 2 ^ (bit % 64)) 1) 1 ≡ has its row bit
  tested is = has_read word (bit % 64) ∙ has_word is

  pub tested_not : word ≡ get_or words (place_of per row bit) word → nat_eq (bit_and (word / 2 ^ (bit % 64)) 1) 0 ≡ not (has its row bit)
  tested_not is = lacks_read word (bit % 64) ∙ ap not (has_word is)

  -- ---- one word is written

  pub set_here : (new : ℕ) → has (sets count per (set words (place_of per row bit) new)) row bit ≡ bit_in new (bit % 64)
  set_here new =
      has_is count per row bit (set words (place_of per row bit) new)
      ∙ ap (λ n. bit_in n (bit % 64)) (get_or-set_at words (place_of per row bit) (place_of per row bit) new 0 refl there)

  pub set_others : (new : ℕ) → word ≡ get_or words (place_of per row bit) word → KeepsBits (bit % 64) word new
      → KeepsOthers row bit its (sets count per (set words (place_of per row bit) new))
  set_others new is keeps = λ r b inside within other.
      has_is count per r b (set words (place_of per row bit) new)
      ∙ others_kept words per row bit new r b there (subst (λ it. b < width it) (sym view) within) (subst (λ it. bit < width it) (sym view) bit_in_range) other
      (subst (λ n. KeepsBits (bit % 64) n new) (word_read words (place_of per row bit) word there is) keeps)
      ∙ sym (has_is count per r b words) ∙ ap (λ it. has it r b) view

  small : bit % 64 < 64
  small = mod_below bit 64 (omega arith)

  pub put_there : has (sets count per (set words (place_of per row bit) (bit_or word (1 * 2 ^ (bit % 64) % 2 ^ 64)))) row bit ≡ true
  put_there = set_here (bit_or word (1 * 2 ^ (bit % 64) % 2 ^ 64)) ∙ ap (λ n. n == 1) (bit_at_set_same w64 word (bit % 64) small)

  pub put_others : word ≡ get_or words (place_of per row bit) word
      → KeepsOthers row bit its (sets count per (set words (place_of per row bit) (bit_or word (1 * 2 ^ (bit % 64) % 2 ^ 64))))
  put_others is = set_others (bit_or word (1 * 2 ^ (bit % 64) % 2 ^ 64)) is (λ j h ne. ap (λ n. n == 1) (bit_at_set_other w64 word (bit % 64) small j ne))

  pub dropped : has (sets count per (set words (place_of per row bit) (bit_and word (bit_not w64 (1 * 2 ^ (bit % 64) % 2 ^ 64))))) row bit ≡ false
  dropped = set_here (bit_and word (bit_not w64 (1 * 2 ^ (bit % 64) % 2 ^ 64))) ∙ ap (λ n. n == 1) (bit_at_clear_same w64 word (bit % 64) small)

  pub drop_others : word ≡ get_or words (place_of per row bit) word
      → KeepsOthers row bit its (sets count per (set words (place_of per row bit) (bit_and word (bit_not w64 (1 * 2 ^ (bit % 64) % 2 ^ 64)))))
  drop_others is =
      set_others (bit_and word (bit_not w64 (1 * 2 ^ (bit % 64) % 2 ^ 64))) is
      (λ j h ne. ap (λ n. n == 1) (bit_at_clear_other w64 word (bit % 64) small j h ne))

-- ---- a bit of a word, as a number of a row

word_of : (j i : ℕ) → i < 64 → (64 * j + i) / 64 ≡ j
word_of j i k = omega arith

bit_of : (j i : ℕ) → i < 64 → (64 * j + i) % 64 ≡ i
bit_of j i k = omega arith

-- ---- no numbers

pub none_there : (count per n row bit : ℕ) → has (sets count per (replicate n zero)) row bit ≡ false
none_there count per n row bit = has_is count per row bit (replicate n zero) ∙ ap (λ w. bit_in w (bit % 64)) (zero_read (cases_lt (place_of per row
    bit) n)) ∙ ap (λ w. w == 1) (bit_at-zero (bit % 64))
  where
    zero_read : (place_of per row bit < n) ⊎ (n ≤ place_of per row bit) → get_or (replicate n zero) (place_of per row bit) zero ≡ zero
    zero_read (inl h) = get_or-replicate n (place_of per row bit) zero zero h
    zero_read (inr h) = get_or_past (replicate n zero) (place_of per row bit) zero (rw (length-replicate n zero) h)

-- ---- a row is written

-- what is seen, if the numbers of rows and words are the same
pub seen_as : (its : Sets) (count per count' per' : ℕ) (words : List ℕ) → sets count per words ≡ its → count' ≡ count → per' ≡ per
    → sets count' per' words ≡ its
seen_as its count per count' per' words view same same' = rw (same, same') view

module _ (its : Sets) (count per to : ℕ) (words new : List ℕ) (value : ℕ → ℕ) (view : sets count per words ≡ its)
    (done : Written words new per to per value) where
  pub row_written : (bit : ℕ) → bit < width its → has (sets count per new) to bit ≡ bit_in (value (bit / 64)) (bit % 64)
  row_written bit within =
      has_is count per to bit new ∙ written_bit words new per to bit value done (subst (λ it. bit < width it) (sym view) within)

  pub rows_kept : KeepsRows to its (sets count per new)
  rows_kept = λ r b inside within other.
      has_is count per r b new ∙ rest_bit words new per to r b value done (subst (λ it. b < width it) (sym view) within) other
      ∙ sym (has_is count per r b words) ∙ ap (λ it. has it r b) view

module _ (its : Sets) (count per to from : ℕ) (words new : List ℕ) (view : sets count per words ≡ its) where
  has_view : (row bit : ℕ) → bit_there words per row bit ≡ has its row bit
  has_view row bit = sym (has_is count per row bit words) ∙ ap (λ it. has it row bit) view

  pub row_copied : Written words new per to per (λ j. get_or words (from * per + j) 0) → (bit : ℕ) → bit < width its
      → has (sets count per new) to bit ≡ has its from bit
  row_copied done bit within =
      row_written its count per to words new (λ j. get_or words (from * per + j) 0) view done bit within ∙ has_view from bit

  pub row_met : Written words new per to per (met words per to from) → (bit : ℕ) → bit < width its
      → has (sets count per new) to bit ≡ (has its to bit && has its from bit)
  row_met done bit within =
      row_written its count per to words new (met words per to from) view done bit within
      ∙ in_both (get_or words (place_of per to bit) 0) (get_or words (place_of per from bit) 0) (bit % 64)
      ∙ ap (λ b. b && bit_there words per from bit) (has_view to bit) ∙ ap (λ b. has its to bit && b) (has_view from bit)

  pub row_same : Written words new per to per (met words per to from) → SameWords words per to from per → (bit : ℕ) → bit < width its
      → has (sets count per new) to bit ≡ has its to bit
  row_same done all bit within =
      row_written its count per to words new (met words per to from) view done bit within
      ∙ all (bit / 64) (bit % 64) (in_row per bit (subst (λ it. bit < width it) (sym view) within)) (mod_below bit 64 (omega arith))
      ∙ has_view to bit

  pub row_fewer : Written words new per to per (met words per to from) → ¬ (SameWords words per to from per)
      → ¬ ((bit : ℕ) → bit < width its → has (sets count per new) to bit ≡ has its to bit)
  row_fewer done some all = some (λ j i h k.
      let number : (64 * j + i) < 64 * per = omega (arith) in
      let word : (64 * j + i) / 64 ≡ j = word_of j i k in
      let place : (64 * j + i) % 64 ≡ i = bit_of j i k in
      let same = all (64 * j + i) (subst (λ it. 64 * j + i < width it) view number) in
      let new_bit = row_written its count per to words new (met words per to from) view done (64 * j + i) (subst (λ it. 64 * j + i < width it) view number) in
      let both = sym new_bit ∙ same ∙ sym (has_view to (64 * j + i)) in
      rw (word, place) at both)
