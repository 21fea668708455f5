-- Rows of sets of numbers (own).
--     Sets                          rows of bits: what a contract sees of them is `has`
--     width its                     the numbers that a row may have are below it
--     has its row bit               whether the row has the number
--     SameSize, KeepsOthers, KeepsRows    what a change leaves as it is
use Rattle.std.specs.Prelude.{◌≡◌, ◌≢◌, ◌<◌, ◌⊎◌, ℕ, ◌+◌, ◌*◌, ◌/◌, ◌%◌, ◌==◌, Bool, List, slice_index_or}
use Rattle.std.specs.Int.{bit_at}

-- so many rows, each of so many words of 64 bits
pub record Sets : Type 0 where
  pub count : ℕ
  pub per : ℕ
  pub words : List ℕ

-- a row may have the numbers below it
abbrev pub width : Sets → ℕ
width its = 64 * its.per

-- the bit of a word
abbrev pub bit_in : ℕ → ℕ → Bool
bit_in word bit = bit_at word bit == 1

-- where the word of a number is
abbrev pub place_of : ℕ → ℕ → ℕ → ℕ
place_of per row bit = row * per + bit / 64

-- the number is in the set of the row
unfoldable pub has : Sets → ℕ → ℕ → Bool
has its row bit = bit_in (slice_index_or its.words (place_of its.per row bit) 0) (bit % 64)

-- rows of the same numbers
pub record SameSize (old new : Sets) : Type 0 where
  pub count : new.count ≡ old.count
  pub per : new.per ≡ old.per

-- each number but that one is where it was
abbrev pub KeepsOthers : ℕ → ℕ → Sets → Sets → Type 0
KeepsOthers row bit old new =
    (r b : ℕ) → r < old.count → b < width old → (r ≢ row) ⊎ (b ≢ bit) → has new r b ≡ has old r b

-- each row but that one is as it was
abbrev pub KeepsRows : ℕ → Sets → Sets → Type 0
KeepsRows row old new = (r b : ℕ) → r < old.count → b < width old → r ≢ row → has new r b ≡ has old r b
