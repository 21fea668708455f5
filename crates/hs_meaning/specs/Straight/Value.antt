-- The values of the reference machine, and char objects (X3.159-1989 3.1.2.5 and 3.2.1.1; what C leaves open is own).
--     Value              a number, NIL, a handle of a block, a pointer into a block
--     byte_of value      the byte that a char object gets from a number
--     char_of byte       the number that a char object of that byte has: char is signed
use Rattle.std.specs.Prelude.{ℕ, ℤ}
use Rattle.std.specs.Int.{w8, cast_signed, cast_unsigned}
use Rattle.hs_heap.specs.declared.cell.Spot.{Spot}

-- what a variable holds
pub data Value : Type 0 where
  number : ℤ → Value
  nil : Value
  handle : ℕ → Value
  spot : Spot → Value

-- The low byte. No pointer stands where a char is asked for.
abbrev pub byte_of : Value → ℕ
byte_of (number n) = cast_unsigned w8 n
byte_of nil = 0
byte_of (handle block) = 0
byte_of (spot s) = 0

-- the number that a char object of that byte has
abbrev pub char_of : ℕ → Value
char_of byte = number (cast_signed w8 byte)
