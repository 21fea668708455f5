-- The types that are in every table, and their numbers.
--     void_id, integer_id kind, char_pointer_id, char_handle_id
--     basic_rows                 the rows with these numbers, from 0 on
use Rattle.std.specs.Prelude.{ℕ, List, [], ◌∷◌}
use Rattle.hs_types.specs.declared.integer.Integer.{Integer}
use Rattle.hs_types.specs.declared.integer.Integer.TheVariants.{Char, SignedChar, UnsignedChar, Short, UnsignedShort, Int, UnsignedInt, Long, UnsignedLong}
use Rattle.hs_types.specs.declared.row.Row.{Row}
use Rattle.hs_types.specs.declared.row.Row.TheVariants as row
use Rattle.hs_types.specs.declared.row.TypeId.{TypeId}

-- the numbers of the integer types
abbrev pub integer_number : Integer → ℕ
integer_number Char = 1
integer_number SignedChar = 2
integer_number UnsignedChar = 3
integer_number Short = 4
integer_number UnsignedShort = 5
integer_number Int = 6
integer_number UnsignedInt = 7
integer_number Long = 8
integer_number UnsignedLong = 9

-- `void` is the first row
abbrev pub void_id : TypeId
void_id = record { number = 0 }

-- an integer type
abbrev pub integer_id : Integer → TypeId
integer_id kind = record { number = integer_number kind }

-- `char *`
abbrev pub char_pointer_id : TypeId
char_pointer_id = record { number = 10 }

-- `char **`
abbrev pub char_handle_id : TypeId
char_handle_id = record { number = 11 }

-- the rows, in this order
abbrev pub basic_rows : List Row
basic_rows =
    row.Void ∷
    row.Integer Char ∷
    row.Integer SignedChar ∷
    row.Integer UnsignedChar ∷
    row.Integer Short ∷
    row.Integer UnsignedShort ∷
    row.Integer Int ∷
    row.Integer UnsignedInt ∷
    row.Integer Long ∷
    row.Integer UnsignedLong ∷
    row.Pointer (integer_id Char) ∷
    row.Pointer char_pointer_id ∷
    []
