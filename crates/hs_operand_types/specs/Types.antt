-- What types operators ask for, beside `Kinds.antt` of hs_tree.
--     designates types id              an object can be of the type, or will be once it is complete (X3.159-1989 3.3.3.2)
--     is_accessible types id           the value of an object of the type can be read and written (3.2.2.1)
--     are_compatible types a b         the types are compatible (3.1.2.6)
use Rattle.std.specs.Prelude.{ℕ, zero, suc, ◌==◌, Bool, true, false, ◌&&◌, ◌||◌, Option, Some, None, if◌then◌else◌}
use Rattle.hs_operand_types.specs.Conversions.{same_type}
use Rattle.hs_operand_types.specs.declared.types.Inside.{Inside}
use Rattle.hs_tree.specs.Kinds.{is_readable}
use Rattle.hs_types.specs.TypeTables.{TypeTable, row_of, is_complete}
use Rattle.hs_types.specs.declared.integer.Integer.{Integer}
use Rattle.hs_types.specs.declared.integer.Integer.TheVariants as kind
use Rattle.hs_types.specs.declared.row.Row.{Row}
use Rattle.hs_types.specs.declared.row.Row.TheVariants as row
use Rattle.hs_types.specs.declared.row.TypeId.{TypeId}

-- any type but void and functions
abbrev pub designates_row : Option Row → Bool
designates_row None = false
designates_row (Some row.Void) = false
designates_row (Some (row.Integer kind)) = true
designates_row (Some (row.Pointer of)) = true
designates_row (Some (row.Enumeration number)) = true
designates_row (Some (row.Struct number)) = true
designates_row (Some (row.Array of length layout)) = true
designates_row (Some (row.OpenArray of)) = true
designates_row (Some (row.Function result parameters)) = false

-- by its number
abbrev pub designates : TypeTable → TypeId → Bool
designates types id = designates_row (row_of types id)

-- A scalar, or a struct, and complete. An enumeration is incomplete until its closing brace (3.5.2.3).
abbrev pub is_accessible : TypeTable → TypeId → Bool
is_accessible types id = is_readable types id && is_complete types id

-- an array whose length is not known
abbrev pub is_open_row : Option Row → Bool
is_open_row None = false
is_open_row (Some row.Void) = false
is_open_row (Some (row.Integer kind)) = false
is_open_row (Some (row.Pointer of)) = false
is_open_row (Some (row.Enumeration number)) = false
is_open_row (Some (row.Struct number)) = false
is_open_row (Some (row.Array of length layout)) = false
is_open_row (Some (row.OpenArray of)) = true
is_open_row (Some (row.Function result parameters)) = false

-- by its number
abbrev pub is_open : TypeTable → TypeId → Bool
is_open types id = is_open_row (row_of types id)

-- An enumeration is compatible with int (3.5.2.2; C leaves the type open).
abbrev pub is_int : Integer → Bool
is_int kind.Char = false
is_int kind.SignedChar = false
is_int kind.UnsignedChar = false
is_int kind.Short = false
is_int kind.UnsignedShort = false
is_int kind.Int = true
is_int kind.UnsignedInt = false
is_int kind.Long = false
is_int kind.UnsignedLong = false

-- one of each
abbrev pub are_int : Option Row → Option Row → Bool
are_int (Some (row.Integer kind)) (Some (row.Enumeration number)) = is_int kind
are_int (Some (row.Enumeration number)) (Some (row.Integer kind)) = is_int kind
are_int _ _ = false

-- Two pointers, or two arrays, are compatible if what they point to, or their elements, are (3.5.4.1, 3.5.4.2). Two known lengths
-- are the same.
abbrev pub inside_both : Option Row → Option Row → Option Inside
inside_both (Some (row.Pointer a)) (Some (row.Pointer b)) = Some (record { left = a; right = b })
inside_both (Some (row.Array a length layout)) (Some (row.Array b other layout')) =
    if length == other then Some (record { left = a; right = b }) else None
inside_both (Some (row.Array a length layout)) (Some (row.OpenArray b)) = Some (record { left = a; right = b })
inside_both (Some (row.OpenArray a)) (Some (row.Array b length layout)) = Some (record { left = a; right = b })
inside_both (Some (row.OpenArray a)) (Some (row.OpenArray b)) = Some (record { left = a; right = b })
inside_both _ _ = None

-- the test of both
abbrev pub both_are : (TypeId → TypeId → Bool) → Option Inside → Bool
both_are test None = false
both_are test (Some it) = test it.left it.right

-- down to so many types inside
abbrev pub compatible_within : ℕ → TypeTable → TypeId → TypeId → Bool
compatible_within zero types a b = same_type a b
compatible_within (suc more) types a b =
    same_type a b || are_int (row_of types a) (row_of types b) ||
    both_are (compatible_within more types) (inside_both (row_of types a) (row_of types b))

-- A type is made of older types, so its number bounds how deep it is.
abbrev pub are_compatible : TypeTable → TypeId → TypeId → Bool
are_compatible types a b = compatible_within a.number types a b
