-- Worked examples of what is left.
use Rattle.std.proofs.Common.{◌≡◌, ℕ, true, false, List, [], ◌∷◌, Option, Some, None, refl}
use Rattle.hs_meaning.specs.Scalars.{Scalar, scalars_of}
use Rattle.hs_types.specs.TypeTables.{TypeTable}
use Rattle.hs_types.specs.declared.body.Field.{Field}
use Rattle.hs_types.specs.declared.integer.Integer.TheVariants.{Char, Long}
use Rattle.hs_types.specs.declared.layout.Layout.{Layout}
use Rattle.hs_types.specs.declared.row.FieldId.{FieldId}
use Rattle.hs_types.specs.declared.row.Row.TheVariants.{Integer, Struct, Array}
use Rattle.hs_types.specs.declared.row.TypeId.{TypeId}
use Rattle.hs_scalars.specs.Left.{left}
use Rattle.hs_scalars.specs.declared.pending.Pending.TheVariants.{One, Elements, Fields}

-- the type of that number
abbrev id : ℕ → TypeId
id number = record { number = number }

-- so many bytes, at an even one
abbrev bytes : ℕ → Layout
bytes size = record { size = size; even = true; characters = false }

-- a field without a name
abbrev field : ℕ → TypeId → Layout → Field
field offset its layout = record { name = []; type_id = its; layout = layout; offset = offset }

-- the members of `struct { char a; long b[2]; }`
abbrev members : List Field
members = field 0 (id 0) (record { size = 1; even = false; characters = true }) ∷ field 2 (id 2) (bytes 8) ∷ []

-- 0 is `char`, 1 is `long`, 2 is `long [2]`, and 3 is `struct { char a; long b[2]; }`
abbrev types : TypeTable
types =
    record {
      rows = Integer Char ∷ Integer Long ∷ Array (id 1) 2 (bytes 8) ∷ Struct 0 ∷ [];
      lists = [];
      structs = Some (record { fields = members; layout = bytes 10 }) ∷ [];
      enumerations = [];
    }

-- a scalar of a type at that byte
abbrev scalar : ℕ → ℕ → Option FieldId → Scalar
scalar offset number its = record { offset = offset; type_id = id number; field = its }

-- all scalars of the struct: the elements of the array are no fields
all_of_a_struct : scalars_of types (id 3) ≡ scalar 0 0 (Some (record { of = 0; place = 0 })) ∷ scalar 2 1 None ∷ scalar 6 1 None ∷ []
all_of_a_struct = refl

-- the last part comes first
the_last_part_comes_first : left types (One 1 8 (id 0) None ∷ Elements 1 (id 1) 4 0 2 ∷ []) ≡ scalar 0 1 None ∷ scalar 4 1 None ∷ scalar 8 0 None ∷ []
the_last_part_comes_first = refl

-- the fields from the second one on
fields_from_a_place : left types (Fields 3 100 0 1 ∷ []) ≡ scalar 102 1 None ∷ scalar 106 1 None ∷ []
fields_from_a_place = refl

-- past the last level there is nothing
nothing_is_deeper : left types (One 2 0 (id 3) None ∷ []) ≡ scalar 0 0 (Some (record { of = 0; place = 0 })) ∷ []
nothing_is_deeper = refl
