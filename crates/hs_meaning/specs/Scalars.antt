-- The scalars of which an object is made, in the order of their bytes (X3.159-1989 3.1.2.5 and 3.5.7).
--     Scalar                 its byte, its type, and the field that it is, if it is one
--     scalars_of types id    the scalars of an object of that type
use Rattle.std.specs.Prelude.{ℕ, zero, suc, ◌+◌, List, [], ◌∷◌, ◌++◌, length, Option, Some, None}
use Rattle.hs_types.specs.TypeTables.{TypeTable, row_of, body_of, size_of}
use Rattle.hs_types.specs.declared.body.Body.{Body}
use Rattle.hs_types.specs.declared.body.Field.{Field}
use Rattle.hs_types.specs.declared.row.FieldId.{FieldId}
use Rattle.hs_types.specs.declared.row.Row.{Row}
use Rattle.hs_types.specs.declared.row.Row.TheVariants.{Void, Integer, Pointer, Enumeration, Struct, Array, OpenArray, Function}
use Rattle.hs_types.specs.declared.row.TypeId.{TypeId}

-- a number or a pointer inside an object
pub record Scalar : Type 0 where
  pub offset : ℕ
  pub type_id : TypeId
  pub field : Option FieldId

-- how the scalars of a part of an object are found: from that byte on, if it is of that type and that field
abbrev pub Finding : Type 0
Finding = ℕ → TypeId → Option FieldId → List Scalar

-- of so many elements of that type and size, one after the other
abbrev pub of_elements : Finding → TypeId → ℕ → ℕ → ℕ → List Scalar
of_elements found of size at zero = []
of_elements found of size at (suc more) = found at of None ++ of_elements found of size (at + size) more

-- of the fields of that struct, from that place on
abbrev pub of_fields : Finding → ℕ → ℕ → ℕ → List Field → List Scalar
of_fields found at number place [] = []
of_fields found at number place (its ∷ rest) =
    found (at + its.offset) its.type_id (Some (record { of = number; place = place })) ++ of_fields found at number (suc place) rest

-- of a struct whose body has come
abbrev pub of_body : Finding → ℕ → ℕ → Option Body → List Scalar
of_body found at number None = []
of_body found at number (Some body) = of_fields found at number 0 body.fields

-- by the type: a scalar is its only one
abbrev pub of_row : Finding → TypeTable → ℕ → TypeId → Option FieldId → Option Row → List Scalar
of_row found types at id field None = []
of_row found types at id field (Some Void) = []
of_row found types at id field (Some (Integer kind)) = record { offset = at; type_id = id; field = field } ∷ []
of_row found types at id field (Some (Pointer of)) = record { offset = at; type_id = id; field = field } ∷ []
of_row found types at id field (Some (Enumeration number)) = record { offset = at; type_id = id; field = field } ∷ []
of_row found types at id field (Some (Struct number)) = of_body found at number (body_of types number)
of_row found types at id field (Some (Array of count layout)) = of_elements found of (size_of types of) at count
of_row found types at id field (Some (OpenArray of)) = []
of_row found types at id field (Some (Function result parameters)) = []

-- down to so many types inside one another
abbrev pub found_within : ℕ → TypeTable → Finding
found_within zero types at id field = []
found_within (suc more) types at id field = of_row (found_within more types) types at id field (row_of types id)

-- no type is inside itself, so there are no more levels than types
abbrev pub scalars_of : TypeTable → TypeId → List Scalar
scalars_of types id = found_within (suc (length types.rows)) types 0 id None
