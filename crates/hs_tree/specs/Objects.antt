-- What objects are made of, and what they start with (X3.159-1989 3.5.7).
--     IsField types field offset id                  the field, at its byte and of its type
--     IsScalarAt types id offset scalar field        a scalar inside an object
--     FitsParts program id parts                     constants for scalars of an object of that type
--     FitsStart, FitsGlobal                          what a variable and an object of static storage duration start with
use Rattle.std.specs.Prelude.{◌≡◌, ◌<◌, ◌+◌, ◌*◌, ℕ, Bool, true, false, not, List, [], ◌∷◌, length, slice_get, Option, Some, None, IsTrue, nat_lt, ◌&&◌}
use Rattle.std.specs.List.{AllByRecursion}
use Rattle.hs_tree.specs.Classes.{is_slot}
use Rattle.hs_tree.specs.Kinds.{number_kind, IsPointer, IsScalar, IsStruct, IsReadable}
use Rattle.hs_tree.specs.Trees as tree
use Rattle.hs_tree.specs.Trees.{Starting, TypedProgram, type_of}
use Rattle.hs_tree.specs.declared.constant.Base.{Base}
use Rattle.hs_tree.specs.declared.constant.Base.TheVariants as base
use Rattle.hs_tree.specs.declared.constant.Constant.{Constant}
use Rattle.hs_tree.specs.declared.constant.Constant.TheVariants as constant
use Rattle.hs_tree.specs.declared.constant.Part.{Part}
use Rattle.hs_tree.specs.declared.globals.Global.{Global}
use Rattle.hs_types.specs.Integers.{converted}
use Rattle.hs_types.specs.TypeTables.{TypeTable, row_of, body_of, size_of}
use Rattle.hs_types.specs.declared.body.Body.{Body}
use Rattle.hs_types.specs.declared.body.Field.{Field}
use Rattle.hs_types.specs.declared.integer.Integer.{Integer}
use Rattle.hs_types.specs.declared.layout.Layout.{Layout}
use Rattle.hs_types.specs.declared.row.FieldId.{FieldId}
use Rattle.hs_types.specs.declared.row.Row.TheVariants as row
use Rattle.hs_types.specs.declared.row.TypeId.{TypeId}

-- the field of that name
abbrev pub field_in : Option Body → ℕ → Option Field
field_in None place = None
field_in (Some body) place = slice_get body.fields place

-- by its struct and its place
abbrev pub field_of : TypeTable → FieldId → Option Field
field_of types field = field_in (body_of types field.of) field.place

-- the field, at its byte and of its type
abbrev pub IsFieldOf : Option Field → ℕ → TypeId → Type 0
IsFieldOf None offset id = ⊥
IsFieldOf (Some its) offset id = (its.offset ≡ offset) × (its.type_id ≡ id)

-- of a struct whose body has come
abbrev pub IsField : TypeTable → FieldId → ℕ → TypeId → Type 0
IsField types field offset id = IsFieldOf (field_of types field) offset id

-- the number is one of the kind
abbrev pub number_in : ℕ → Option Integer → Option ℕ
number_in bits None = None
number_in bits (Some its) = Some (converted its bits)

-- a scalar inside an object of that type: its byte, its type, and the field that it is
pub data IsScalarAt (types : TypeTable) : TypeId → ℕ → TypeId → Option FieldId → Type 0 where
  itself : (id : TypeId) → IsScalar types id → IsScalarAt types id 0 id None
  in_array : (id of scalar : TypeId) (length place offset : ℕ) (layout : Layout) (field : Option FieldId)
      → row_of types id ≡ Some (row.Array of length layout) → place < length → IsScalarAt types of offset scalar field
      → IsScalarAt types id (place * size_of types of + offset) scalar field
  is_field : (id scalar : TypeId) (field : FieldId) (offset : ℕ) → IsStruct types field.of id → IsField types field offset scalar
      → IsScalar types scalar → IsScalarAt types id offset scalar (Some field)
  in_field : (id of scalar : TypeId) (field : FieldId) (first offset : ℕ) (inner : Option FieldId) → IsStruct types field.of id
      → IsField types field first of → ¬ IsScalar types of → IsScalarAt types of offset scalar inner
      → IsScalarAt types id (first + offset) scalar inner

abbrev pub is_object : TypeTable → Option Global → Bool
is_object types None = false
is_object types (Some it) = not (is_slot types it.variable)

-- the object of an address constant is there, and is no slot
abbrev pub IsBase : TypedProgram → Base → Type 0
IsBase program (base.Global place) = IsTrue (is_object program.types (slice_get program.globals place))
IsBase program (base.Literal place) = place < length program.literals

-- a constant of that type
abbrev pub IsConstant : TypedProgram → TypeId → Constant → Type 0
IsConstant program id (constant.Number bits) = number_in bits (number_kind program.types id) ≡ Some bits
IsConstant program id constant.Nil = IsPointer program.types id
IsConstant program id (constant.Address its offset) = IsPointer program.types id × IsBase program its

-- a constant for a scalar of an object of that type
abbrev pub FitsPart : TypedProgram → TypeId → Part → Type 0
FitsPart program id part = IsScalarAt program.types id part.offset part.type_id part.field × IsConstant program part.type_id part.value

-- the scalars are named in their order
abbrev pub offsets_ascend : List Part → Bool
offsets_ascend [] = true
offsets_ascend (part ∷ []) = true
offsets_ascend (part ∷ next ∷ parts) = nat_lt part.offset next.offset && offsets_ascend (next ∷ parts)

-- all of them
abbrev pub FitsParts : TypedProgram → TypeId → List Part → Type 0
FitsParts program id parts = AllByRecursion (FitsPart program id) parts × IsTrue (offsets_ascend parts)

-- what a variable starts with: a value of its type, or constants for its scalars
abbrev pub FitsStart : TypedProgram → TypeId → Starting → Type 0
FitsStart program id (tree.value e) = IsReadable program.types id × (type_of e ≡ id)
FitsStart program id (tree.parts its) = FitsParts program id its

-- Each object of static storage duration has the size of its type, which is 0 if it stays incomplete, and starts with constants of
-- its scalars.
abbrev pub FitsGlobal : TypedProgram → Global → Type 0
FitsGlobal program it =
    (it.size ≡ size_of program.types it.variable.type_id) × FitsParts program it.variable.type_id it.parts
