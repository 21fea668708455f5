-- The scalars inside an object, as initialisers go through it (X3.159-1989 3.5.7): the next member or element of an aggregate lies inside
-- it, and after what has begun.
--     Aggregate, Subobject            as the definitions have them
--     Within types holds at id field  what is at that byte is a scalar of the whole object, or its scalars are
--     IsAt                            the same of an array whose length is not known: each element is
--     IsSolid types id                the type is complete, or an array of complete elements whose length is not known
--     room types id                   how many bytes an object of the type may take
--     Beyond types from it            what is next in the aggregate lies from that byte on
--     Next types it sub               what is known of the next member or element
--     whole_solid, whole_room, whole_at, scalar_whole       complete types
use Rattle.std.proofs.Common.{◌≡◌, ◌≤◌, ◌+◌, ◌*◌, ◌||◌, ℕ, true, false, Option, Some, None, refl, sym, ◌∙◌}
use Rattle.std.specs.Prelude.{is_some}
use Rattle.hs_fitting.specs.Answers.{false_true, Taken, Given}
use Rattle.hs_fitting.specs.Moves.{IsWhole}
use Rattle.hs_aggregates.specs.Aggregates.{next_in, advanced, fresh}
use Rattle.hs_tree.specs.Kinds.{kind_of_row, pointed_of_row, is_scalar, IsScalar}
use Rattle.hs_tree.specs.Objects.{IsScalarAt}
use Rattle.hs_types.specs.Layouts.{most_bytes}
use Rattle.hs_types.specs.TypeTables.{TypeTable, row_of, size_of}
use Rattle.hs_types.specs.declared.row.FieldId.{FieldId}
use Rattle.hs_types.specs.declared.row.Row.{Row}
use Rattle.hs_types.specs.declared.row.Row.TheVariants as row
use Rattle.hs_types.specs.declared.row.TypeId.{TypeId}

-- an aggregate that has begun
abbrev pub Aggregate : Type 0
Aggregate = Given fresh

-- a part of an object
abbrev pub Subobject : Type 0
Subobject = Taken fresh

-- scalars of an object, by their bytes
abbrev pub Scalars : Type 1
Scalars = ℕ → TypeId → Option FieldId → Type 0

-- what is at that byte is one of them, if it is a scalar, and if not, each scalar inside it is
abbrev pub Within : TypeTable → Scalars → ℕ → TypeId → Option FieldId → Type 0
Within types holds at id field =
    (IsScalar types id → holds at id field)
    × ((offset : ℕ) (scalar : TypeId) (inner : Option FieldId) → is_scalar types id ≡ false → IsScalarAt types id offset scalar inner
    → holds (at + offset) scalar inner)

-- so is each element of an array whose length is not known
abbrev pub IsAt : TypeTable → Scalars → ℕ → TypeId → Option FieldId → Type 0
IsAt types holds at id field =
    Within types holds at id field
    × ((of : TypeId) (place : ℕ) → row_of types id ≡ Some (row.OpenArray of) → Within types holds (at + place * size_of types of) of None)

-- a complete type, or an array of complete elements whose length is not known
abbrev pub IsSolidRow : TypeTable → TypeId → Option Row → Type 0
IsSolidRow types id (Some (row.OpenArray of)) = IsWhole types of
IsSolidRow types id None = IsWhole types id
IsSolidRow types id (Some row.Void) = IsWhole types id
IsSolidRow types id (Some (row.Integer its)) = IsWhole types id
IsSolidRow types id (Some (row.Pointer of)) = IsWhole types id
IsSolidRow types id (Some (row.Enumeration number)) = IsWhole types id
IsSolidRow types id (Some (row.Struct number)) = IsWhole types id
IsSolidRow types id (Some (row.Array of length layout)) = IsWhole types id
IsSolidRow types id (Some (row.Function result list)) = IsWhole types id

-- by its number
abbrev pub IsSolid : TypeTable → TypeId → Type 0
IsSolid types id = IsSolidRow types id (row_of types id)

-- how many bytes an object may take
abbrev room_by : ℕ → Option Row → ℕ
room_by size (Some (row.OpenArray of)) = most_bytes
room_by size None = size
room_by size (Some row.Void) = size
room_by size (Some (row.Integer its)) = size
room_by size (Some (row.Pointer of)) = size
room_by size (Some (row.Enumeration number)) = size
room_by size (Some (row.Struct number)) = size
room_by size (Some (row.Array of length layout)) = size
room_by size (Some (row.Function result list)) = size

-- by its number
abbrev pub room : TypeTable → TypeId → ℕ
room types id = room_by (size_of types id) (row_of types id)

-- what is next lies from that byte on
abbrev pub Beyond : TypeTable → ℕ → Aggregate → Type 0
Beyond types from it =
    ((sub : Subobject) → next_in types it ≡ Some sub → from ≤ sub.offset)
    × ((of : TypeId) → row_of types it.type_id ≡ Some (row.OpenArray of) → from ≤ it.offset + it.begun * size_of types of)

-- what is known of the next member or element
pub record Next (types : TypeTable) (it : Aggregate) (sub : Subobject) : Type 1 where
  pub at : (holds : Scalars) → IsAt types holds it.offset it.type_id it.field → Within types holds sub.offset sub.type_id sub.field
  pub whole : IsWhole types sub.type_id
  pub from : it.offset ≤ sub.offset
  pub until : sub.offset + size_of types sub.type_id ≤ it.offset + room types it.type_id
  pub beyond : Beyond types (sub.offset + size_of types sub.type_id) (advanced it)

-- ---- complete types

-- an array whose length is not known is not complete
pub open_not_whole : (types : TypeTable) (id of : TypeId) → IsWhole types id → row_of types id ≡ Some (row.OpenArray of) → ⊥
open_not_whole types id of whole same = false_true (sym (rw same refl) ∙ whole)

-- a complete type is solid, and takes its size
solid_by : (types : TypeTable) (id : TypeId) (o : Option Row) → row_of types id ≡ o → IsWhole types id → IsSolidRow types id o
solid_by types id None same whole = whole
solid_by types id (Some row.Void) same whole = whole
solid_by types id (Some (row.Integer its)) same whole = whole
solid_by types id (Some (row.Pointer of)) same whole = whole
solid_by types id (Some (row.Enumeration number)) same whole = whole
solid_by types id (Some (row.Struct number)) same whole = whole
solid_by types id (Some (row.Array of length layout)) same whole = whole
solid_by types id (Some (row.OpenArray of)) same whole = absurd (open_not_whole types id of whole same)
solid_by types id (Some (row.Function result list)) same whole = whole

pub whole_solid : (types : TypeTable) (id : TypeId) → IsWhole types id → IsSolid types id
whole_solid types id whole = solid_by types id (row_of types id) refl whole

size_by : (types : TypeTable) (id : TypeId) (size : ℕ) (o : Option Row) → row_of types id ≡ o → IsWhole types id → room_by size o ≡ size
size_by types id size None same whole = refl
size_by types id size (Some row.Void) same whole = refl
size_by types id size (Some (row.Integer its)) same whole = refl
size_by types id size (Some (row.Pointer of)) same whole = refl
size_by types id size (Some (row.Enumeration number)) same whole = refl
size_by types id size (Some (row.Struct number)) same whole = refl
size_by types id size (Some (row.Array of length layout)) same whole = refl
size_by types id size (Some (row.OpenArray of)) same whole = absurd (open_not_whole types id of whole same)
size_by types id size (Some (row.Function result list)) same whole = refl

pub whole_room : (types : TypeTable) (id : TypeId) → IsWhole types id → room types id ≡ size_of types id
whole_room types id whole = size_by types id (size_of types id) (row_of types id) refl whole

-- and is no array whose length is not known
pub whole_at : (types : TypeTable) (holds : Scalars) (at : ℕ) (id : TypeId) (field : Option FieldId) → IsWhole types id
    → Within types holds at id field → IsAt types holds at id field
whole_at types holds at id field whole is = (is, λ of place same. absurd (open_not_whole types id of whole same))

-- a scalar that is solid is complete
scalar_by : (types : TypeTable) (id : TypeId) (o : Option Row) → row_of types id ≡ o
    → (is_some (kind_of_row o) || is_some (pointed_of_row o)) ≡ true → IsSolidRow types id o → IsWhole types id
scalar_by types id None same is solid = absurd cc
scalar_by types id (Some row.Void) same is solid = absurd cc
scalar_by types id (Some (row.Integer its)) same is solid = solid
scalar_by types id (Some (row.Pointer of)) same is solid = solid
scalar_by types id (Some (row.Enumeration number)) same is solid = solid
scalar_by types id (Some (row.Struct number)) same is solid = absurd cc
scalar_by types id (Some (row.Array of length layout)) same is solid = absurd cc
scalar_by types id (Some (row.OpenArray of)) same is solid = absurd cc
scalar_by types id (Some (row.Function result list)) same is solid = absurd cc

pub scalar_whole : (types : TypeTable) (id : TypeId) → is_scalar types id ≡ true → IsSolid types id → IsWhole types id
scalar_whole types id is solid = scalar_by types id (row_of types id) refl is solid
