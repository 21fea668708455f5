-- Which types of several units are one (own). Each unit has types of its own, so a struct of a header is there once for each unit that
-- includes it. The first of those that are one stands for all; what is past the end of a list stands for itself.
--     struct_for same number      the struct that stands for the one of that number
--     type_for same id            the type that stands for that type
--     field_for same field        the field that stands for that field
use Rattle.std.specs.Prelude.{ℕ, Option, Some, None, slice_get}
use Rattle.hs_tree.specs.declared.representatives.Representatives.{Representatives}
use Rattle.hs_types.specs.declared.row.FieldId.{FieldId}
use Rattle.hs_types.specs.declared.row.TypeId.{TypeId}

-- what is there, or else the thing itself
abbrev pub or_itself : {A : Type 0} → A → Option A → A
or_itself it None = it
or_itself it (Some first) = first

-- the struct that stands for the one of that number
abbrev pub struct_for : Representatives → ℕ → ℕ
struct_for same number = or_itself number (slice_get same.structs number)

-- the type that stands for that type
abbrev pub type_for : Representatives → TypeId → TypeId
type_for same id = or_itself id (slice_get same.types id.number)

-- Structs that are one have the same members in the same order.
abbrev pub field_for : Representatives → FieldId → FieldId
field_for same field = record { of = struct_for same field.of; place = field.place }
