-- Arrays and structs as a list of initialisers goes through them (X3.159-1989 3.5.7). If an aggregate inside another one has no braces
-- of its own, only as many initialisers are taken from the list as it has members or elements.
--     next_in types it                the next member or element of an aggregate, if there is one more
--     unfilled types begun            the aggregates that have begun and are not full; the innermost one is the first
--     reached types text begun        what an expression in the list initialises, and the aggregates that have begun then
--     is_growing types begun          the outermost one is an array whose length the list gives
use Rattle.std.specs.Prelude.{ℕ, zero, suc, ◌+◌, ◌*◌, ◌==◌, nat_lt, nat_le, Bool, true, false, ◌&&◌, ◌||◌, List, [], ◌∷◌, Option, Some, None, is_some, if◌then◌else◌}
use Rattle.hs_aggregates.specs.declared.aggregates.Aggregate.{Aggregate}
use Rattle.hs_aggregates.specs.declared.aggregates.Subobject.{Subobject}
use Rattle.hs_operand_types.specs.Types.{is_open}
use Rattle.hs_tree.specs.Kinds.{element, is_scalar}
use Rattle.hs_tree.specs.Objects.{field_of}
use Rattle.hs_types.specs.Layouts.{most_bytes}
use Rattle.hs_types.specs.TypeTables.{TypeTable, row_of, size_of}
use Rattle.hs_types.specs.declared.body.Field.{Field}
use Rattle.hs_types.specs.declared.integer.Integer.{Integer}
use Rattle.hs_types.specs.declared.integer.Integer.TheVariants as kind
use Rattle.hs_types.specs.declared.row.FieldId.{FieldId}
use Rattle.hs_types.specs.declared.row.Row.{Row}
use Rattle.hs_types.specs.declared.row.Row.TheVariants as row
use Rattle.hs_types.specs.declared.row.TypeId.{TypeId}

-- the types of characters (3.1.2.5)
abbrev pub is_character : Integer → Bool
is_character kind.Char = true
is_character kind.SignedChar = true
is_character kind.UnsignedChar = true
is_character kind.Short = false
is_character kind.UnsignedShort = false
is_character kind.Int = false
is_character kind.UnsignedInt = false
is_character kind.Long = false
is_character kind.UnsignedLong = false

-- the kind of the characters, if the type is one of characters
abbrev pub character_row : Option Row → Option Integer
character_row None = None
character_row (Some row.Void) = None
character_row (Some (row.Integer its)) = if is_character its then Some its else None
character_row (Some (row.Pointer of)) = None
character_row (Some (row.Enumeration number)) = None
character_row (Some (row.Struct number)) = None
character_row (Some (row.Array of length layout)) = None
character_row (Some (row.OpenArray of)) = None
character_row (Some (row.Function result parameters)) = None

-- of a type that is there
abbrev pub character_of : TypeTable → Option TypeId → Option Integer
character_of types None = None
character_of types (Some id) = character_row (row_of types id)

-- an array of characters, which a string can initialise
abbrev pub text_kind : TypeTable → TypeId → Option Integer
text_kind types id = character_of types (element types id)

-- an element, at its byte
abbrev pub element_at : TypeTable → Aggregate → TypeId → Subobject
element_at types it of = record { offset = it.offset + it.begun * size_of types of; type_id = of; field = None }

-- a member, at its byte
abbrev pub member_at : Aggregate → FieldId → Option Field → Option Subobject
member_at it id None = None
member_at it id (Some its) = Some (record { offset = it.offset + its.offset; type_id = its.type_id; field = Some id })

-- a scalar in braces, once; it stays the field that it is
abbrev pub itself : Aggregate → Option Subobject
itself it = if it.begun == 0 then Some (record { offset = it.offset; type_id = it.type_id; field = it.field }) else None

-- The next one. A scalar in braces is like an aggregate of itself alone. An array of unknown length has as many elements as a type may
-- have bytes for.
abbrev pub next_by : TypeTable → Aggregate → Option Row → Option Subobject
next_by types it None = None
next_by types it (Some row.Void) = None
next_by types it (Some (row.Integer its)) = itself it
next_by types it (Some (row.Pointer of)) = itself it
next_by types it (Some (row.Enumeration number)) = itself it
next_by types it (Some (row.Struct number)) =
    member_at it (record { of = number; place = it.begun }) (field_of types (record { of = number; place = it.begun }))
next_by types it (Some (row.Array of length layout)) = if nat_lt it.begun length then Some (element_at types it of) else None
next_by types it (Some (row.OpenArray of)) =
    if nat_le (suc it.begun * size_of types of) most_bytes then Some (element_at types it of) else None
next_by types it (Some (row.Function result parameters)) = None

-- by its type
abbrev pub next_in : TypeTable → Aggregate → Option Subobject
next_in types it = next_by types it (row_of types it.type_id)

-- one more has begun
abbrev pub advanced : Aggregate → Aggregate
advanced it = record { type_id = it.type_id; offset = it.offset; field = it.field; begun = suc it.begun }

-- none has begun
abbrev pub fresh : Subobject → Aggregate
fresh it = record { type_id = it.type_id; offset = it.offset; field = it.field; begun = 0 }

-- without those that are full
abbrev pub unfilled : TypeTable → List Aggregate → List Aggregate
unfilled types [] = []
unfilled types (it ∷ outer) = if is_some (next_in types it) then it ∷ outer else unfilled types outer

-- A scalar takes any expression; an array of characters takes a string.
abbrev pub takes : TypeTable → Bool → Subobject → Bool
takes types text it = is_scalar types it.type_id || (text && is_some (text_kind types it.type_id))

-- There are no more types than that (own), so no object holds as many others inside one another.
unfoldable pub most_types : ℕ
most_types = 4000000000

-- what an expression initialises, and the aggregates that have begun then
abbrev pub Reached : Type 0
Reached = Subobject × List Aggregate

-- the first scalar inside, if the member is an aggregate
abbrev pub reached_by : (Aggregate → List Aggregate → Option Reached) → TypeTable → Bool → List Aggregate → Option Subobject → Option Reached
reached_by inside types text begun None = None
reached_by inside types text begun (Some it) = if takes types text it then Some (it, begun) else inside (fresh it) begun

-- down to so many aggregates inside
abbrev pub reached_within : ℕ → TypeTable → Bool → Aggregate → List Aggregate → Option Reached
reached_within zero types text it outer = None
reached_within (suc more) types text it outer =
    reached_by (reached_within more types text) types text (advanced it ∷ outer) (next_in types it)

-- of the innermost aggregate that is not full
abbrev pub reached_in : TypeTable → Bool → List Aggregate → Option Reached
reached_in types text [] = None
reached_in types text (it ∷ outer) = reached_within most_types types text it outer

-- in a list with these aggregates
abbrev pub reached : TypeTable → Bool → List Aggregate → Option Reached
reached types text begun = reached_in types text (unfilled types begun)

-- the member itself
abbrev pub whole_by : List Aggregate → Option Subobject → Option Reached
whole_by begun None = None
whole_by begun (Some it) = Some (it, begun)

-- the member or element that a list in braces initialises; a scalar is in no more than one pair of braces (own)
abbrev pub whole_in : TypeTable → List Aggregate → Option Reached
whole_in types [] = None
whole_in types (it ∷ outer) = if is_scalar types it.type_id then None else whole_by (advanced it ∷ outer) (next_in types it)

-- in a list with these aggregates
abbrev pub whole : TypeTable → List Aggregate → Option Reached
whole types begun = whole_in types (unfilled types begun)

-- The outermost aggregate is an array of unknown length, which gets its length from the list.
abbrev pub is_growing : TypeTable → List Aggregate → Bool
is_growing types [] = false
is_growing types (it ∷ []) = is_open types it.type_id
is_growing types (it ∷ next ∷ outer) = is_growing types (next ∷ outer)

-- how many elements of the outermost aggregate have begun
abbrev pub count_begun : List Aggregate → ℕ
count_begun [] = 0
count_begun (it ∷ []) = it.begun
count_begun (it ∷ next ∷ outer) = count_begun (next ∷ outer)
