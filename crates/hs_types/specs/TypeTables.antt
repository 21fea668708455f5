-- The table of types: each type once, with the bodies of structs and enumerations.
--     row_of types id                    the type of that number, if there is one
--     layout_of types id                 what its objects take in memory, if it is complete
--     with_row row types, id_of          the table with the type in it, and the type's number there
--     arrayed of length types            with an array of so many elements, and its number, or why it cannot be
--     measured types members             the members of a struct with what they take, if each is complete
--     laid members                       the body of a struct with these members, or why it cannot be
--     completed number members types     with the body of a struct that had none
--     enumerated number constants types  with the constants of an enumeration that had none
--     IsRight types                      what each table keeps
--     Grows old new                      nothing that was known has changed
use Rattle.std.specs.Prelude.{◌≡◌, ℕ, ◌+◌, ◌%◌, ◌<◌, ◌≤◌, nat_le, Bool, true, false, if◌then◌else◌, List, [], ◌∷◌, ◌++◌, map, length, slice_get, slice_set, Option, Some, None, is_some, option_map, Result, Ok, Err}
use Rattle.std.specs.List.{position_or_len}
use Rattle.indexmap.specs.IndexSet.{insert_key}
use Rattle.hs_types.specs.Layouts.{integer_layout, word_layout, array_layout, struct_layout, struct_size, offsets_from, placed, most_bytes}
use Rattle.hs_types.specs.Rows.{basic_rows}
use Rattle.hs_types.specs.contracts.row.RowPartialEq.TheImpl as row_eq
use Rattle.hs_types.specs.contracts.row.ParametersPartialEq.TheImpl as parameters_eq
use Rattle.hs_types.specs.declared.body.Body.{Body}
use Rattle.hs_types.specs.declared.body.Enumerator.{Enumerator}
use Rattle.hs_types.specs.declared.body.Field.{Field}
use Rattle.hs_types.specs.declared.body.Measured.{Measured}
use Rattle.hs_types.specs.declared.body.Member.{Member}
use Rattle.hs_types.specs.declared.layout.Layout.{Layout}
use Rattle.hs_types.specs.declared.row.ListId.{ListId}
use Rattle.hs_types.specs.declared.row.Parameters.{Parameters}
use Rattle.hs_types.specs.declared.row.Row.{Row}
use Rattle.hs_types.specs.declared.row.Row.TheVariants.{Void, Integer, Pointer, Enumeration, Struct, Array, OpenArray, Function}
use Rattle.hs_types.specs.declared.row.TypeId.{TypeId}
use Rattle.hs_types.specs.declared.types.TypeEnd.{TypeEnd}
use Rattle.hs_types.specs.declared.types.TypeEnd.TheVariants as end

-- A struct or an enumeration without its body is incomplete (X3.159-1989 3.1.2.5).
pub record TypeTable : Type 0 where
  pub rows : List Row
  pub lists : List Parameters
  pub structs : List (Option Body)
  pub enumerations : List (Option (List Enumerator))

-- the body of the struct of that number, if it has come
abbrev pub body_in : Option (Option Body) → Option Body
body_in None = None
body_in (Some body) = body

-- looked up by the number of the struct
abbrev pub body_of : TypeTable → ℕ → Option Body
body_of types number = body_in (slice_get types.structs number)

-- the constants of the enumeration of that number, if they have come
abbrev pub constants_in : Option (Option (List Enumerator)) → Option (List Enumerator)
constants_in None = None
constants_in (Some constants) = constants

-- looked up by the number of the enumeration
abbrev pub constants_of : TypeTable → ℕ → Option (List Enumerator)
constants_of types number = constants_in (slice_get types.enumerations number)

-- the type of that number
abbrev pub row_of : TypeTable → TypeId → Option Row
row_of types id = slice_get types.rows id.number

-- X3.159-1989 3.1.2.5: void, an array of unknown length, a function, and a struct or an enumeration without its body have no size.
abbrev pub layout_of_row : TypeTable → Row → Option Layout
layout_of_row types Void = None
layout_of_row types (Integer kind) = Some (integer_layout kind)
layout_of_row types (Pointer of) = Some word_layout
layout_of_row types (Enumeration number) = if is_some (constants_of types number) then Some word_layout else None
layout_of_row types (Struct number) = option_map (λ body. body.layout) (body_of types number)
layout_of_row types (Array of length layout) = Some layout
layout_of_row types (OpenArray of) = None
layout_of_row types (Function result parameters) = None

-- a number that names no type has none either
abbrev pub layout_in : TypeTable → Option Row → Option Layout
layout_in types None = None
layout_in types (Some row) = layout_of_row types row

-- what an object of the type takes
abbrev pub layout_of : TypeTable → TypeId → Option Layout
layout_of types id = layout_in types (row_of types id)

-- The type is complete (3.1.2.5).
abbrev pub is_complete : TypeTable → TypeId → Bool
is_complete types id = is_some (layout_of types id)

-- the size, or 0 for none
abbrev pub size_in : Option Layout → ℕ
size_in None = 0
size_in (Some layout) = layout.size

-- the size of a complete type
abbrev pub size_of : TypeTable → TypeId → ℕ
size_of types id = size_in (layout_of types id)

-- a type that is there keeps its number, and a new one is put at the end
abbrev pub with_row : Row → TypeTable → TypeTable
with_row row types = record types { rows = insert_key (row_eq.ghosts).eq types.rows row }

-- its number there
abbrev pub id_of : Row → TypeTable → TypeId
id_of row types = record { number = position_or_len ((row_eq.ghosts).eq row) types.rows }

-- the same of lists of parameter types
abbrev pub with_list : Parameters → TypeTable → TypeTable
with_list list types = record types { lists = insert_key (parameters_eq.ghosts).eq types.lists list }

-- the number of the list there
abbrev pub list_id_of : Parameters → TypeTable → ListId
list_id_of list types = record { number = position_or_len ((parameters_eq.ghosts).eq list) types.lists }

-- the row of an array of so many elements
abbrev pub row_of_layout : TypeId → ℕ → Option Layout → Result Row TypeEnd
row_of_layout of length None = Err end.TooLarge
row_of_layout of length (Some layout) = Ok (Array of length layout)

-- the elements of an array are complete (3.5.4.2)
abbrev pub row_of_element : TypeId → ℕ → Option Layout → Result Row TypeEnd
row_of_element of length None = Err end.Incomplete
row_of_element of length (Some element) = row_of_layout of length (array_layout length element)

-- the table with that row, if there is one
abbrev pub with_result : TypeTable → Result Row TypeEnd → Result (TypeId × TypeTable) TypeEnd
with_result types (Err why) = Err why
with_result types (Ok row) = Ok (id_of row types, with_row row types)

-- the type of an array of so many elements
abbrev pub arrayed : TypeId → ℕ → TypeTable → Result (TypeId × TypeTable) TypeEnd
arrayed of length types = with_result types (row_of_element of length (layout_of types of))

-- the members with what they take, if each of them is complete
abbrev pub measured_first : Member → Option Layout → Option (List Measured) → Option (List Measured)
measured_first member None rest = None
measured_first member (Some layout) None = None
measured_first member (Some layout) (Some rest) = Some (record { name = member.name; type_id = member.type_id; layout = layout } ∷ rest)

-- all members, or none if one of them is incomplete
abbrev pub measured : TypeTable → List Member → Option (List Measured)
measured types [] = Some []
measured types (member ∷ members) = measured_first member (layout_of types member.type_id) (measured types members)

-- the fields of a struct with these members: each has its place after those before it
abbrev pub fields_from : ℕ → List Measured → List Field
fields_from end [] = []
fields_from end (member ∷ members) =
    record { name = member.name; type_id = member.type_id; layout = member.layout; offset = placed end member.layout } ∷
    fields_from (placed end member.layout + member.layout.size) members

-- what each member takes
abbrev pub layouts_of : List Measured → List Layout
layouts_of members = map (λ member. member.layout) members

-- the body that these members make
abbrev pub body_from : List Measured → Body
body_from members = record { fields = fields_from 0 members; layout = struct_layout (layouts_of members) }

-- a struct is not larger than a type may be
abbrev pub laid : List Measured → Result Body TypeEnd
laid members = if nat_le (struct_size (layouts_of members)) most_bytes then Ok (body_from members) else Err end.TooLarge

-- its members are complete (3.5.2.1)
abbrev pub laid_if : Option (List Measured) → Result Body TypeEnd
laid_if None = Err end.Incomplete
laid_if (Some members) = laid members

-- the struct of that number gets its body
abbrev pub with_body : ℕ → Body → TypeTable → TypeTable
with_body number body types = record types { structs = slice_set types.structs number (Some body) }

-- if it has one
abbrev pub with_laid : ℕ → TypeTable → Result Body TypeEnd → Result TypeTable TypeEnd
with_laid number types (Ok body) = Ok (with_body number body types)
with_laid number types (Err why) = Err why

-- only a struct or an enumeration whose body has not come yet can get one (3.5.2.3)
abbrev pub awaits_body : {A : Type 0} → Option (Option A) → Bool
awaits_body None = false
awaits_body (Some (Some body)) = false
awaits_body (Some None) = true

-- the struct of that number gets the body of these members
abbrev pub completed : ℕ → List Member → TypeTable → Result TypeTable TypeEnd
completed number members types =
    if awaits_body (slice_get types.structs number) then with_laid number types (laid_if (measured types members)) else Err end.Redefined

-- a struct whose body comes later
abbrev pub with_struct : TypeTable → TypeTable
with_struct types = record types { structs = types.structs ++ None ∷ [] }

-- and an enumeration
abbrev pub with_enumeration : TypeTable → TypeTable
with_enumeration types = record types { enumerations = types.enumerations ++ None ∷ [] }

-- the enumeration of that number gets its constants
abbrev pub with_constants : ℕ → List Enumerator → TypeTable → TypeTable
with_constants number constants types = record types { enumerations = slice_set types.enumerations number (Some constants) }

-- if it has none yet
abbrev pub enumerated : ℕ → List Enumerator → TypeTable → Result TypeTable TypeEnd
enumerated number constants types =
    if awaits_body (slice_get types.enumerations number) then Ok (with_constants number constants types) else Err end.Redefined

-- the table before any type of a program
abbrev pub basic_types : TypeTable
basic_types = record { rows = basic_rows; lists = []; structs = []; enumerations = [] }

-- each member has the layout of its type
abbrev pub HaveLayouts : TypeTable → List Measured → Type 0
HaveLayouts types [] = Unit {0}
HaveLayouts types (member ∷ members) =
    (layout_of types member.type_id ≡ Some member.layout) × HaveLayouts types members

-- what an array takes is what its elements take together
abbrev pub IsArrayOf : TypeTable → TypeId → ℕ → Layout → Type 0
IsArrayOf types of length layout =
    (element : Layout) × (layout_of types of ≡ Some element) × (array_layout length element ≡ Some layout)

-- the row of an array says what the array takes
abbrev pub FitsRow : TypeTable → Row → Type 0
FitsRow types (Array of length layout) = IsArrayOf types of length layout
FitsRow types Void = Unit {0}
FitsRow types (Integer kind) = Unit {0}
FitsRow types (Pointer of) = Unit {0}
FitsRow types (Enumeration number) = Unit {0}
FitsRow types (Struct number) = Unit {0}
FitsRow types (OpenArray of) = Unit {0}
FitsRow types (Function result parameters) = Unit {0}

-- each field has the layout of its type, and they lie one after the other
pub record IsBody (types : TypeTable) (body : Body) : Type 0 where
  pub fields : (place : ℕ) (field : Field) → slice_get body.fields place ≡ Some field → layout_of types field.type_id ≡ Some field.layout
  pub offsets : map (λ field. field.offset) body.fields ≡ offsets_from 0 (map (λ field. field.layout) body.fields)
  pub layout : body.layout ≡ struct_layout (map (λ field. field.layout) body.fields)
  pub size : body.layout.size ≤ most_bytes

-- A field ends before the next ones begin, inside the struct, and at an even offset if it is to be aligned.
abbrev pub AreApart : List Field → Type 0
AreApart fields = (place later : ℕ) (field other : Field) → place < later → slice_get fields place ≡ Some field
    → slice_get fields later ≡ Some other → field.offset + field.layout.size ≤ other.offset

-- inside the struct
abbrev pub AreInside : List Field → ℕ → Type 0
AreInside fields size = (place : ℕ) (field : Field) → slice_get fields place ≡ Some field → field.offset + field.layout.size ≤ size

-- at an even byte
abbrev pub AreAligned : List Field → Type 0
AreAligned fields = (place : ℕ) (field : Field) → slice_get fields place ≡ Some field → field.layout.even ≡ true → field.offset % 2 ≡ 0

-- What each table keeps: the types with fixed numbers, and layouts that are those of the elements and the members.
pub record IsRight (types : TypeTable) : Type 0 where
  pub basic : (place : ℕ) (row : Row) → slice_get basic_rows place ≡ Some row → slice_get types.rows place ≡ Some row
  pub rows : (place : ℕ) (row : Row) → slice_get types.rows place ≡ Some row → FitsRow types row
  pub bodies : (number : ℕ) (body : Body) → slice_get types.structs number ≡ Some (Some body) → IsBody types body

-- Types keep their numbers, and bodies that have come stay.
pub record Grows (old new : TypeTable) : Type 0 where
  pub rows : (place : ℕ) (row : Row) → slice_get old.rows place ≡ Some row → slice_get new.rows place ≡ Some row
  pub lists : (place : ℕ) (list : Parameters) → slice_get old.lists place ≡ Some list → slice_get new.lists place ≡ Some list
  pub bodies : (number : ℕ) (body : Body) → body_of old number ≡ Some body → body_of new number ≡ Some body
  pub constants : (number : ℕ) (its : List Enumerator) → constants_of old number ≡ Some its → constants_of new number ≡ Some its
