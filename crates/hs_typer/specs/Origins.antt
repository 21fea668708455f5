-- Where structs and enumerations come from, and which types of several units are one (X3.159-1989 3.1.2.6, and own).
--     brace_of place time                    where a body begins: its `{`, and how many bodies of the unit began there before it
--     with_struct_origin outer tag, with_enumeration_origin      one more struct or enumeration of this unit
--     stands_for o number                    the struct that stands for the one of that number
--     agree s a b                            the types are compatible, in one unit or in two
--     closed place it                        a body is complete: the first one at its brace, or one with the first
--     fits_first types o number              the body of a struct is still one with the first one at its brace
use Rattle.std.specs.Prelude.{ℕ, zero, suc, ◌==◌, Bool, true, false, not, ◌&&◌, ◌||◌, List, [], ◌∷◌, ◌++◌, slice_get, slice_set, Option, Some, None, is_some, nat_eq, Ok, Err, if◌then◌else◌}
use Rattle.std.specs.Cmp.Lexicographic.{pointwise}
use Rattle.indexmap.specs.IndexMap.{insert_entry}
use Rattle.hs_operand_types.specs.Conversions.{same_type}
use Rattle.hs_operand_types.specs.Types.{are_int, inside_both, both_are}
use Rattle.hs_tokens.specs.declared.place.Place.{Place}
use Rattle.hs_tokens.specs.declared.token.Origin as token
use Rattle.hs_tokens.specs.declared.token.Origin.TheVariants as origin
use Rattle.hs_tree.specs.Representatives.{or_itself}
use Rattle.hs_typer.specs.Steps.{Step}
use Rattle.hs_typer.specs.Tags.{new_origin, tagged, whole_at}
use Rattle.hs_typer.specs.contracts.origins.BracePartialEq.TheImpl as brace_eq
use Rattle.hs_typer.specs.declared.origins.Brace.{Brace}
use Rattle.hs_typer.specs.declared.origins.Origin.{Origin}
use Rattle.hs_typer.specs.declared.origins.Origins.{Origins}
use Rattle.hs_typer.specs.declared.type_error.TypeError.TheVariants.{Clash}
use Rattle.hs_typer.specs.declared.typer.Tag.{Tag}
use Rattle.hs_typer.specs.declared.typer.Tag.TheVariants as tag
use Rattle.hs_types.specs.TypeTables.{TypeTable, row_of, body_of, constants_of}
use Rattle.hs_types.specs.declared.body.Body.{Body}
use Rattle.hs_types.specs.declared.body.Enumerator.{Enumerator}
use Rattle.hs_types.specs.declared.body.Field.{Field}
use Rattle.hs_types.specs.declared.row.ListId.{ListId}
use Rattle.hs_types.specs.declared.row.Parameters.{Parameters}
use Rattle.hs_types.specs.declared.row.Parameters.TheVariants.{Empty, More}
use Rattle.hs_types.specs.declared.row.Row.{Row}
use Rattle.hs_types.specs.declared.row.Row.TheVariants as row
use Rattle.hs_types.specs.declared.row.TypeId.{TypeId}

-- one more struct of this unit
abbrev pub with_struct_origin : Bool → Option (List ℕ) → Origins → Origins
with_struct_origin outer its o = record o { structs = o.structs ++ new_origin outer its o.unit ∷ [] }

-- and one more enumeration
abbrev pub with_enumeration_origin : Origins → Origins
with_enumeration_origin o = record o { enumerations = o.enumerations ++ None ∷ [] }

-- Where a body begins.
abbrev pub brace_of : Place → ℕ → Brace
brace_of at time = record { file = at.pos.file; line = at.pos.line; col = at.pos.col; time = time }

abbrev pub same_brace : Brace → Brace → Bool
same_brace = (brace_eq.ghosts).eq

-- what is kept for a brace
abbrev pub kept_for : {A : Type 0} → Brace → List (Brace × A) → Option A
kept_for brace [] = None
kept_for brace (it ∷ rest) = if same_brace brace it.0 then Some it.1 else kept_for brace rest

-- none, if nothing is kept
abbrev pub or_none : Option ℕ → ℕ
or_none None = 0
or_none (Some number) = number

-- how many bodies of this unit began at that place
abbrev pub times_at : Place → Origins → ℕ
times_at at o = or_none (kept_for (brace_of at 0) o.times)

-- two braces that are there, and the same
abbrev pub are_one_brace : Option Brace → Option Brace → Bool
are_one_brace None second = false
are_one_brace (Some a) None = false
are_one_brace (Some a) (Some b) = same_brace a b

-- ---- what stands for a struct

-- the struct that is kept for a brace
abbrev pub struct_in : Option Tag → Option ℕ
struct_in None = None
struct_in (Some (tag.Struct number)) = Some number
struct_in (Some (tag.Enumeration number)) = None

abbrev pub kept_struct : List (Brace × Tag) → Option Brace → Option ℕ
kept_struct firsts None = None
kept_struct firsts (Some brace) = struct_in (kept_for brace firsts)

-- where the body of a struct begins
abbrev pub struct_brace : Option Origin → Option Brace
struct_brace None = None
struct_brace (Some it) = it.brace

-- the first struct at the brace of that one, or else that one
abbrev pub first_of : Origins → ℕ → ℕ
first_of o number = or_itself number (kept_struct o.firsts (struct_brace (slice_get o.structs number)))

-- the first struct of a tag that has its body, or else the first one of the tag
abbrev pub named_first : Origins → ℕ → Option ℕ → Option ℕ → ℕ
named_first o number (Some whole) any = first_of o whole
named_first o number None any = or_itself number any

-- A tag of file scope that has no body in its unit is one with the first struct of that tag that another unit completes at file scope. If no
-- unit completes it, it is one with the first such tag (own).
abbrev pub stands_named : Origins → ℕ → Option (List ℕ) → ℕ
stands_named o number None = number
stands_named o number (Some name) = named_first o number (tagged true name 0 o.structs) (tagged false name 0 o.structs)

-- Each other struct without a brace stands for itself: a tag of a block, and a body that comes from a macro (own).
abbrev pub stands_alone : Origins → ℕ → Origin → ℕ
stands_alone o number it = if it.outer && not it.whole then stands_named o number it.tag else number

-- Bodies that begin at one brace are one type, and the first of them stands for all (own).
abbrev pub stands_by : Origins → ℕ → Origin → Option Brace → ℕ
stands_by o number it (Some brace) = or_itself number (struct_in (kept_for brace o.firsts))
stands_by o number it None = stands_alone o number it

abbrev pub stands_as : Origins → ℕ → Option Origin → ℕ
stands_as o number None = number
stands_as o number (Some it) = stands_by o number it it.brace

-- the struct that stands for the one of that number
abbrev pub stands_for : Origins → ℕ → ℕ
stands_for o number = stands_as o number (slice_get o.structs number)

-- ---- compatible types

-- Bodies at one brace are one type. Structs of two units that do not both have their bodies are one type if one struct stands for both.
abbrev pub origins_agree : Origins → Bool → ℕ → ℕ → Option Origin → Option Origin → Bool
origins_agree o complete m n None second = false
origins_agree o complete m n (Some a) None = false
origins_agree o complete m n (Some a) (Some b) =
    are_one_brace a.brace b.brace || ((stands_for o m == stands_for o n) && not (a.unit == b.unit) && not complete)

-- the struct has its body
abbrev pub has_body : TypeTable → ℕ → Bool
has_body types number = is_some (body_of types number)

-- two structs
abbrev pub structs_agree : TypeTable → Origins → ℕ → ℕ → Bool
structs_agree types o a b =
    (a == b) || origins_agree o (has_body types a && has_body types b) a b (slice_get o.structs a) (slice_get o.structs b)

-- the brace of an enumeration
abbrev pub brace_in : Option (Option Brace) → Option Brace
brace_in None = None
brace_in (Some its) = its

-- two enumerations
abbrev pub enumerations_agree : Origins → ℕ → ℕ → Bool
enumerations_agree o a b = (a == b) || are_one_brace (brace_in (slice_get o.enumerations a)) (brace_in (slice_get o.enumerations b))

-- two types that are no pointers, arrays or functions; an enumeration is compatible with int
abbrev pub leaves_agree : TypeTable → Origins → Option Row → Option Row → Bool
leaves_agree types o (Some (row.Struct a)) (Some (row.Struct b)) = structs_agree types o a b
leaves_agree types o (Some (row.Enumeration a)) (Some (row.Enumeration b)) = enumerations_agree o a b
leaves_agree types o (Some (row.Integer kind)) (Some (row.Enumeration b)) = are_int (Some (row.Integer kind)) (Some (row.Enumeration b))
leaves_agree types o (Some (row.Enumeration a)) (Some (row.Integer kind)) = are_int (Some (row.Enumeration a)) (Some (row.Integer kind))
leaves_agree types o _ _ = false

-- Two types of objects, down to so many types inside. Two pointers, or two arrays, agree if what they point to, or their elements, do.
abbrev pub objects_agree_within : ℕ → TypeTable → Origins → TypeId → TypeId → Bool
objects_agree_within zero types o a b = same_type a b
objects_agree_within (suc more) types o a b =
    same_type a b || leaves_agree types o (row_of types a) (row_of types b) ||
    both_are (objects_agree_within more types o) (inside_both (row_of types a) (row_of types b))

-- A type is made of older types, so its number bounds how deep it is.
abbrev pub objects_agree : TypeTable → Origins → TypeId → TypeId → Bool
objects_agree types o a b = objects_agree_within a.number types o a b

-- 3.5.4.3: as many parameters, each of a compatible type; a list is made of older lists
abbrev pub lists_agree_by : (ListId → ListId → Bool) → TypeTable → Origins → Option Parameters → Option Parameters → Bool
lists_agree_by rest types o (Some Empty) (Some Empty) = true
lists_agree_by rest types o (Some (More a others)) (Some (More b others')) = objects_agree types o a b && rest others others'
lists_agree_by rest types o _ _ = false

-- down to so many parameters
abbrev pub lists_agree_within : ℕ → TypeTable → Origins → ListId → ListId → Bool
lists_agree_within zero types o a b = false
lists_agree_within (suc more) types o a b =
    lists_agree_by (lists_agree_within more types o) types o (slice_get types.lists a.number) (slice_get types.lists b.number)

-- of all parameters
abbrev pub lists_agree : TypeTable → Origins → ListId → ListId → Bool
lists_agree types o a b = lists_agree_within (suc a.number) types o a b

-- A function gives no function, and no other type has one inside (function pointers are left out).
abbrev pub agree_by : TypeTable → Origins → Bool → Option Row → Option Row → Bool
agree_by types o objects (Some (row.Function result list)) (Some (row.Function other list')) =
    objects_agree types o result other && lists_agree types o list list'
agree_by types o objects _ _ = objects

-- 3.1.2.6: compatible types
abbrev pub agree : TypeTable → Origins → TypeId → TypeId → Bool
agree types o a b = agree_by types o (objects_agree types o a b) (row_of types a) (row_of types b)

-- an array without its length, and one with it
abbrev pub are_half_open : Option Row → Option Row → Bool
are_half_open (Some (row.Array of length layout)) (Some (row.OpenArray of')) = true
are_half_open (Some (row.OpenArray of)) (Some (row.Array of' length layout)) = true
are_half_open _ _ = false

-- compatible, and yet two types
abbrev pub are_two : Option Row → Option Row → Bool
are_two a b = are_int a b || are_half_open a b

-- One type has an int where the other has an enumeration, or a length where the other has none, down to so many types inside.
abbrev pub mix_within : ℕ → TypeTable → TypeId → TypeId → Bool
mix_within zero types a b = false
mix_within (suc more) types a b =
    are_two (row_of types a) (row_of types b) || both_are (mix_within more types) (inside_both (row_of types a) (row_of types b))

-- anywhere inside
abbrev pub mix : TypeTable → TypeId → TypeId → Bool
mix types a b = mix_within a.number types a b

-- Members of two bodies at one brace are of one type: compatible types do not suffice there (own).
abbrev pub members_agree : TypeTable → Origins → TypeId → TypeId → Bool
members_agree types o a b = agree types o a b && not (mix types a b)

-- Two bodies at one brace have the same members, in their order.
abbrev pub fields_agree : TypeTable → Origins → List Field → List Field → Bool
fields_agree types o [] [] = true
fields_agree types o [] (b ∷ more) = false
fields_agree types o (a ∷ fields) [] = false
fields_agree types o (a ∷ fields) (b ∷ more) =
    pointwise nat_eq a.name b.name && members_agree types o a.type_id b.type_id && fields_agree types o fields more

-- both of which are there
abbrev pub bodies_agree : TypeTable → Origins → Option Body → Option Body → Bool
bodies_agree types o None second = false
bodies_agree types o (Some a) None = false
bodies_agree types o (Some a) (Some b) = fields_agree types o a.fields b.fields

-- the same constants
abbrev pub enumerators_agree : List Enumerator → List Enumerator → Bool
enumerators_agree [] [] = true
enumerators_agree [] (b ∷ more) = false
enumerators_agree (a ∷ its) [] = false
enumerators_agree (a ∷ its) (b ∷ more) = pointwise nat_eq a.name b.name && (a.bits == b.bits) && enumerators_agree its more

-- both of which are there
abbrev pub constants_agree : Option (List Enumerator) → Option (List Enumerator) → Bool
constants_agree None second = false
constants_agree (Some a) None = false
constants_agree (Some a) (Some b) = enumerators_agree a b

-- a body and another one
abbrev pub tags_agree : TypeTable → Origins → Tag → Tag → Bool
tags_agree types o (tag.Struct a) (tag.Struct b) = bodies_agree types o (body_of types a) (body_of types b)
tags_agree types o (tag.Enumeration a) (tag.Enumeration b) = constants_agree (constants_of types a) (constants_of types b)
tags_agree types o _ _ = false

-- the name of the first member
abbrev pub first_field : List Field → List ℕ
first_field [] = []
first_field (it ∷ rest) = it.name

-- of a body that is there
abbrev pub first_in : Option Body → List ℕ
first_in None = []
first_in (Some body) = first_field body.fields

-- the name of the first constant
abbrev pub first_enumerator : List Enumerator → List ℕ
first_enumerator [] = []
first_enumerator (it ∷ rest) = it.name

-- of an enumeration that has its constants
abbrev pub first_constant : Option (List Enumerator) → List ℕ
first_constant None = []
first_constant (Some its) = first_enumerator its

-- the name of the first member or constant
abbrev pub first_name : TypeTable → Tag → List ℕ
first_name types (tag.Struct number) = first_in (body_of types number)
first_name types (tag.Enumeration number) = first_constant (constants_of types number)

-- the body of that struct or enumeration begins at that brace
abbrev pub begun_at : Brace → Tag → Origins → Origins
begun_at brace (tag.Struct number) o = record o { structs = whole_at (Some brace) (slice_get o.structs number) o.structs number }
begun_at brace (tag.Enumeration number) o = record o { enumerations = slice_set o.enumerations number (Some brace) }

-- one body more of this unit at that place
abbrev pub counted_at : Place → Origins → Origins
counted_at at o = record o { times = insert_entry same_brace o.times (brace_of at 0) (suc (times_at at o)) }

-- the first body at a brace
abbrev pub first_at : Brace → Tag → Origins → Origins
first_at brace it o = record o { firsts = insert_entry same_brace o.firsts brace it }

-- with its body, which is one more of this unit at that place
abbrev pub met : Place → Tag → Brace → Origins → Origins
met at it brace o = begun_at brace it (counted_at at o)

-- The first body at its brace, or one with the first; if they differ, the later brace is a Clash (own).
abbrev pub joined : Place → Tag → Brace → Option Tag → Step (Unit {0})
joined at it brace None s = Ok (tt, record s { origins = first_at brace it (met at it brace s.origins) })
joined at it brace (Some first) s =
    if tags_agree s.types (met at it brace s.origins) first it
    then Ok (tt, record s { origins = met at it brace s.origins })
    else Err (Clash at (first_name s.types it))

-- a body that begins at no place of a file
abbrev pub begun_nowhere : Tag → Origins → Origins
begun_nowhere (tag.Struct number) o = record o { structs = whole_at None (slice_get o.structs number) o.structs number }
begun_nowhere (tag.Enumeration number) o = o

-- a brace that comes from a macro is at no place of a file
abbrev pub is_plain : token.Origin → Bool
is_plain origin.Plain = true
is_plain origin.Macro = false

-- the body of a struct or an enumeration is complete; `at` is its brace
abbrev pub closed : Place → Tag → Step (Unit {0})
closed at it s =
    if is_plain at.origin
    then joined at it (brace_of at (times_at at s.origins)) (kept_for (brace_of at (times_at at s.origins)) s.origins.firsts) s
    else Ok (tt, record s { origins = begun_nowhere it s.origins })

-- ---- at the end of a unit

-- a body and the first one at its brace, if there is one
abbrev pub fits_kept : TypeTable → Origins → ℕ → Option Tag → Bool
fits_kept types o number None = true
fits_kept types o number (Some first) = tags_agree types o first (tag.Struct number)

-- if it has a brace
abbrev pub fits_at : TypeTable → Origins → ℕ → Option Brace → Bool
fits_at types o number None = true
fits_at types o number (Some brace) = fits_kept types o number (kept_for brace o.firsts)

-- The body of that struct is one with the first one at its brace. Tags that its members name may have got their bodies since.
abbrev pub fits_first : TypeTable → Origins → ℕ → Bool
fits_first types o number = fits_at types o number (struct_brace (slice_get o.structs number))
