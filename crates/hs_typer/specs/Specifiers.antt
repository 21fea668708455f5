-- Declaration specifiers (X3.159-1989 3.5.1 to 3.5.3), tags and the bodies of structs and enumerations.
--     with_basic, with_storage, with_type      a list of specifiers with one more
--     type_from first its                      the type that a list of specifiers names
--     tagged_struct, begun_struct, ..          what a tag means, or comes to mean
--     opened_struct, body_closed               a struct whose body begins, and the state after the body
--     with_member, completed_struct            members of a struct (3.5.2.1)
--     enumerator, completed_enumeration        constants of an enumeration (3.5.2.2)
use Rattle.std.specs.Prelude.{ℕ, suc, ◌-◌, ◌==◌, nat_le, nat_eq, Bool, true, false, not, ◌&&◌, ◌||◌, List, [], ◌∷◌, ◌++◌, length, take, slice_get, Option, Some, None, is_some, Result, Ok, Err, if◌then◌else◌}
use Rattle.std.specs.Cmp.Lexicographic.{pointwise}
use Rattle.std.specs.List.{list_any}
use Rattle.hs_constants.specs.declared.value.Value.{Value}
use Rattle.hs_typer.specs.Declarators.{formed, constant_of, declare, place_in}
use Rattle.hs_typer.specs.Origins.{with_struct_origin, with_enumeration_origin, closed}
use Rattle.hs_typer.specs.Steps.{Step, ◌>>=◌, ◌>>◌, give, refuse}
use Rattle.hs_typer.specs.declared.declarators.Derivation.{Derivation}
use Rattle.hs_typer.specs.declared.specifiers.Specifiers.{Specifiers}
use Rattle.hs_typer.specs.declared.specifiers.Words.{Words}
use Rattle.hs_typer.specs.declared.type_error.TypeError.{TypeError}
use Rattle.hs_typer.specs.declared.type_error.TypeError.TheVariants.{Untyped, Undeclared, NoMemory}
use Rattle.hs_typer.specs.declared.typer.Entity.{Entity}
use Rattle.hs_typer.specs.declared.typer.Entity.TheVariants as entity
use Rattle.hs_typer.specs.declared.typer.Tag.{Tag}
use Rattle.hs_typer.specs.declared.typer.Tag.TheVariants as tag
use Rattle.hs_typer.specs.declared.typer.Typer.{Typer}
use Rattle.hs_names.specs.Scopes.{find, find_here, declared}
use Rattle.hs_syntax.specs.declared.operators.Basic.{Basic}
use Rattle.hs_syntax.specs.declared.operators.Basic.TheVariants as basic
use Rattle.hs_syntax.specs.declared.operators.Storage.{Storage}
use Rattle.hs_syntax.specs.declared.word.Word.{Word}
use Rattle.hs_tokens.specs.declared.place.Place.{Place}
use Rattle.hs_tree.specs.Trees.{RightValue, head_of}
use Rattle.hs_types.specs.Rows.{void_id, integer_id}
use Rattle.hs_types.specs.TypeTables.{TypeTable, layout_of, with_row, id_of, with_struct, with_enumeration, awaits_body, completed, enumerated}
use Rattle.hs_types.specs.declared.body.Enumerator.{Enumerator}
use Rattle.hs_types.specs.declared.body.Member.{Member}
use Rattle.hs_types.specs.declared.integer.Integer.TheVariants as kind
use Rattle.hs_types.specs.declared.row.Row.TheVariants as row
use Rattle.hs_types.specs.declared.row.TypeId.{TypeId}
use Rattle.hs_types.specs.declared.types.TypeEnd.{TypeEnd}
use Rattle.hs_types.specs.declared.types.TypeEnd.TheVariants as end

-- none of them
abbrev pub no_words : Words
no_words = record { void = false; char = false; short = false; int = false; long = false; signed = false; unsigned = false; again = false }

-- nothing is said yet
abbrev pub no_specifiers : Specifiers
no_specifiers = record { words = no_words; type_id = None; storage = None; again = false }

-- a word that is there already is there again
abbrev pub with_word : Basic → Words → Words
with_word basic.Void its = record its { void = true; again = its.again || its.void }
with_word basic.Char its = record its { char = true; again = its.again || its.char }
with_word basic.Short its = record its { short = true; again = its.again || its.short }
with_word basic.Int its = record its { int = true; again = its.again || its.int }
with_word basic.Long its = record its { long = true; again = its.again || its.long }
with_word basic.Signed its = record its { signed = true; again = its.again || its.signed }
with_word basic.Unsigned its = record its { unsigned = true; again = its.again || its.unsigned }

-- with a word of a basic type
abbrev pub with_basic : Basic → Specifiers → Specifiers
with_basic word its = record its { words = with_word word its.words }

-- with a struct, an enumeration or a typedef name
abbrev pub with_type : TypeId → Specifiers → Specifiers
with_type id its = record its { type_id = Some id; again = its.again || is_some its.type_id }

-- 3.5.1: at most one storage word, and none in members, parameters and type names
abbrev pub with_storage : Bool → Storage → Place → Specifiers → Result Specifiers TypeError
with_storage stored word at its = if stored && not (is_some its.storage) then Ok (record its { storage = Some word }) else Err (Untyped at)

-- 3.5.2: the lists of words that name a basic type, in any order; none of them is there twice
abbrev pub has_others : Words → Bool
has_others its = its.char || its.short || its.int || its.long || its.signed || its.unsigned

-- the integer types
abbrev pub integer_of : Words → Option TypeId
integer_of its =
    if its.signed && its.unsigned then None
    else if its.char
    then (if its.short || its.int || its.long then None
    else if its.signed then Some (integer_id kind.SignedChar)
    else if its.unsigned then Some (integer_id kind.UnsignedChar)
    else Some (integer_id kind.Char))
    else if its.short
    then (if its.long then None else if its.unsigned then Some (integer_id kind.UnsignedShort) else Some (integer_id kind.Short))
    else if its.long then (if its.unsigned then Some (integer_id kind.UnsignedLong) else Some (integer_id kind.Long))
    else if its.unsigned then Some (integer_id kind.UnsignedInt)
    else Some (integer_id kind.Int)

-- without any word it is int (own: C asks for a type in some places)
abbrev pub basic_of : Words → Option TypeId
basic_of its =
    if its.again then None
    else if its.void then (if has_others its then None else Some void_id)
    else integer_of its

-- if there is one
abbrev pub type_or : Place → Option TypeId → Result TypeId TypeError
type_or first None = Err (Untyped first)
type_or first (Some id) = Ok id

-- one type, or words
abbrev pub type_with : Place → Words → Option TypeId → Result TypeId TypeError
type_with first its None = type_or first (basic_of its)
type_with first its (Some id) = if its.void || has_others its then Err (Untyped first) else Ok id

-- by all that the list says
abbrev pub type_from : Place → Specifiers → Result TypeId TypeError
type_from first its = if its.again then Err (Untyped first) else type_with first its.words its.type_id

-- a typedef name
abbrev pub typedef_of : Word → Option Entity → Result TypeId TypeError
typedef_of word None = Err (Undeclared word.place word.text)
typedef_of word (Some (entity.Constant bits)) = Err (Untyped word.place)
typedef_of word (Some (entity.Variable variable id)) = Err (Untyped word.place)
typedef_of word (Some (entity.Function id bound)) = Err (Untyped word.place)
typedef_of word (Some (entity.Typedef id)) = Ok id

-- the type of a struct or an enumeration, by its number
abbrev pub struct_type : ℕ → Step TypeId
struct_type number s = Ok (id_of (row.Struct number) s.types, record s { types = with_row (row.Struct number) s.types })

-- and of an enumeration
abbrev pub enumeration_type : ℕ → Step TypeId
enumeration_type number s = Ok (id_of (row.Enumeration number) s.types, record s { types = with_row (row.Enumeration number) s.types })

-- 3.5.2.3: a struct without a name
abbrev pub new_struct : Step ℕ
new_struct s = Ok (length s.types.structs, record s { types = with_struct s.types; origins = with_struct_origin false None s.origins })

-- names are declared at file scope here
abbrev pub is_outermost : Typer → Bool
is_outermost s = s.tags.level == 0

-- with a tag, in the innermost scope
abbrev pub new_tagged_struct : Word → Step ℕ
new_tagged_struct word s =
    Ok (
      length s.types.structs,
      record s {
        types = with_struct s.types;
        tags = declared word.text (tag.Struct (length s.types.structs)) s.tags;
        origins = with_struct_origin (is_outermost s) (Some word.text) s.origins;
      },
    )

-- `struct tag`: the struct that the tag names, or a new one
abbrev pub tagged_struct_as : Word → Option Tag → Step ℕ
tagged_struct_as word None = new_tagged_struct word
tagged_struct_as word (Some (tag.Struct number)) = give number
tagged_struct_as word (Some (tag.Enumeration number)) = refuse (Untyped word.place)

-- by its tag
abbrev pub tagged_struct : Word → Step ℕ
tagged_struct word s = tagged_struct_as word (find word.text s.tags) s

-- the body of the struct of that number has begun and is not complete
abbrev pub has_open_body : ℕ → Typer → Bool
has_open_body number s = list_any (nat_eq number) s.open_bodies

-- A struct whose body can begin: one of this scope that has no body and whose body has not begun, or a new one (3.5.2.3).
abbrev pub begun_struct_as : Word → Option Tag → Step ℕ
begun_struct_as word None s = new_tagged_struct word s
begun_struct_as word (Some (tag.Struct number)) s =
    if awaits_body (slice_get s.types.structs number) && not (has_open_body number s) then Ok (number, s) else Err (Untyped word.place)
begun_struct_as word (Some (tag.Enumeration number)) s = Err (Untyped word.place)

-- with or without a tag
abbrev pub begun_struct : Option Word → Step ℕ
begun_struct None s = new_struct s
begun_struct (Some word) s = begun_struct_as word (find_here word.text s.tags) s

-- the body of the struct of that number begins
abbrev pub body_opened : ℕ → Step ℕ
body_opened number s = Ok (number, record s { open_bodies = s.open_bodies ++ number ∷ []; begun = s.begun ++ number ∷ [] })

-- A struct at its opening brace.
abbrev pub opened_struct : Option Word → Step ℕ
opened_struct word = begun_struct word >>= body_opened

-- the innermost body is at its closing brace
abbrev pub body_closed : Typer → Typer
body_closed s = record s { open_bodies = take (length s.open_bodies - 1) s.open_bodies }

-- `enum tag` names an enumeration that is declared
abbrev pub tagged_enumeration : Word → Option Tag → Result ℕ TypeError
tagged_enumeration word None = Err (Undeclared word.place word.text)
tagged_enumeration word (Some (tag.Struct number)) = Err (Untyped word.place)
tagged_enumeration word (Some (tag.Enumeration number)) = Ok number

-- without a name
abbrev pub new_enumeration : Step ℕ
new_enumeration s =
    Ok (length s.types.enumerations, record s { types = with_enumeration s.types; origins = with_enumeration_origin s.origins })

-- with a tag
abbrev pub new_tagged_enumeration : Word → Step ℕ
new_tagged_enumeration word s =
    Ok (
      length s.types.enumerations,
      record s {
        types = with_enumeration s.types;
        tags = declared word.text (tag.Enumeration (length s.types.enumerations)) s.tags;
        origins = with_enumeration_origin s.origins;
      },
    )

-- an enumeration whose body begins: a tag of this scope means something else
abbrev pub begun_enumeration_as : Word → Option Tag → Step ℕ
begun_enumeration_as word None = new_tagged_enumeration word
begun_enumeration_as word (Some its) = refuse (Untyped word.place)

-- with or without a tag
abbrev pub begun_enumeration : Option Word → Step ℕ
begun_enumeration None s = new_enumeration s
begun_enumeration (Some word) s = begun_enumeration_as word (find_here word.text s.tags) s

-- a member of that name
abbrev pub has_member : List ℕ → List Member → Bool
has_member name [] = false
has_member name (member ∷ members) = pointwise nat_eq member.name name || has_member name members

-- of that name and type
abbrev pub member_as : List ℕ → TypeId → Member
member_as name id = record { name = name; type_id = id }

-- 3.5.2.1: members have names of their own and complete types
abbrev pub with_member_of : List Member → Word → Result (TypeId × TypeTable) TypeError → Result (List Member × TypeTable) TypeError
with_member_of done word (Err why) = Err why
with_member_of done word (Ok p) =
    if is_some (layout_of p.1 p.0) && not (has_member word.text done)
    then Ok (done ++ member_as word.text p.0 ∷ [], p.1)
    else Err (Untyped word.place)

-- the declarator must name it
abbrev pub with_member : Place → List Member → TypeId → List Derivation → Option Word → TypeTable → Result (List Member × TypeTable) TypeError
with_member at done id its None types = Err (Untyped at)
with_member at done id its (Some word) types = with_member_of done word (formed word.place its id types)

-- The body comes; a struct that got one meanwhile is declared again.
abbrev pub refused_body : Place → Option Word → TypeEnd → TypeError
refused_body first word end.NoMemory = NoMemory
refused_body first word end.Redefined = Untyped (place_in first word)
refused_body first word end.Incomplete = Untyped first
refused_body first word end.TooLarge = Untyped first

-- or why it cannot
abbrev pub with_body_in : Typer → Place → Option Word → Result TypeTable TypeEnd → Result (Unit {0} × Typer) TypeError
with_body_in s first word (Ok types) = Ok (tt, record s { types = types })
with_body_in s first word (Err why) = Err (refused_body first word why)

-- of a struct
abbrev pub struct_with_body : Place → Option Word → ℕ → List Member → Step (Unit {0})
struct_with_body first word number members s = with_body_in s first word (completed number members s.types)

-- A struct at its closing brace. It may be one with that of another unit.
abbrev pub completed_struct : Place → Option Word → Place → ℕ → List Member → Step (Unit {0})
completed_struct first word brace number members s =
    (struct_with_body first word number members >> closed brace (tag.Struct number)) (body_closed s)

-- and of an enumeration
abbrev pub enumeration_with_body : Place → Option Word → ℕ → List Enumerator → Step (Unit {0})
enumeration_with_body first word number its s = with_body_in s first word (enumerated number its s.types)

-- likewise
abbrev pub completed_enumeration : Place → Option Word → Place → ℕ → List Enumerator → Step (Unit {0})
completed_enumeration first word brace number its = enumeration_with_body first word number its >> closed brace (tag.Enumeration number)

-- 3.5.2.2: the value of a constant is an int
abbrev pub is_int : Value → Bool
is_int value = not (value.unsigned && nat_le 2147483648 value.bits)

-- or the refusal
abbrev pub int_as : Place → Result Value TypeError → Result ℕ TypeError
int_as at (Err why) = Err why
int_as at (Ok value) = if is_int value then Ok value.bits else Err (Untyped at)

-- of a typed expression
abbrev pub int_of : TypeTable → RightValue → Result ℕ TypeError
int_of types e = int_as (head_of e).at (constant_of types e)

-- the value of the next constant, if it is an int
abbrev pub next_bits : ℕ → Option ℕ
next_bits bits = if nat_eq bits 2147483647 then None else if nat_eq bits 4294967295 then Some 0 else Some (suc bits)

-- after the one with that value
abbrev pub then_next : Option ℕ → Option ℕ
then_next None = None
then_next (Some bits) = next_bits bits

-- a constant with that value
abbrev pub enumerator : List Enumerator → Word → Option ℕ → Step (List Enumerator)
enumerator done word None = refuse (Untyped word.place)
enumerator done word (Some bits) = do
  declare word (entity.Constant bits)
  give (done ++ record { name = word.text; bits = bits } ∷ [])
