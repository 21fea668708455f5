-- Declarators (X3.159-1989 3.5.4): what is derived from a type, in the order of the text.
--     formed at its types id            the type that derivations make of a type; the last one is applied first
--     parameter_type at id              the type of a parameter (3.5.4.3)
--     listed ids                        a list of parameter types
--     word_of it, place_of other it     the word that a declarator names, and its place
--     declare word entity               a name, declared in the innermost scope
use Rattle.std.specs.Prelude.{ℕ, nat_le, Bool, true, false, ◌||◌, List, [], ◌∷◌, Option, Some, None, is_some, Result, Ok, Err, if◌then◌else◌}
use Rattle.hs_constants.specs.declared.value.Value.{Value}
use Rattle.hs_typer.specs.Steps.{Step}
use Rattle.hs_typer.specs.declared.declarators.Derivation.{Derivation}
use Rattle.hs_typer.specs.declared.declarators.Derivation.TheVariants as derivation
use Rattle.hs_typer.specs.declared.type_error.TypeError.{TypeError}
use Rattle.hs_typer.specs.declared.type_error.TypeError.TheVariants.{Untyped}
use Rattle.hs_typer.specs.declared.typer.Entity.{Entity}
use Rattle.hs_typer.specs.declared.typer.Entity.TheVariants as entity
use Rattle.hs_names.specs.Scopes.{find, find_here, declared}
use Rattle.hs_operand_types.specs.Constants.{constant_value}
use Rattle.hs_syntax.specs.Trees as syntax
use Rattle.hs_syntax.specs.Trees.{Declared, Directly}
use Rattle.hs_syntax.specs.declared.operators.Pointer.{Pointer}
use Rattle.hs_syntax.specs.declared.operators.Pointer.TheVariants as pointer
use Rattle.hs_syntax.specs.declared.word.Word.{Word}
use Rattle.hs_tokens.specs.declared.place.Place.{Place}
use Rattle.hs_tree.specs.Trees.{RightValue, head_of}
use Rattle.hs_types.specs.TypeTables.{TypeTable, row_of, layout_of, arrayed, with_row, id_of, with_list, list_id_of}
use Rattle.hs_types.specs.declared.row.ListId.{ListId}
use Rattle.hs_types.specs.declared.row.Parameters.TheVariants.{Empty, More}
use Rattle.hs_types.specs.declared.row.Row.{Row}
use Rattle.hs_types.specs.declared.row.Row.TheVariants as row
use Rattle.hs_types.specs.declared.row.TypeId.{TypeId}
use Rattle.hs_types.specs.declared.types.TypeEnd.{TypeEnd}

-- 3.4: an integral constant expression, in which nothing is divided by 0
abbrev pub constant_as : Place → Option Value → Result Value TypeError
constant_as at None = Err (Untyped at)
constant_as at (Some value) = if value.fails then Err (Untyped at) else Ok value

-- of a typed expression, at its position
abbrev pub constant_of : TypeTable → RightValue → Result Value TypeError
constant_of types e = constant_as (head_of e).at (constant_value types e)

-- below 0
abbrev pub is_negative : Value → Bool
is_negative value = if value.unsigned then false else nat_le 2147483648 value.bits

-- 3.5.4.2: the length of an array is greater than 0
abbrev pub length_as : Place → Result Value TypeError → Result ℕ TypeError
length_as at (Err why) = Err why
length_as at (Ok value) = if (if nat_le 1 value.bits then is_negative value else true) then Err (Untyped at) else Ok value.bits

-- of a typed expression
abbrev pub length_of : TypeTable → RightValue → Result ℕ TypeError
length_of types e = length_as (head_of e).at (constant_of types e)

-- 3.5.4.1; a pointer to a function is left out (own)
abbrev pub is_function_row : Option Row → Bool
is_function_row None = false
is_function_row (Some row.Void) = false
is_function_row (Some (row.Integer kind)) = false
is_function_row (Some (row.Pointer of)) = false
is_function_row (Some (row.Enumeration number)) = false
is_function_row (Some (row.Struct number)) = false
is_function_row (Some (row.Array of length layout)) = false
is_function_row (Some (row.OpenArray of)) = false
is_function_row (Some (row.Function result parameters)) = true

-- an array, of known length or not
abbrev pub is_array_row : Option Row → Bool
is_array_row None = false
is_array_row (Some row.Void) = false
is_array_row (Some (row.Integer kind)) = false
is_array_row (Some (row.Pointer of)) = false
is_array_row (Some (row.Enumeration number)) = false
is_array_row (Some (row.Struct number)) = false
is_array_row (Some (row.Array of length layout)) = true
is_array_row (Some (row.OpenArray of)) = true
is_array_row (Some (row.Function result parameters)) = false

-- the type is added to the table
abbrev pub added : Row → TypeTable → Result (TypeId × TypeTable) TypeError
added its types = Ok (id_of its types, with_row its types)

-- a type that cannot be made is refused at that place
abbrev pub untyped_end : {A : Type 0} → Place → Result A TypeEnd → Result A TypeError
untyped_end at (Ok it) = Ok it
untyped_end at (Err why) = Err (Untyped at)

-- 3.5.4.2 and 3.5.4.3: elements are complete, and a function gives no function and no array
abbrev pub derived_of : Place → Derivation → TypeId → TypeTable → Result (TypeId × TypeTable) TypeError
derived_of at derivation.Pointer of types = if is_function_row (row_of types of) then Err (Untyped at) else added (row.Pointer of) types
derived_of at (derivation.Array length) of types = untyped_end at (arrayed of length types)
derived_of at derivation.OpenArray of types = if is_some (layout_of types of) then added (row.OpenArray of) types else Err (Untyped at)
derived_of at (derivation.Function list) of types =
    if is_function_row (row_of types of) || is_array_row (row_of types of) then Err (Untyped at) else added (row.Function of list) types

-- if what it is derived from could be made
abbrev pub derived_from : Place → Derivation → Result (TypeId × TypeTable) TypeError → Result (TypeId × TypeTable) TypeError
derived_from at its (Err why) = Err why
derived_from at its (Ok p) = derived_of at its p.0 p.1

-- `int *a[3]` is an array of pointers: the pointer comes first, though it is the last in this list
abbrev pub formed_onto : Place → List Derivation → Result (TypeId × TypeTable) TypeError → Result (TypeId × TypeTable) TypeError
formed_onto at [] given = given
formed_onto at (its ∷ rest) given = derived_from at its (formed_onto at rest given)

-- all of them, from that type on
abbrev pub formed : Place → List Derivation → TypeId → TypeTable → Result (TypeId × TypeTable) TypeError
formed at its id types = formed_onto at its (Ok (id, types))

-- 3.5.4.3: an array is passed as the address of its first element; void and functions are no types of parameters
abbrev pub parameter_row : Place → TypeId → Option Row → TypeTable → Result (TypeId × TypeTable) TypeError
parameter_row at id None types = Err (Untyped at)
parameter_row at id (Some row.Void) types = Err (Untyped at)
parameter_row at id (Some (row.Integer kind)) types = Ok (id, types)
parameter_row at id (Some (row.Pointer of)) types = Ok (id, types)
parameter_row at id (Some (row.Enumeration number)) types = Ok (id, types)
parameter_row at id (Some (row.Struct number)) types = Ok (id, types)
parameter_row at id (Some (row.Array of length layout)) types = added (row.Pointer of) types
parameter_row at id (Some (row.OpenArray of)) types = added (row.Pointer of) types
parameter_row at id (Some (row.Function result parameters)) types = Err (Untyped at)

-- if the declared type could be made
abbrev pub parameter_of : Place → Result (TypeId × TypeTable) TypeError → Result (TypeId × TypeTable) TypeError
parameter_of at (Err why) = Err why
parameter_of at (Ok p) = parameter_row at p.0 (row_of p.1 p.0) p.1

-- by its derivations
abbrev pub parameter_type : Place → List Derivation → TypeId → TypeTable → Result (TypeId × TypeTable) TypeError
parameter_type at its id types = parameter_of at (formed at its id types)

-- the list of the last ones first
abbrev pub with_first : TypeId → ListId × TypeTable → ListId × TypeTable
with_first id p = (list_id_of (More id p.0) p.1, with_list (More id p.0) p.1)

-- in front of those that are listed already
abbrev pub listed_onto : List TypeId → ListId × TypeTable → ListId × TypeTable
listed_onto [] p = p
listed_onto (id ∷ ids) p = with_first id (listed_onto ids p)

-- all of them
abbrev pub listed : List TypeId → TypeTable → ListId × TypeTable
listed ids types = listed_onto ids (list_id_of Empty types, with_list Empty types)

-- a pointer for each `*`
abbrev pub pointers_of : List Pointer → List Derivation
pointers_of [] = []
pointers_of (pointer.Star at ∷ rest) = derivation.Pointer ∷ pointers_of rest
pointers_of (pointer.Dropped word at ∷ rest) = pointers_of rest

abbrev mutual
  -- the word that a declarator names
  pub word_of : Declared → Option Word
  word_of (syntax.pointing pointers direct) = word_of_direct direct

  -- the word that is named after the pointers of a declarator
  pub word_of_direct : Directly → Option Word
  word_of_direct syntax.nothing = None
  word_of_direct (syntax.identifier word) = Some word
  word_of_direct (syntax.parens_of it) = word_of it
  word_of_direct (syntax.array base) = word_of_direct base
  word_of_direct (syntax.sized_array base length) = word_of_direct base
  word_of_direct (syntax.function base its) = word_of_direct base
  word_of_direct (syntax.function_of_void base at) = word_of_direct base

-- the place of a word, or the other one
abbrev pub place_in : Place → Option Word → Place
place_in other None = other
place_in other (Some word) = word.place

-- the place of its name, or the other one if it names nothing
abbrev pub place_of : Place → Declared → Place
place_of other it = place_in other (word_of it)

-- a typedef name
abbrev pub is_typedef : Option Entity → Bool
is_typedef None = false
is_typedef (Some (entity.Constant bits)) = false
is_typedef (Some (entity.Variable variable id)) = false
is_typedef (Some (entity.Function id bound)) = false
is_typedef (Some (entity.Typedef id)) = true

-- A name is declared once in a scope (3.1.2.2), and a typedef name of file scope nowhere else (own).
abbrev pub declare : Word → Entity → Step (Unit {0})
declare word it s =
    if is_typedef (find word.text s.names) || is_some (find_here word.text s.names)
    then Err (Untyped word.place)
    else Ok (tt, record s { names = declared word.text it s.names })
