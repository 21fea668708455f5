-- The table of types grows with every type, list and body that is put into it.
--     GrowsPlainly old new      the table has grown, and has the same structs
--     Growing types given       so has the table that is given, if one is
use Rattle.std.proofs.Common.{◌≡◌, ℕ, Bool, true, false, ◌&&◌, ◌||◌, List, [], ◌∷◌, ◌++◌, Option, Some, None, Result, Ok, Err, refl, ◌∙◌, if◌then◌else◌}
use Rattle.std.specs.Prelude.{slice_get, is_some, not}
use Rattle.hs_typer.specs.Declarators.{is_function_row, is_array_row, added, untyped_end, derived_of, derived_from, formed_onto, formed, parameter_row, parameter_of, parameter_type, with_first, listed_onto, listed}
use Rattle.hs_typer.specs.Specifiers.{has_member, member_as, with_member_of, with_member}
use Rattle.hs_typer.specs.Steps.{lifted}
use Rattle.hs_typer.specs.declared.declarators.Derivation.{Derivation}
use Rattle.hs_typer.specs.declared.declarators.Derivation.TheVariants as derivation
use Rattle.hs_typer.specs.declared.type_error.TypeError.{TypeError}
use Rattle.hs_typer.specs.declared.type_error.TypeError.TheVariants.{Untyped}
use Rattle.hs_operands.specs.Objects.{loaded_as, loaded}
use Rattle.hs_operand_types.specs.Operands as operand
use Rattle.hs_operand_types.specs.Operands.{TypedOperand}
use Rattle.hs_operand_types.specs.declared.operand_end.OperandEnd.{OperandEnd}
use Rattle.hs_operand_types.specs.declared.operand_end.OperandEnd.TheVariants as operand_end
use Rattle.hs_syntax.specs.declared.word.Word.{Word}
use Rattle.hs_tokens.specs.declared.place.Place.{Place}
use Rattle.hs_operand_types.specs.Types.{is_accessible}
use Rattle.hs_tree.specs.Kinds.{element}
use Rattle.hs_tree.specs.Trees as tree
use Rattle.hs_tree.specs.Trees.{LeftValue, type_of_left, head_of_left}
use Rattle.hs_types.specs.Growing.{grows_self, grows_then}
use Rattle.hs_types.specs.TypeTables.{TypeTable, row_of, layout_of, with_row, with_list, list_id_of, row_of_element, with_result, arrayed, measured, laid_if, with_laid, awaits_body, completed, with_constants, enumerated, Grows}
use Rattle.hs_types.specs.declared.body.Body.{Body}
use Rattle.hs_types.specs.declared.body.Enumerator.{Enumerator}
use Rattle.hs_types.specs.declared.body.Member.{Member}
use Rattle.hs_types.specs.declared.row.ListId.{ListId}
use Rattle.hs_types.specs.declared.row.Parameters.{Parameters}
use Rattle.hs_types.specs.declared.row.Parameters.TheVariants.{Empty, More}
use Rattle.hs_types.specs.declared.row.Row.{Row}
use Rattle.hs_types.specs.declared.row.Row.TheVariants as row
use Rattle.hs_types.specs.declared.row.TypeId.{TypeId}
use Rattle.hs_types.specs.declared.types.TypeEnd.{TypeEnd}
use Rattle.hs_types.specs.declared.types.TypeEnd.TheVariants as end
use Rattle.hs_types.specs.TableLaws.{awaits_none, grows_row, grows_list, grows_constants, grows_body}

-- the table that is given, if one is, has grown
abbrev pub GrowsTo : {E : Type 0} → TypeTable → Result TypeTable E → Type 0
GrowsTo types (Ok new) = Grows types new
GrowsTo types (Err why) = Unit {0}

-- it has grown, and has the same structs
abbrev pub GrowsPlainly : TypeTable → TypeTable → Type 0
GrowsPlainly old new = Grows old new × (new.structs ≡ old.structs)

-- by nothing, by one change after another, by a type, and by a list of parameter types
pub plain_self : (types : TypeTable) → GrowsPlainly types types
plain_self types = (grows_self types, refl)

pub plain_then : (first second third : TypeTable) → GrowsPlainly first second → GrowsPlainly second third → GrowsPlainly first third
plain_then first second third before after = (grows_then first second third before.0 after.0, after.1 ∙ before.1)

pub plain_row : (its : Row) (types : TypeTable) → GrowsPlainly types (with_row its types)
plain_row its types = (grows_row its types, refl)

pub plain_list : (list : Parameters) (types : TypeTable) → GrowsPlainly types (with_list list types)
plain_list list types = (grows_list list types, refl)

-- the table that is returned with an answer has grown, and has the same structs
abbrev pub Growing : {A E : Type 0} → TypeTable → Result (A × TypeTable) E → Type 0
Growing types (Ok p) = GrowsPlainly types p.1
Growing types (Err why) = Unit {0}

-- both ways of a test
pub tested : {A E : Type 0} → (b : Bool) (types : TypeTable) (here there : Result (A × TypeTable) E) → Growing types here → Growing types there
    → Growing types (if b then here else there)
tested true types here there is is' = is
tested false types here there is is' = is'

-- the body of a struct
laid_grows : (number : ℕ) (types : TypeTable) (given : Result Body TypeEnd) → slice_get types.structs number ≡ Some None
    → GrowsTo types (with_laid number types given)
laid_grows number types (Ok body) incomplete = grows_body types number body incomplete
laid_grows number types (Err why) incomplete = tt

completed_if : (b : Bool) (number : ℕ) (members : List Member) (types : TypeTable)
    → (b ≡ true → slice_get types.structs number ≡ Some None)
    → GrowsTo types (if b then with_laid number types (laid_if (measured types members)) else Err end.Redefined)
completed_if true number members types incomplete = laid_grows number types (laid_if (measured types members)) (incomplete refl)
completed_if false number members types incomplete = tt

pub completed_grows : (number : ℕ) (members : List Member) (types : TypeTable) → GrowsTo types (completed number members types)
completed_grows number members types =
    completed_if (awaits_body (slice_get types.structs number)) number members types (awaits_none (slice_get types.structs number))

-- the constants of an enumeration
enumerated_if : (b : Bool) (number : ℕ) (its : List Enumerator) (types : TypeTable)
    → (b ≡ true → slice_get types.enumerations number ≡ Some None)
    → GrowsTo {E = TypeEnd} types (if b then Ok (with_constants number its types) else Err end.Redefined)
enumerated_if true number its types incomplete = grows_constants types number its (incomplete refl)
enumerated_if false number its types incomplete = tt

pub enumerated_grows : (number : ℕ) (its : List Enumerator) (types : TypeTable) → GrowsTo types (enumerated number its types)
enumerated_grows number its types =
    enumerated_if (awaits_body (slice_get types.enumerations number)) number its types (awaits_none (slice_get types.enumerations number))

-- an array
result_grows : (types : TypeTable) (given : Result Row TypeEnd) → Growing types (with_result types given)
result_grows types (Ok row) = plain_row row types
result_grows types (Err why) = tt

pub arrayed_grows : (of : TypeId) (count : ℕ) (types : TypeTable) → Growing types (arrayed of count types)
arrayed_grows of count types = result_grows types (row_of_element of count (layout_of types of))

pub end_grows : {A : Type 0} → (at : Place) (types : TypeTable) (given : Result (A × TypeTable) TypeEnd) → Growing types given
    → Growing types (untyped_end at given)
end_grows at types (Ok p) grows = grows
end_grows at types (Err why) grows = tt

-- what a declarator derives
derived_of_grows : (at : Place) (its : Derivation) (of : TypeId) (types : TypeTable) → Growing types (derived_of at its of types)
derived_of_grows at derivation.Pointer of types =
    tested (is_function_row (row_of types of)) types (Err (Untyped at)) (added (row.Pointer of) types) tt (plain_row (row.Pointer of) types)
derived_of_grows at (derivation.Array count) of types = end_grows at types (arrayed of count types) (arrayed_grows of count types)
derived_of_grows at derivation.OpenArray of types =
    tested (is_some (layout_of types of)) types (added (row.OpenArray of) types) (Err (Untyped at)) (plain_row (row.OpenArray of) types) tt
derived_of_grows at (derivation.Function list) of types =
    tested (is_function_row (row_of types of) || is_array_row (row_of types of)) types (Err (Untyped at)) (added (row.Function of list) types) tt
    (plain_row (row.Function of list) types)

-- what grew from a table that grew
further : {A E : Type 0} → (types new : TypeTable) (given : Result (A × TypeTable) E) → GrowsPlainly types new → Growing new given → Growing types given
further types new (Ok p) before after = plain_then types new p.1 before after
further types new (Err why) before after = tt

derived_from_grows : (at : Place) (its : Derivation) (types : TypeTable) (given : Result (TypeId × TypeTable) TypeError) → Growing types given
    → Growing types (derived_from at its given)
derived_from_grows at its types (Ok p) grows = further types p.1 (derived_of at its p.0 p.1) grows (derived_of_grows at its p.0 p.1)
derived_from_grows at its types (Err why) grows = tt

formed_onto_grows : (at : Place) (its : List Derivation) (types : TypeTable) (given : Result (TypeId × TypeTable) TypeError) → Growing types given
    → Growing types (formed_onto at its given)
formed_onto_grows at [] types given grows = grows
formed_onto_grows at (its ∷ rest) types given grows =
    derived_from_grows at its types (formed_onto at rest given) (formed_onto_grows at rest types given grows)

pub formed_grows : (at : Place) (its : List Derivation) (id : TypeId) (types : TypeTable) → Growing types (formed at its id types)
formed_grows at its id types = formed_onto_grows at its types (Ok (id, types)) (plain_self types)

-- the type of a parameter
parameter_row_grows : (at : Place) (id : TypeId) (o : Option Row) (types : TypeTable) → Growing types (parameter_row at id o types)
parameter_row_grows at id None types = tt
parameter_row_grows at id (Some row.Void) types = tt
parameter_row_grows at id (Some (row.Integer kind)) types = plain_self types
parameter_row_grows at id (Some (row.Pointer of)) types = plain_self types
parameter_row_grows at id (Some (row.Enumeration number)) types = plain_self types
parameter_row_grows at id (Some (row.Struct number)) types = plain_self types
parameter_row_grows at id (Some (row.Array of length layout)) types = plain_row (row.Pointer of) types
parameter_row_grows at id (Some (row.OpenArray of)) types = plain_row (row.Pointer of) types
parameter_row_grows at id (Some (row.Function result parameters)) types = tt

parameter_of_grows : (at : Place) (types : TypeTable) (given : Result (TypeId × TypeTable) TypeError) → Growing types given
    → Growing types (parameter_of at given)
parameter_of_grows at types (Ok p) grows =
    further types p.1 (parameter_row at p.0 (row_of p.1 p.0) p.1) grows (parameter_row_grows at p.0 (row_of p.1 p.0) p.1)
parameter_of_grows at types (Err why) grows = tt

pub parameter_type_grows : (at : Place) (its : List Derivation) (id : TypeId) (types : TypeTable) → Growing types (parameter_type at its id types)
parameter_type_grows at its id types = parameter_of_grows at types (formed at its id types) (formed_grows at its id types)

-- a list of parameters
pub listed_grows : (ids : List TypeId) (types : TypeTable) → GrowsPlainly types (listed ids types).1
listed_grows ids types = onto ids (list_id_of Empty types, with_list Empty types) (plain_list Empty types)
  where
    onto : (ids : List TypeId) (p : ListId × TypeTable) → GrowsPlainly types p.1 → GrowsPlainly types (listed_onto ids p).1
    onto [] p grows = grows
    onto (id ∷ ids) p grows =
        plain_then types (listed_onto ids p).1 (with_first id (listed_onto ids p)).1 (onto ids p grows)
        (plain_list (More id (listed_onto ids p).0) (listed_onto ids p).1)

-- a member
member_of_grows : (done : List Member) (word : Word) (types : TypeTable) (given : Result (TypeId × TypeTable) TypeError) → Growing types given
    → Growing types (with_member_of done word given)
member_of_grows done word types (Ok p) grows =
    tested (is_some (layout_of p.1 p.0) && not (has_member word.text done)) types (Ok (done ++ member_as word.text p.0 ∷ [], p.1))
    (Err (Untyped word.place)) grows tt
member_of_grows done word types (Err why) grows = tt

pub member_grows : (at : Place) (done : List Member) (id : TypeId) (its : List Derivation) (o : Option Word) (types : TypeTable)
    → Growing types (with_member at done id its o types)
member_grows at done id its None types = tt
member_grows at done id its (Some word) types =
    member_of_grows done word types (formed word.place its id types) (formed_grows word.place its id types)

-- the value of an operand
pub lifted_grows : {A : Type 0} → (types : TypeTable) (given : Result (A × TypeTable) OperandEnd) → Growing types given → Growing types (lifted given)
lifted_grows types (Ok p) grows = grows
lifted_grows types (Err why) grows = tt

loaded_as_grows : (types : TypeTable) (it : LeftValue) (o : Option TypeId) → Growing types (loaded_as types it o)
loaded_as_grows types it (Some of) = plain_row (row.Pointer of) types
loaded_as_grows types it None =
    tested (is_accessible types (type_of_left it)) types (Ok (tree.load (head_of_left it) it, types))
    (Err (operand_end.Untyped (head_of_left it).at)) (plain_self types) tt

pub loaded_grows : (types : TypeTable) (it : TypedOperand) → Growing types (loaded types it)
loaded_grows types (operand.value e) = plain_self types
loaded_grows types (operand.object it) = loaded_as_grows types it (element types (type_of_left it))
loaded_grows types (operand.function it) = tt
