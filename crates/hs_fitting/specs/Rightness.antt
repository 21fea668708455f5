-- The table of types stays right at every place of the text.
--     AreRight types                           what each table keeps; and an array of unknown length is of a complete type
--     right_row, right_list, right_struct, right_enumeration, right_body, right_constants     with one thing more
--     right_basic, right_later                 the table before the first declaration
--     Righting types given                     the table that is given, if one is, is right if the one before it is
--     arrayed_rights, formed_rights, ..        steps that change the table
use Rattle.std.proofs.Common.{◌≡◌, ◌+◌, ℕ, zero, suc, ◌⊎◌, inl, inr, Bool, true, false, ◌&&◌, ◌||◌, IsTrue, List, [], ◌∷◌, ◌++◌, map, Option, Some, None, Result, Ok, Err, refl, ap, sym, subst, if◌then◌else◌, arith}
use Rattle.std.proofs.lemmas.Bool.Decides.{nat_tests}
use Rattle.std.specs.Prelude.{slice_get, is_some, not, nat_le}
use Rattle.hs_base.specs.Entries.{all_at, last_either, replaced_either}
use Rattle.hs_expressions.specs.Laws.Grown.{GrowsTo, completed_grows, enumerated_grows}
use Rattle.hs_fitting.specs.Moves.{whole_stays}
use Rattle.hs_operands.specs.Objects.{loaded_as, loaded}
use Rattle.hs_operand_types.specs.Operands as operand
use Rattle.hs_operand_types.specs.Operands.{TypedOperand}
use Rattle.hs_operand_types.specs.declared.operand_end.OperandEnd.{OperandEnd}
use Rattle.hs_operand_types.specs.declared.operand_end.OperandEnd.TheVariants as operand_end
use Rattle.hs_syntax.specs.declared.word.Word.{Word}
use Rattle.hs_table.specs.declared.routine.Routine.{Routine}
use Rattle.hs_tokens.specs.declared.place.Place.{Place}
use Rattle.hs_operand_types.specs.Types.{is_accessible}
use Rattle.hs_tree.specs.Kinds.{element}
use Rattle.hs_tree.specs.Trees as tree
use Rattle.hs_tree.specs.Trees.{LeftValue, type_of_left, head_of_left}
use Rattle.hs_typer.specs.Declarators.{is_function_row, is_array_row, added, untyped_end, derived_of, derived_from, formed_onto, formed, parameter_row, parameter_of, parameter_type, listed_onto, listed}
use Rattle.hs_typer.specs.Specifiers.{has_member, member_as, with_member_of, with_member}
use Rattle.hs_typer.specs.Steps.{beginning, lifted}
use Rattle.hs_typer.specs.declared.declarators.Derivation.{Derivation}
use Rattle.hs_typer.specs.declared.declarators.Derivation.TheVariants as derivation
use Rattle.hs_typer.specs.declared.type_error.TypeError.{TypeError}
use Rattle.hs_typer.specs.declared.type_error.TypeError.TheVariants.{Untyped}
use Rattle.hs_types.specs.Growing.{fits_row_stays, is_body_stays}
use Rattle.hs_types.specs.Layouts.{array_layout, most_bytes, placed, offsets_from, struct_size, struct_layout}
use Rattle.hs_types.specs.Rows.{basic_rows}
use Rattle.hs_types.specs.TypeTables.{TypeTable, row_of, layout_of, is_complete, with_row, with_list, list_id_of, row_of_layout, row_of_element, with_result, arrayed, measured_first, measured, fields_from, layouts_of, body_from, laid, laid_if, with_body, with_laid, awaits_body, completed, with_struct, with_enumeration, with_constants, enumerated, basic_types, HaveLayouts, FitsRow, IsBody, IsRight, Grows}
use Rattle.hs_types.specs.contracts.row.RowPartialEq.TheImpl as row_eq
use Rattle.hs_types.specs.declared.body.Body.{Body}
use Rattle.hs_types.specs.declared.body.Enumerator.{Enumerator}
use Rattle.hs_types.specs.declared.body.Field.{Field}
use Rattle.hs_types.specs.declared.body.Member.{Member}
use Rattle.hs_types.specs.declared.layout.Layout.{Layout}
use Rattle.hs_types.specs.declared.row.ListId.{ListId}
use Rattle.hs_types.specs.declared.row.Parameters.{Parameters}
use Rattle.hs_types.specs.declared.row.Parameters.TheVariants.{Empty, More}
use Rattle.hs_types.specs.declared.row.Row.{Row}
use Rattle.hs_types.specs.declared.row.Row.TheVariants as row
use Rattle.hs_types.specs.declared.row.TypeId.{TypeId}
use Rattle.hs_types.specs.declared.types.TypeEnd.{TypeEnd}
use Rattle.hs_types.specs.declared.types.TypeEnd.TheVariants as end
use Rattle.hs_types.specs.TableLaws.{grows_row, grows_list, grows_struct, grows_enumeration, inserted_either}

-- What a table keeps. An array of unknown length is of a complete type too (X3.159-1989 3.5.4.2).
pub record AreRight (types : TypeTable) : Type 0 where
  pub right : IsRight types
  pub elements : (id of : TypeId) → row_of types id ≡ Some (row.OpenArray of) → IsTrue (is_complete types of)

-- this of one row
abbrev pub IsFull : TypeTable → Row → Type 0
IsFull types (row.OpenArray of) = IsTrue (is_complete types of)
IsFull types row.Void = Unit {0}
IsFull types (row.Integer kind) = Unit {0}
IsFull types (row.Pointer of) = Unit {0}
IsFull types (row.Enumeration number) = Unit {0}
IsFull types (row.Struct number) = Unit {0}
IsFull types (row.Array of length layout) = Unit {0}
IsFull types (row.Function result parameters) = Unit {0}

-- ---- one thing more

-- with a type more, whose row fits and is of a complete type
pub right_row : (its : Row) (types : TypeTable) → FitsRow types its → IsFull types its → AreRight types → AreRight (with_row its types)
right_row its types fits full are =
    record {
      right = record {
        basic = λ place it at. (grows_row its types).rows place it (are.right.basic place it at);
        rows = λ place it at. fits_row_stays types (with_row its types) it (grows_row its types) (fits_either it place (old_or_new it place at));
        bodies = λ number body at. is_body_stays types (with_row its types) body (grows_row its types) (are.right.bodies number body at);
      };
      elements = λ id of at. whole_stays types (with_row its types) of (grows_row its types)
          (full_either id of (old_or_new (row.OpenArray of) id.number at));
    }
  where
    old_or_new : (it : Row) (place : ℕ) → slice_get (with_row its types).rows place ≡ Some it
        → (slice_get types.rows place ≡ Some it) ⊎ (its ≡ it)
    old_or_new it place at = inserted_either (row_eq.ghosts).eq types.rows its place it at

    fits_either : (it : Row) (place : ℕ) → (slice_get types.rows place ≡ Some it) ⊎ (its ≡ it) → FitsRow types it
    fits_either it place (inl old) = are.right.rows place it old
    fits_either it place (inr new) = subst (FitsRow types) new fits

    full_either : (id of : TypeId) → (slice_get types.rows id.number ≡ Some (row.OpenArray of)) ⊎ (its ≡ row.OpenArray of)
        → IsTrue (is_complete types of)
    full_either id of (inl old) = are.elements id of old
    full_either id of (inr new) = subst (IsFull types) new full

-- with the same rows, and bodies that are right
right_same : (old new : TypeTable) → Grows old new → new.rows ≡ old.rows
    → ((number : ℕ) (body : Body) → slice_get new.structs number ≡ Some (Some body) → IsBody old body) → AreRight old → AreRight new
right_same old new grows rows bodies are =
    record {
      right = record {
        basic = λ place it at. grows.rows place it (are.right.basic place it at);
        rows = λ place it at. fits_row_stays old new it grows (are.right.rows place it (before place it at));
        bodies = λ number body at. is_body_stays old new body grows (bodies number body at);
      };
      elements = λ id of at. whole_stays old new of grows (are.elements id of (before id.number (row.OpenArray of) at));
    }
  where
    before : (place : ℕ) (it : Row) → slice_get new.rows place ≡ Some it → slice_get old.rows place ≡ Some it
    before place it at = subst (λ its. slice_get its place ≡ Some it) rows at

-- with a list of parameter types more
pub right_list : (list : Parameters) (types : TypeTable) → AreRight types → AreRight (with_list list types)
right_list list types are = right_same types (with_list list types) (grows_list list types) refl are.right.bodies are

-- with a struct more, whose body comes later
pub right_struct : (types : TypeTable) → AreRight types → AreRight (with_struct types)
right_struct types are =
    right_same types (with_struct types) (grows_struct types) refl
    (λ number body at. old_body number body (last_either types.structs None number (Some body) at)) are
  where
    old_body : (number : ℕ) (body : Body) → (slice_get types.structs number ≡ Some (Some body)) ⊎ (None ≡ Some body) → IsBody types body
    old_body number body (inl old) = are.right.bodies number body old
    old_body number body (inr new) = absurd cc

-- with an enumeration more
pub right_enumeration : (types : TypeTable) → AreRight types → AreRight (with_enumeration types)
right_enumeration types are = right_same types (with_enumeration types) (grows_enumeration types) refl are.right.bodies are

-- with a body that is right, of a struct that had none, so that the table grows
pub right_body : (number : ℕ) (body : Body) (types : TypeTable) → Grows types (with_body number body types) → IsBody types body → AreRight types
    → AreRight (with_body number body types)
right_body number body types grows is are =
    right_same types (with_body number body types) grows refl
    (λ other it at. either_body other it (replaced_either types.structs number (Some body) other (Some it) at)) are
  where
    either_body : (other : ℕ) (it : Body) → (slice_get types.structs other ≡ Some (Some it)) ⊎ (Some body ≡ Some it) → IsBody types it
    either_body other it (inl old) = are.right.bodies other it old
    either_body other it (inr new) = let same : body ≡ it = cc in subst (IsBody types) same is

-- with the constants of an enumeration that had none, so that the table grows
pub right_constants : (number : ℕ) (constants : List Enumerator) (types : TypeTable) → Grows types (with_constants number constants types)
    → AreRight types → AreRight (with_constants number constants types)
right_constants number constants types grows are =
    right_same types (with_constants number constants types) grows refl are.right.bodies are

-- before any type of a program
pub right_basic : AreRight basic_types
right_basic =
    record {
      right = record {
        basic = λ place it at. at;
        rows = λ place it at. all_at (FitsRow basic_types) basic_rows place it (tt, (tt, (tt, (tt, (tt, (tt, (tt, (tt, (tt, (tt, (tt, (tt, tt)))))))))))) at;
        bodies = λ number body at. absurd cc;
      };
      elements = λ id of at. all_at (IsFull basic_types) basic_rows id.number (row.OpenArray of)
          (tt, (tt, (tt, (tt, (tt, (tt, (tt, (tt, (tt, (tt, (tt, (tt, tt)))))))))))) at;
    }

-- and before the first declaration
pub right_later : (table : List Routine) → AreRight (beginning table).types
right_later table = right_basic

-- ---- the body of a struct

-- what is there meets a fact
abbrev IfSome : {A : Type 0} → (A → Type 0) → Option A → Type 0
IfSome holds None = Unit {0}
IfSome holds (Some it) = holds it

-- and an answer, if it is one
abbrev IfOk : {A : Type 0} → (A → Type 0) → Result A TypeEnd → Type 0
IfOk holds (Ok it) = holds it
IfOk holds (Err why) = Unit {0}

-- the members that are measured have the layouts of their types
measured_have : (types : TypeTable) (members : List Member) → IfSome (HaveLayouts types) (measured types members)
measured_have types [] = tt
measured_have types (member ∷ members) = first (layout_of types member.type_id) (measured types members) refl (measured_have types members)
  where
    first : (o : Option Layout) (rest : _) → layout_of types member.type_id ≡ o → IfSome (HaveLayouts types) rest
        → IfSome (HaveLayouts types) (measured_first member o rest)
    first None rest is have = tt
    first (Some layout) None is have = tt
    first (Some layout) (Some rest) is have = (is, have)

-- fields lie one after the other
fields_laid : (free : ℕ) (members : _)
    → map (λ field. field.offset) (fields_from free members) ≡ offsets_from free (map (λ field. field.layout) (fields_from free members))
fields_laid free [] = refl
fields_laid free (member ∷ members) =
    ap (λ its. placed free member.layout ∷ its) (fields_laid (placed free member.layout + member.layout.size) members)

-- with the layouts of the members
fields_layouts : (free : ℕ) (members : _) → map (λ field. field.layout) (fields_from free members) ≡ layouts_of members
fields_layouts free [] = refl
fields_layouts free (member ∷ members) =
    ap (λ its. member.layout ∷ its) (fields_layouts (placed free member.layout + member.layout.size) members)

-- so a field has the layout of its type
fields_types : (types : TypeTable) (free : ℕ) (members : _) → HaveLayouts types members → (place : ℕ) (field : Field)
    → slice_get (fields_from free members) place ≡ Some field → layout_of types field.type_id ≡ Some field.layout
fields_types types free [] have place field at = absurd cc
fields_types types free (member ∷ members) have zero field at =
    let first : Field
    = record { name = member.name; type_id = member.type_id; layout = member.layout; offset = placed free member.layout } in
    let same : first ≡ field = cc in subst (λ it. layout_of types it.type_id ≡ Some it.layout) same have.0
fields_types types free (member ∷ members) have (suc place) field at =
    fields_types types (placed free member.layout + member.layout.size) members have.1 place field at

-- the body is right if it is not too large
laid_is : (types : TypeTable) (members : _) → HaveLayouts types members → IfOk (IsBody types) (laid members)
laid_is types members have = tested_size (nat_le (struct_size (layouts_of members)) most_bytes) refl
  where
    tested_size : (b : Bool) → nat_le (struct_size (layouts_of members)) most_bytes ≡ b
        → IfOk (IsBody types) (if b then Ok (body_from members) else Err end.TooLarge)
    tested_size true small =
        record {
          fields = fields_types types 0 members have;
          offsets = fields_laid 0 members;
          layout = ap struct_layout (sym (fields_layouts 0 members));
          size = grind (arith, nat_tests, small);
        }
    tested_size false large = tt

-- if each member is complete
laid_if_is : (types : TypeTable) (o : _) → IfSome (HaveLayouts types) o → IfOk (IsBody types) (laid_if o)
laid_if_is types None have = tt
laid_if_is types (Some members) have = laid_is types members have

-- ---- steps that change the table

-- the table that is given, if one is, stays right
abbrev pub RightsTo : {E : Type 0} → TypeTable → Result TypeTable E → Type 0
RightsTo types (Ok new) = AreRight types → AreRight new
RightsTo types (Err why) = Unit {0}

-- so does the table that is returned with an answer
abbrev pub Righting : {A E : Type 0} → TypeTable → Result (A × TypeTable) E → Type 0
Righting types (Ok p) = AreRight types → AreRight p.1
Righting types (Err why) = Unit {0}

-- nothing changes
pub right_self : (types : TypeTable) → AreRight types → AreRight types
right_self types are = are

-- both ways of a test
tested_rights : {A E : Type 0} → (b : Bool) (types : TypeTable) (here there : Result (A × TypeTable) E) → Righting types here
    → Righting types there → Righting types (if b then here else there)
tested_rights true types here there is is' = is
tested_rights false types here there is is' = is'

-- a table that comes from one that stayed right
further_rights : {A E : Type 0} → (types new : TypeTable) (given : Result (A × TypeTable) E) → (AreRight types → AreRight new) → Righting new given
    → Righting types given
further_rights types new (Ok p) before after = λ are. after (before are)
further_rights types new (Err why) before after = tt

-- the body of a struct
laid_rights : (number : ℕ) (types : TypeTable) (given : Result Body TypeEnd) → GrowsTo types (with_laid number types given)
    → IfOk (IsBody types) given → RightsTo types (with_laid number types given)
laid_rights number types (Ok body) grows is = right_body number body types grows is
laid_rights number types (Err why) grows is = tt

-- of one that had none
pub completed_rights : (number : ℕ) (members : List Member) (types : TypeTable) → RightsTo types (completed number members types)
completed_rights number members types = tested_body (awaits_body (slice_get types.structs number)) (completed_grows number members types)
  where
    tested_body : (b : Bool) → GrowsTo types (if b then with_laid number types (laid_if (measured types members)) else Err end.Redefined)
        → RightsTo types (if b then with_laid number types (laid_if (measured types members)) else Err end.Redefined)
    tested_body true grows =
        laid_rights number types (laid_if (measured types members)) grows (laid_if_is types (measured types members) (measured_have types members))
    tested_body false grows = tt

-- the constants of an enumeration
pub enumerated_rights : (number : ℕ) (its : List Enumerator) (types : TypeTable) → RightsTo types (enumerated number its types)
enumerated_rights number its types = tested_constants (awaits_body (slice_get types.enumerations number)) (enumerated_grows number its types)
  where
    tested_constants : (b : Bool) → GrowsTo {E = TypeEnd} types (if b then Ok (with_constants number its types) else Err end.Redefined)
        → RightsTo {E = TypeEnd} types (if b then Ok (with_constants number its types) else Err end.Redefined)
    tested_constants true grows = right_constants number its types grows
    tested_constants false grows = tt

-- an array, which takes what its elements take together
pub arrayed_rights : (of : TypeId) (count : ℕ) (types : TypeTable) → Righting types (arrayed of count types)
arrayed_rights of count types = by_element (layout_of types of) refl
  where
    by_layout : (it : Layout) (o : Option Layout) → layout_of types of ≡ Some it → array_layout count it ≡ o
        → Righting types (with_result types (row_of_layout of count o))
    by_layout it None is is' = tt
    by_layout it (Some layout) is is' = right_row (row.Array of count layout) types (it, is, is') tt

    by_element : (o : Option Layout) → layout_of types of ≡ o → Righting types (with_result types (row_of_element of count o))
    by_element None is = tt
    by_element (Some it) is = by_layout it (array_layout count it) is refl

-- refused at a place
pub end_rights : {A : Type 0} → (at : Place) (types : TypeTable) (given : Result (A × TypeTable) TypeEnd) → Righting types given
    → Righting types (untyped_end at given)
end_rights at types (Ok p) rights = rights
end_rights at types (Err why) rights = tt

-- an array of unknown length is of a complete type
open_rights : (at : Place) (of : TypeId) (types : TypeTable) (b : Bool) → is_some (layout_of types of) ≡ b
    → Righting types (if b then added (row.OpenArray of) types else Err (Untyped at))
open_rights at of types true is = right_row (row.OpenArray of) types tt (rw is refl)
open_rights at of types false is = tt

-- what a declarator derives
derived_of_rights : (at : Place) (its : Derivation) (of : TypeId) (types : TypeTable) → Righting types (derived_of at its of types)
derived_of_rights at derivation.Pointer of types =
    tested_rights (is_function_row (row_of types of)) types (Err (Untyped at)) (added (row.Pointer of) types) tt
    (right_row (row.Pointer of) types tt tt)
derived_of_rights at (derivation.Array count) of types = end_rights at types (arrayed of count types) (arrayed_rights of count types)
derived_of_rights at derivation.OpenArray of types = open_rights at of types (is_some (layout_of types of)) refl
derived_of_rights at (derivation.Function list) of types =
    tested_rights (is_function_row (row_of types of) || is_array_row (row_of types of)) types (Err (Untyped at))
    (added (row.Function of list) types) tt (right_row (row.Function of list) types tt tt)

-- from what could be made
derived_from_rights : (at : Place) (its : Derivation) (types : TypeTable) (given : Result (TypeId × TypeTable) TypeError) → Righting types given
    → Righting types (derived_from at its given)
derived_from_rights at its types (Ok p) rights = further_rights types p.1 (derived_of at its p.0 p.1) rights (derived_of_rights at its p.0 p.1)
derived_from_rights at its types (Err why) rights = tt

-- all derivations
formed_onto_rights : (at : Place) (its : List Derivation) (types : TypeTable) (given : Result (TypeId × TypeTable) TypeError) → Righting types given
    → Righting types (formed_onto at its given)
formed_onto_rights at [] types given rights = rights
formed_onto_rights at (its ∷ rest) types given rights =
    derived_from_rights at its types (formed_onto at rest given) (formed_onto_rights at rest types given rights)

-- from a type on
pub formed_rights : (at : Place) (its : List Derivation) (id : TypeId) (types : TypeTable) → Righting types (formed at its id types)
formed_rights at its id types = formed_onto_rights at its types (Ok (id, types)) (right_self types)

-- the type of a parameter
parameter_row_rights : (at : Place) (id : TypeId) (o : Option Row) (types : TypeTable) → Righting types (parameter_row at id o types)
parameter_row_rights at id None types = tt
parameter_row_rights at id (Some row.Void) types = tt
parameter_row_rights at id (Some (row.Integer kind)) types = right_self types
parameter_row_rights at id (Some (row.Pointer of)) types = right_self types
parameter_row_rights at id (Some (row.Enumeration number)) types = right_self types
parameter_row_rights at id (Some (row.Struct number)) types = right_self types
parameter_row_rights at id (Some (row.Array of length layout)) types = right_row (row.Pointer of) types tt tt
parameter_row_rights at id (Some (row.OpenArray of)) types = right_row (row.Pointer of) types tt tt
parameter_row_rights at id (Some (row.Function result parameters)) types = tt

-- if the declared type could be made
parameter_of_rights : (at : Place) (types : TypeTable) (given : Result (TypeId × TypeTable) TypeError) → Righting types given
    → Righting types (parameter_of at given)
parameter_of_rights at types (Ok p) rights =
    further_rights types p.1 (parameter_row at p.0 (row_of p.1 p.0) p.1) rights (parameter_row_rights at p.0 (row_of p.1 p.0) p.1)
parameter_of_rights at types (Err why) rights = tt

-- by its derivations
pub parameter_type_rights : (at : Place) (its : List Derivation) (id : TypeId) (types : TypeTable)
    → Righting types (parameter_type at its id types)
parameter_type_rights at its id types = parameter_of_rights at types (formed at its id types) (formed_rights at its id types)

-- a list of parameters
pub listed_rights : (ids : List TypeId) (types : TypeTable) → AreRight types → AreRight (listed ids types).1
listed_rights ids types are = onto ids (list_id_of Empty types, with_list Empty types) (right_list Empty types are)
  where
    onto : (ids : List TypeId) (p : ListId × TypeTable) → AreRight p.1 → AreRight (listed_onto ids p).1
    onto [] p is = is
    onto (id ∷ ids) p is = right_list (More id (listed_onto ids p).0) (listed_onto ids p).1 (onto ids p is)

-- a member
member_of_rights : (done : List Member) (word : Word) (types : TypeTable) (given : Result (TypeId × TypeTable) TypeError) → Righting types given
    → Righting types (with_member_of done word given)
member_of_rights done word types (Ok p) rights =
    tested_rights (is_some (layout_of p.1 p.0) && not (has_member word.text done)) types (Ok (done ++ member_as word.text p.0 ∷ [], p.1))
    (Err (Untyped word.place)) rights tt
member_of_rights done word types (Err why) rights = tt

-- with its name
pub member_rights : (at : Place) (done : List Member) (id : TypeId) (its : List Derivation) (o : Option Word) (types : TypeTable)
    → Righting types (with_member at done id its o types)
member_rights at done id its None types = tt
member_rights at done id its (Some word) types =
    member_of_rights done word types (formed word.place its id types) (formed_rights word.place its id types)

-- an answer of the operators
pub lifted_rights : {A : Type 0} → (types : TypeTable) (given : Result (A × TypeTable) OperandEnd) → Righting types given
    → Righting types (lifted given)
lifted_rights types (Ok p) rights = rights
lifted_rights types (Err why) rights = tt

-- an object, or the address of its first element
loaded_as_rights : (types : TypeTable) (it : LeftValue) (o : Option TypeId) → Righting types (loaded_as types it o)
loaded_as_rights types it (Some of) = right_row (row.Pointer of) types tt tt
loaded_as_rights types it None =
    tested_rights (is_accessible types (type_of_left it)) types (Ok (tree.load (head_of_left it) it, types))
    (Err (operand_end.Untyped (head_of_left it).at)) (right_self types) tt

-- the value of an operand
pub loaded_rights : (types : TypeTable) (it : TypedOperand) → Righting types (loaded types it)
loaded_rights types (operand.value e) = right_self types
loaded_rights types (operand.object it) = loaded_as_rights types it (element types (type_of_left it))
loaded_rights types (operand.function it) = tt
