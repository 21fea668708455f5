-- What one expression in an initialiser gives (X3.159-1989 3.5.7): a constant for the scalar that it initialises, or the characters of a
-- string for an array of them.
--     Simple program types holds it its               constants for the part of the object, from its start on
--     simple_started                                  what an expression gives
--     excess_started                                  one with nothing left to initialise gives nothing
use Rattle.std.proofs.Common.{◌≡◌, ◌≤◌, ◌+◌, ◌*◌, Bool, true, false, ◌&&◌, ◌||◌, List, [], ◌∷◌, length, Option, Some, None, is_some, Result, Ok, Err, refl, ap, sym, subst, ◌∙◌, arith}
use Rattle.hs_expressions.specs.Binding.{IsBoundNode}
use Rattle.hs_expressions.specs.Binding.Keeping.{plain_bound}
use Rattle.hs_expressions.specs.Laws.Always.{gives_always, refuses_always, of_types_always, then_always, value_always}
use Rattle.hs_expressions.specs.Laws.Extending.{typed_always}
use Rattle.hs_fitting.specs.Answers.{accepted, false_true}
use Rattle.hs_fitting.specs.Categories.{scalar_not_void}
use Rattle.hs_fitting.specs.Constants.{constant_right}
use Rattle.hs_fitting.specs.Moves.{IsWhole}
use Rattle.hs_fitting.specs.PartLists.{AreParts, one_part, parts_until}
use Rattle.hs_fitting.specs.Readying.{Started, IsRightValue, gives_started, refuses_started, of_types_started, then_started, tested_started, so_started, value_started}
use Rattle.hs_fitting.specs.Scalars.{Subobject, Scalars, IsAt, IsSolid, scalar_whole}
use Rattle.hs_fitting.specs.Staying.{scalar_size, text_kind_stays}
use Rattle.hs_fitting.specs.Texts.{TextParts, text_parts}
use Rattle.hs_fitting.specs.WideOperators.{assigned_wide}
use Rattle.hs_aggregates.specs.Addresses.{constant_in}
use Rattle.hs_aggregates.specs.Aggregates.{takes, text_kind}
use Rattle.hs_initialisers.specs.Initialisers.{part_as, part_with, part_of, text_of, is_string, scalar, excess, simple}
use Rattle.hs_operands.specs.Assignments.{assigned}
use Rattle.hs_operands.specs.Laws.AssignedTyped.{assigned-typed}
use Rattle.hs_operands.specs.Laws.Kept as keep
use Rattle.hs_operands.specs.Laws.Stays.{is_scalar-stays}
use Rattle.hs_operand_types.specs.declared.operand_end.OperandEnd.{OperandEnd}
use Rattle.hs_syntax.specs.Positions.{position_of}
use Rattle.hs_syntax.specs.Trees.{Expression}
use Rattle.hs_tokens.specs.declared.place.Place.{Place}
use Rattle.hs_tree.specs.Kinds.{is_scalar, is_void}
use Rattle.hs_tree.specs.Objects as object
use Rattle.hs_tree.specs.Trees.{RightValue, TypedFunction, TypedProgram, type_of}
use Rattle.hs_tree.specs.declared.constant.Constant.{Constant}
use Rattle.hs_tree.specs.declared.constant.Part.{Part}
use Rattle.hs_typer.specs.Steps.{lifted, lifted_end}
use Rattle.hs_typer.specs.declared.type_error.TypeError.{TypeError}
use Rattle.hs_typer.specs.declared.type_error.TypeError.TheVariants.{Untyped}
use Rattle.hs_types.specs.Growing.{grows_then}
use Rattle.hs_types.specs.TypeTables.{TypeTable, row_of, size_of, IsRight, Grows}
use Rattle.hs_types.specs.declared.row.Row.TheVariants as row
use Rattle.hs_types.specs.declared.row.TypeId.{TypeId}

-- ---- types

-- one of both, if it is not the other
first_of_both : (a b : Bool) → (a || b) ≡ true → b ≡ false → a ≡ true
first_of_both true b is other = refl
first_of_both false b is other = absurd (false_true (sym other ∙ is))

-- ---- what they give

-- constants for a part of an object, from its start on
pub record Simple (program : TypedProgram) (types : TypeTable) (holds : Scalars) (it : Subobject) (its : List Part) : Type 0 where
  pub whole : IsWhole types it.type_id → AreParts program holds it.offset (it.offset + size_of types it.type_id) its
  pub opens : (of : TypeId) → row_of types it.type_id ≡ Some (row.OpenArray of)
      → AreParts program holds it.offset (it.offset + length its * size_of types of) its

module _ (program : TypedProgram) (function : TypedFunction) (sound : IsRight program.types) (types : TypeTable) (right : IsRight types)
    (holds : Scalars) where
  -- one constant
  constant_part : (it : Subobject) (at : Place) (made : RightValue) (later : TypeTable) (part : Part) (o : Option Constant) → Grows types later
      → Grows later program.types → IsRightValue program function made → type_of made ≡ it.type_id → is_scalar types it.type_id ≡ true
      → IsWhole types it.type_id → IsAt types holds it.offset it.type_id it.field → constant_in later made ≡ o → part_as it at o ≡ Ok part
      → AreParts program holds it.offset (it.offset + size_of types it.type_id) (part ∷ [])
  constant_part it at made later part None grows after is same scalar whole there constant given = absurd cc
  constant_part it at made later part (Some its) grows after is same scalar whole there constant given =
      let one : Part = record { offset = it.offset; type_id = it.type_id; field = it.field; value = its } in
      let scalar' : is_scalar program.types it.type_id ≡ true =
      is_scalar-stays types program.types (grows_then types later program.types grows after) it.type_id scalar in
      let some : is_void program.types it.type_id ≡ false = scalar_not_void program.types it.type_id scalar' in
      let some' : is_void program.types (type_of made) ≡ false = ap (is_void program.types) same ∙ some in
      let right' : object.IsConstant program it.type_id its =
      subst (λ id. object.IsConstant program id its) same
      (constant_right program function later made is.0 is.1 is.2 some' sound after its constant) in
      let size = scalar_size types it.type_id scalar whole in
      subst (λ part. AreParts program holds it.offset (it.offset + size_of types it.type_id) (part ∷ [])) (accepted one part given)
      (one_part program holds it.offset (it.offset + size_of types it.type_id) one (there.0.0 scalar, right') (omega arith) (omega (arith, size)))

  -- converted as by assignment
  converted_part : (it : Subobject) (at : Place) (e : RightValue) (later : TypeTable) (part : Part) (made : Result RightValue OperandEnd)
      → Grows types later → Grows later program.types → IsRightValue program function e → is_scalar types it.type_id ≡ true
      → IsWhole types it.type_id → IsAt types holds it.offset it.type_id it.field → assigned later at it.type_id e ≡ made
      → part_with later it at (lifted made) ≡ Ok part → AreParts program holds it.offset (it.offset + size_of types it.type_id) (part ∷ [])
  converted_part it at e later part (Err why) grows after is scalar whole there same given = absurd (failed (lifted_end why) part given)
    where
      failed : (why : TypeError) (part : Part) → ◌≡◌ {A = Result Part TypeError} (Err why) (Ok part) → ⊥
      failed why part is' = cc
  converted_part it at e later part (Ok made) grows after is scalar whole there same given =
      let typed' = assigned-typed program function later sound after at it.type_id e is.0 made same in
      let bound = keep.assigned_kept (IsBoundNode program function) (plain_bound program function) later at it.type_id e is.1 made same in
      let wide = assigned_wide later at it.type_id e is.2 made same in
      constant_part it at made later part (constant_in later made) grows after (typed'.0, bound.0, wide) typed'.1 scalar whole there refl given

  scalar_started : (it : Subobject) (e : Expression) → is_scalar types it.type_id ≡ true → IsWhole types it.type_id
      → IsAt types holds it.offset it.type_id it.field
      → Started program function types (AreParts program holds it.offset (it.offset + size_of types it.type_id)) (scalar it e)
  scalar_started it e scalar whole there =
      then_started (value_always (typed_always e)) (value_started sound e)
      (λ its. then_always (of_types_always (part_of it (position_of e) its)) (λ part. gives_always (part ∷ [])))
      (λ its is. then_started (of_types_always (part_of it (position_of e) its))
      (of_types_started {holds = λ part. AreParts program holds it.offset (it.offset + size_of types it.type_id) (part ∷ [])}
      (part_of it (position_of e) its)
      (λ later grows after part given.
      converted_part it (position_of e) its later part (assigned later (position_of e) it.type_id its) grows after is scalar whole there refl given))
      (λ part. gives_always (part ∷ [])) (λ part are. gives_started (part ∷ []) are))

  -- nothing is left to initialise
  pub excess_started : (at : Place) (e : Expression) → Started program function types (λ its. ⊥) (excess at e)
  excess_started at e =
      then_started (value_always (typed_always e)) (value_started sound e) (λ its. refuses_always (Untyped at))
      (λ its is. refuses_started (Untyped at))

  -- a scalar is no array
  scalar_simple : (it : Subobject) (its : List Part) → is_scalar types it.type_id ≡ true
      → AreParts program holds it.offset (it.offset + size_of types it.type_id) its → Simple program types holds it its
  scalar_simple it its scalar are = record { whole = λ whole. are; opens = λ of same. absurd (no_scalar of same) }
    where
      no_scalar : (of : TypeId) → row_of types it.type_id ≡ Some (row.OpenArray of) → ⊥
      no_scalar of same = false_true (sym (rw same refl) ∙ scalar)

  text_simple : (it : Subobject) (its : List Part) → TextParts program types holds it its → Simple program types holds it its
  text_simple it its text =
      record {
        whole = λ whole.
            let fits = text.fits whole in
            parts_until program holds it.offset (it.offset + length its) (it.offset + size_of types it.type_id) its (omega (arith, fits)) text.parts;
        opens = λ of same.
            let one : it.offset + length its ≤ it.offset + length its * size_of types of = rw (text.each of same) (omega arith) in
            parts_until program holds it.offset (it.offset + length its) (it.offset + length its * size_of types of) its one text.parts;
      }

  -- what an expression gives for what it initialises
  pub simple_started : (it : Subobject) (e : Expression) → IsSolid types it.type_id → IsAt types holds it.offset it.type_id it.field
      → takes types (is_string e) it ≡ true → Started program function types (Simple program types holds it) (simple it e)
  simple_started it e solid there taken =
      tested_started (λ s. is_string e && is_some (text_kind s.types it.type_id)) (is_string e && is_some (text_kind types it.type_id))
      (λ s grows. ap (λ o. is_string e && is_some o) (text_kind_stays types right s.types grows it.type_id solid))
      (λ text. of_types_started (text_of it e)
      (λ later grows after made given. text_simple it made (text_parts program types right holds later grows after it e made solid there given)))
      (λ other.
      let scalar' : is_scalar types it.type_id ≡ true =
      first_of_both (is_scalar types it.type_id) (is_string e && is_some (text_kind types it.type_id)) taken other in
      then_scalar scalar' (scalar_whole types it.type_id scalar' solid))
    where
      then_scalar : is_scalar types it.type_id ≡ true → IsWhole types it.type_id
          → Started program function types (Simple program types holds it) (scalar it e)
      then_scalar is whole = so_started (λ its are. scalar_simple it its is are) (scalar_started it e is whole there)
