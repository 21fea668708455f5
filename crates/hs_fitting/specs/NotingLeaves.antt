-- What typing notes of calls: names, constants, operators, calls and declarations.
--     named_met, number_of_met, character_of_met              what names a routine, and what does not
--     call_operand_notes                                      a call, which is noted if its declaration fits
--     declare_notes, parameter_notes, enumerator_notes        what declares names
use Rattle.std.proofs.Common.{◌≡◌, ℕ, Bool, true, false, List, [], ◌∷◌, ◌++◌, Option, Some, None, Result, Ok, Err, refl, nat_eq, if◌then◌else◌}
use Rattle.std.specs.Cmp.Lexicographic.{pointwise}
use Rattle.std.specs.List.{AllByRecursion}
use Rattle.std.specs.Prelude.{is_some, ◌||◌}
use Rattle.hs_base.specs.Entries.{all_appended}
use Rattle.hs_expressions.specs.Laws.{IsConstant}
use Rattle.hs_expressions.specs.Laws.Always.{Anything}
use Rattle.hs_expressions.specs.Laws.Grown.{listed_grows, parameter_type_grows}
use Rattle.hs_expressions.specs.Laws.Leaves.{call_with_always, declare_always}
use Rattle.hs_expressions.specs.Operations.{stepped, prefix_object, prefix_value, bound_call, call_with, call_operand}
use Rattle.hs_expressions.specs.Roles.{fits_role}
use Rattle.hs_fitting.specs.Noting.{Met, AllowsBound, AllowsName, NamesAllow, IsOperandOf, IsCallOf, Noting, Notes, same_noted}
use Rattle.hs_fitting.specs.NotingCalm.{addressed_notes}
use Rattle.hs_fitting.specs.NotingRoles.{fits_role_stays}
use Rattle.hs_fitting.specs.NotingSteps.{gives_notes, refuses_notes, of_types_notes, on_types_notes, after_notes, and_notes, value_met, object_met, values_notes}
use Rattle.hs_fitting.specs.Rightness.{right_self, listed_rights, parameter_type_rights}
use Rattle.hs_names.specs.Scopes.{Declared, newest, entity_of, find, find_here, declared}
use Rattle.hs_operand_types.specs.Answers as answers
use Rattle.hs_operands.specs.Assignments.{called, update_of, one}
use Rattle.hs_operands.specs.Calls.{call_of, call_routine_of}
use Rattle.hs_operands.specs.Objects.{object_of, target_of}
use Rattle.hs_operand_types.specs.Operands as operand
use Rattle.hs_operand_types.specs.Operands.{TypedOperand, head_of_operand}
use Rattle.hs_operands.specs.Operators.{unary_of, not_of}
use Rattle.hs_operand_types.specs.declared.operand.Bound.{Bound}
use Rattle.hs_operand_types.specs.declared.operand.Bound.TheVariants as bound
use Rattle.hs_operand_types.specs.declared.operand.Designator.{Designator}
use Rattle.hs_syntax.specs.Trees as syntax
use Rattle.hs_syntax.specs.declared.operators.PrefixOperator.{PrefixOperator}
use Rattle.hs_syntax.specs.declared.operators.PrefixOperator.TheVariants as prefix
use Rattle.hs_syntax.specs.declared.word.Word.{Word}
use Rattle.hs_tokens.specs.declared.place.Place.{Place}
use Rattle.hs_tree.specs.Trees.{RightValue}
use Rattle.hs_tree.specs.declared.head.Variable.TheVariants as variable
use Rattle.hs_tree.specs.declared.operators.Arithmetic.{Arithmetic}
use Rattle.hs_tree.specs.declared.operators.Arithmetic.TheVariants as arithmetic
use Rattle.hs_tree.specs.declared.operators.Unary.TheVariants as unary
use Rattle.hs_typer.specs.Declarators.{parameter_type, listed, word_of, place_of, is_typedef, declare}
use Rattle.hs_typer.specs.Declaring.{list_of, declare_parameter, parameter}
use Rattle.hs_typer.specs.Origins.{met}
use Rattle.hs_typer.specs.Primaries.{named_as, named, number_as, number_of, character_as, character_of}
use Rattle.hs_typer.specs.Specifiers.{enumerator}
use Rattle.hs_typer.specs.Steps.{of_types, lifted}
use Rattle.hs_typer.specs.declared.declarators.Derivation.{Derivation}
use Rattle.hs_typer.specs.declared.type_error.TypeError.{TypeError}
use Rattle.hs_typer.specs.declared.type_error.TypeError.TheVariants.{Untyped, Clash}
use Rattle.hs_typer.specs.declared.typer.Entity.{Entity}
use Rattle.hs_typer.specs.declared.typer.Entity.TheVariants as entity
use Rattle.hs_typer.specs.declared.typer.Typer.{Typer}
use Rattle.hs_types.specs.Growing.{grows_self}
use Rattle.hs_types.specs.TypeTables.{TypeTable}
use Rattle.hs_types.specs.declared.body.Enumerator.{Enumerator}
use Rattle.hs_types.specs.declared.row.TypeId.{TypeId}

module _ (Q : ℕ → TypeId → Type 0) (final : TypeTable) where
  -- an operator in front of an object
  stepped_notes : (op : Arithmetic) (at : Place) (it : TypedOperand)
      → Notes Q final IsConstant (IsOperandOf Q) (of_types (λ types. stepped types at op it))
  stepped_notes op at it =
      values_notes (λ types. answers.◌>>=◌ (object_of at it) (λ object. update_of types at op object (one at)))

  -- by the operator
  pub prefix_object_notes : (op : PrefixOperator) (at : Place) (it : TypedOperand)
      → Notes Q final IsConstant (IsOperandOf Q) (prefix_object op at it)
  prefix_object_notes prefix.Increment at it = stepped_notes arithmetic.Add at it
  prefix_object_notes prefix.Decrement at it = stepped_notes arithmetic.Subtract at it
  prefix_object_notes prefix.Address at it = addressed_notes Q final at it
  prefix_object_notes prefix.Dereference at it = addressed_notes Q final at it
  prefix_object_notes prefix.Plus at it = addressed_notes Q final at it
  prefix_object_notes prefix.Minus at it = addressed_notes Q final at it
  prefix_object_notes prefix.Complement at it = addressed_notes Q final at it
  prefix_object_notes prefix.Not at it = addressed_notes Q final at it

  -- and of a value
  pub prefix_met : (op : PrefixOperator) (types : TypeTable) (at : Place) (e : RightValue) → Met (IsOperandOf Q) (prefix_value op types at e)
  prefix_met prefix.Dereference types at e = object_met Q (target_of types at e)
  prefix_met prefix.Plus types at e = value_met Q (unary_of types at unary.Plus e)
  prefix_met prefix.Minus types at e = value_met Q (unary_of types at unary.Minus e)
  prefix_met prefix.Complement types at e = value_met Q (unary_of types at unary.Complement e)
  prefix_met prefix.Not types at e = value_met Q (not_of types at e)
  prefix_met prefix.Increment types at e = tt
  prefix_met prefix.Decrement types at e = tt
  prefix_met prefix.Address types at e = tt

  -- ---- names and constants

  -- what is found has the fact
  abbrev AllowsIf : Option Entity → Type 0
  AllowsIf None = Unit {0}
  AllowsIf (Some it) = AllowsName Q it

  -- the newest one, or one that is older
  allows_if : (b : Bool) (it : Declared Entity) (o : Option (Declared Entity)) → AllowsName Q it.entity → AllowsIf (entity_of o)
      → AllowsIf (entity_of (if b then Some it else o))
  allows_if true it o is is' = is
  allows_if false it o is is' = is'

  -- so it is of each name
  found_allows : (name : List ℕ) (its : List (Declared Entity)) → AllByRecursion (λ it. AllowsName Q it.entity) its
      → AllowsIf (entity_of (newest name its))
  found_allows name [] names = tt
  found_allows name (it ∷ older) names =
      allows_if (pointwise nat_eq it.name name) it (newest name older) names.0 (found_allows name older names.1)

  -- as an operand
  named_as_met : (word : Word) (o : Option Entity) → AllowsIf o → Met (IsOperandOf Q) (named_as word o)
  named_as_met word None is = tt
  named_as_met word (Some (entity.Constant bits)) is = tt
  named_as_met word (Some (entity.Variable variable id)) is = tt
  named_as_met word (Some (entity.Function id its)) is = is
  named_as_met word (Some (entity.Typedef id)) is = tt

  -- by the names that are declared
  pub named_met : (s : Typer) (word : Word) → NamesAllow Q s → Met (IsOperandOf Q) (named s.names word)
  named_met s word names = named_as_met word (find word.text s.names) (found_allows word.text s.names.declarations names)

  -- a number
  number_as_met : (at : Place) (o : _) → Met (IsOperandOf Q) (number_as at o)
  number_as_met at None = tt
  number_as_met at (Some its) = tt

  -- by its text
  pub number_of_met : (word : Word) → Met (IsOperandOf Q) (number_of word)
  number_of_met word = number_as_met word.place _

  -- a character constant
  character_as_met : (at : Place) (o : Option ℕ) → Met (IsOperandOf Q) (character_as at o)
  character_as_met at None = tt
  character_as_met at (Some bits) = tt

  -- by its text
  pub character_of_met : (word : Word) → Met (IsOperandOf Q) (character_of word)
  character_of_met word = character_as_met word.place _

  -- ---- calls

  -- the call of a routine is noted if its declaration fits
  routine_noting : (b : Bool) (it : Designator) (number : ℕ) (made : TypedOperand) (s : Typer) → fits_role s.types s.table number it.head.type_id ≡ b
      → NamesAllow Q s → IsOperandOf Q made → Q number it.head.type_id
      → Noting Q final (IsOperandOf Q) s (
      if b
      then Ok (made, record s { calls = s.calls ++ record { routine = number; type_id = it.head.type_id } ∷ [] })
      else Err (Clash it.head.at it.name)
      )
  routine_noting true it number made s met names is allowed =
      record {
        names = names;
        fact = is;
        table = refl;
        types = grows_self s.types;
        right = right_self s.types;
        calls = λ grows are. all_appended (IsCallOf Q s.table final) s.calls (record { routine = number; type_id = it.head.type_id } ∷ []) are
            ((allowed, fits_role_stays s.types final s.table number it.head.type_id met grows), tt);
      }
  routine_noting false it number made s met names is allowed = tt

  -- by what the name is bound to
  bound_noting : (its : Bound) (it : Designator) (p : TypeId × List RightValue) (s : Typer) → NamesAllow Q s
      → AllowsBound Q it.head.type_id its → Noting Q final (IsOperandOf Q) s (bound_call its it p s)
  bound_noting (bound.Function number) it p s names is =
      same_noted Q final (IsOperandOf Q) s (operand.value (call_of it.head.at number p)) names tt
  bound_noting (bound.Routine number) it p s names is =
      routine_noting (fits_role s.types s.table number it.head.type_id) it number (operand.value (call_routine_of it.head.at number p)) s refl
      names tt is
  bound_noting bound.Nothing it p s names is = tt

  -- one that is not evaluated is not noted
  counted_noting : (b : Bool) (s : Typer) (here there : Result (TypedOperand × Typer) TypeError) → Noting Q final (IsOperandOf Q) s here
      → Noting Q final (IsOperandOf Q) s there → Noting Q final (IsOperandOf Q) s (if b then here else there)
  counted_noting true s here there is is' = is
  counted_noting false s here there is is' = is'

  -- a call with its arguments
  call_with_notes : (it : Designator) (p : TypeId × List RightValue) → AllowsBound Q it.head.type_id it.bound
      → Notes Q final IsConstant (IsOperandOf Q) (call_with it p)
  call_with_notes it p is =
      record {
        always = call_with_always it p;
        gives = λ s names. counted_noting s.counts s (bound_call it.bound it p s) (Ok (operand.value (call_of it.head.at 0 p), s))
            (bound_noting it.bound it p s names is)
            (same_noted Q final (IsOperandOf Q) s (operand.value (call_of it.head.at 0 p)) names tt);
      }

  -- what is called, with its arguments
  pub call_operand_notes : (it : TypedOperand) (arguments : List RightValue) → IsOperandOf Q it
      → Notes Q final IsConstant (IsOperandOf Q) (call_operand it arguments)
  call_operand_notes (operand.value e) arguments is = refuses_notes (Untyped (head_of_operand (operand.value e)).at)
  call_operand_notes (operand.object it) arguments is = refuses_notes (Untyped (head_of_operand (operand.object it)).at)
  call_operand_notes (operand.function it) arguments is =
      after_notes (of_types_notes (λ types. lifted (called types it.head.at it.head.type_id arguments))) (λ its. call_with_notes it its is)

  -- ---- declarations

  -- a list of parameter types
  pub list_of_notes : (ids : List TypeId) → Notes Q final IsConstant (λ it. Unit {0}) (list_of ids)
  list_of_notes ids =
      on_types_notes (λ types. Ok (listed ids types)) (λ types. listed_grows ids types) (λ types. listed_rights ids types)

  -- a name
  declared_noting : (nothing : Unit {0}) (word : Word) (it : Entity) (b : Bool) (s : Typer) → NamesAllow Q s → AllowsName Q it
      → Noting Q final (λ it. Unit {0}) s (
      if b then Err (Untyped word.place) else Ok (nothing, record s { names = declared word.text it s.names })
      )
  declared_noting nothing word it true s names is = tt
  declared_noting nothing word it false s names is =
      record {
        names = (is, names);
        fact = tt;
        table = refl;
        types = grows_self s.types;
        right = right_self s.types;
        calls = λ grows are. are;
      }

  -- in the innermost scope
  pub declare_notes : (allowed : Entity → Type 0) (word : Word) (it : Entity) → allowed it → AllowsName Q it
      → Notes Q final allowed (λ it. Unit {0}) (declare word it)
  declare_notes allowed word it fits is =
      record {
        always = declare_always word it fits;
        gives = λ s names.
            declared_noting tt word it (is_typedef (find word.text s.names) || is_some (find_here word.text s.names)) s names is;
      }

  -- a constant
  pub enumerator_notes : (done : List Enumerator) (word : Word) (o : Option ℕ) → Notes Q final IsConstant (λ it. Unit {0}) (enumerator done word o)
  enumerator_notes done word None = refuses_notes (Untyped word.place)
  enumerator_notes done word (Some bits) =
      and_notes (declare_notes IsConstant word (entity.Constant bits) tt tt) (gives_notes (done ++ record { name = word.text; bits = bits } ∷ []))

  -- a parameter
  declare_parameter_notes : (o : Option Word) (place : ℕ) (id : TypeId) → Notes Q final Anything (λ it. Unit {0}) (declare_parameter o place id)
  declare_parameter_notes None place id = gives_notes tt
  declare_parameter_notes (Some word) place id = declare_notes Anything word (entity.Variable (variable.Local place) id) tt tt

  -- with its type
  pub parameter_notes : (first : Place) (its : List Derivation) (id : TypeId) (it : syntax.Declared) (place : ℕ)
      → Notes Q final Anything (λ it. Unit {0}) (parameter first its id it place)
  parameter_notes first its id it place =
      after_notes
      (on_types_notes (parameter_type (place_of first it) its id) (λ types. parameter_type_grows (place_of first it) its id types)
      (λ types. parameter_type_rights (place_of first it) its id types))
      (λ made. and_notes (declare_parameter_notes (word_of it) place made) (gives_notes made))
