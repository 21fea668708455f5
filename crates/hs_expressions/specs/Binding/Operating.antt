-- What typing makes of bound operands is bound, for each operator of the syntax, and so are names, numbers and strings.
use Rattle.std.proofs.Common.{◌≡◌, ◌<◌, ℕ, Bool, true, false, List, [], ◌∷◌, ◌++◌, length, slice_get, Option, Some, None, Result, Ok, Err, refl, ap, subst, ◌∙◌, nat_eq, if◌then◌else◌}
use Rattle.std.specs.Cmp.Lexicographic.{pointwise}
use Rattle.std.specs.List.{AllByRecursion}
use Rattle.std.proofs.lemmas.Option.{slice_get_within}
use Rattle.hs_constants.specs.Characters.{character_value}
use Rattle.hs_constants.specs.Numbers.{number_value}
use Rattle.hs_constants.specs.declared.number.Number.{Number}
use Rattle.hs_expressions.specs.Binding.{IsBoundNode, BindsName}
use Rattle.hs_expressions.specs.Binding.Calls.{addressed_keeps}
use Rattle.hs_expressions.specs.Binding.Keeping.{Giving, Keeps, KnowsBound, IsBound, IsBoundObject, IsBoundIn, plain_bound, of_types_keeps}
use Rattle.hs_expressions.specs.Laws.{IsPrefix}
use Rattle.hs_expressions.specs.Laws.Leaves.{string_always}
use Rattle.hs_expressions.specs.Laws.Primary.{last_at}
use Rattle.hs_expressions.specs.Operations.{as_value, as_object, binary_of, member_operand, stepped, prefix_object, prefix_value, operation_of_postfix, postfix_of, operation_of_assignment, assigned_by, assignment_of}
use Rattle.hs_typer.specs.Primaries.{number, named_as, named, number_type, number_as, number_of, character_as, character_of, string_bytes, string_in, string_as, string_of}
use Rattle.hs_typer.specs.Steps.{lifted_end}
use Rattle.hs_typer.specs.declared.type_error.TypeError.{TypeError}
use Rattle.hs_typer.specs.declared.typer.Entity.{Entity}
use Rattle.hs_typer.specs.declared.typer.Entity.TheVariants as entity
use Rattle.hs_typer.specs.declared.typer.Typer.{Typer}
use Rattle.hs_names.specs.Scopes.{Declared, newest, entity_of, find}
use Rattle.hs_operand_types.specs.Answers.{◌>>=◌}
use Rattle.hs_operands.specs.Assignments.{update_of, post_update_of, one}
use Rattle.hs_operand_types.specs.Conversions.{head_at}
use Rattle.hs_operands.specs.Laws.Kept as keep
use Rattle.hs_operands.specs.Laws.Made.{Makes, refuses, gives_then}
use Rattle.hs_operands.specs.Objects.{object_of, target_of, member_of, size_of_operand}
use Rattle.hs_operand_types.specs.Operands as operand
use Rattle.hs_operand_types.specs.Operands.{TypedOperand}
use Rattle.hs_operands.specs.Operators.{unary_of, arithmetic_of, not_of}
use Rattle.hs_operands.specs.Pointers.{compared}
use Rattle.hs_operand_types.specs.declared.operand_end.OperandEnd.{OperandEnd}
use Rattle.hs_syntax.specs.declared.operators.AssignOperator.{AssignOperator}
use Rattle.hs_syntax.specs.declared.operators.BinaryOperator.{BinaryOperator}
use Rattle.hs_syntax.specs.declared.operators.BinaryOperator.TheVariants as binary
use Rattle.hs_syntax.specs.declared.operators.PostfixOperator.{PostfixOperator}
use Rattle.hs_syntax.specs.declared.operators.PrefixOperator.{PrefixOperator}
use Rattle.hs_syntax.specs.declared.operators.PrefixOperator.TheVariants as prefix
use Rattle.hs_syntax.specs.declared.word.Word.{Word}
use Rattle.hs_tokens.specs.declared.place.Place.{Place}
use Rattle.hs_tree.specs.Trees as tree
use Rattle.hs_tree.specs.Trees.{RightValue, LeftValue, TypedFunction, TypedProgram, type_of, type_of_left}
use Rattle.hs_tree.specs.declared.operators.Arithmetic.{Arithmetic}
use Rattle.hs_tree.specs.declared.operators.Arithmetic.TheVariants as arithmetic
use Rattle.hs_tree.specs.declared.operators.Comparison.{Comparison}
use Rattle.hs_tree.specs.declared.operators.Comparison.TheVariants as comparison
use Rattle.hs_tree.specs.declared.operators.Unary.TheVariants as unary
use Rattle.hs_types.specs.Rows.{integer_id}
use Rattle.hs_types.specs.TypeTables.{TypeTable, arrayed}
use Rattle.hs_types.specs.declared.integer.Integer.TheVariants as kind
use Rattle.hs_types.specs.declared.row.TypeId.{TypeId}
use Rattle.hs_types.specs.declared.types.TypeEnd.{TypeEnd}

-- an answer that is an operand
abbrev answer : TypedOperand → Result TypedOperand TypeError
answer made = Ok made

module _ (program : TypedProgram) (function : TypedFunction) (final : TypeTable) where
  -- what is given is bound
  operand_given : (made it : TypedOperand) → IsBoundIn program function final made → answer made ≡ Ok it → IsBoundIn program function final it
  operand_given made it is given = let same : made ≡ it = cc in subst (IsBoundIn program function final) same is

  pub value_given : (given : Result RightValue OperandEnd) (it : TypedOperand) → Makes (IsBound program function) given → as_value given ≡ Ok it
      → IsBoundIn program function final it
  value_given (Ok made) it makes is = operand_given (operand.value made) it (makes made refl) is
  value_given (Err why) it makes is = absurd (failed (lifted_end why) it is)
    where
      failed : (why : TypeError) (it : TypedOperand) → Err why ≡ Ok it → ⊥
      failed why it is = cc

  pub object_given : (given : Result LeftValue OperandEnd) (it : TypedOperand) → Makes (IsBoundObject program function) given
      → as_object given ≡ Ok it → IsBoundIn program function final it
  object_given (Ok made) it makes is = operand_given (operand.object made) it (makes made refl) is
  object_given (Err why) it makes is = absurd (failed (lifted_end why) it is)
    where
      failed : (why : TypeError) (it : TypedOperand) → Err why ≡ Ok it → ⊥
      failed why it is = cc

  -- the object that an operand designates
  object_is : (at : Place) (it : TypedOperand) (object : LeftValue) → IsBoundIn program function final it → object_of at it ≡ Ok object
      → IsBoundObject program function object
  object_is at (operand.value e) object is given = absurd cc
  object_is at (operand.object its) object is given = let same : its ≡ object = cc in subst (IsBoundObject program function) same is
  object_is at (operand.function its) object is given = absurd cc

  object_makes : {A : Type 0} → (holds : A → Type 0) (at : Place) (it : TypedOperand) (next : LeftValue → Result A OperandEnd)
      → IsBoundIn program function final it → ((object : LeftValue) → IsBoundObject program function object → Makes holds (next object))
      → Makes holds (object_of at it >>= next)
  object_makes holds at it next is makes =
      gives_then holds (object_of at it) next (λ object given. makes object (object_is at it object is given))

  module _ (types : TypeTable) where
    -- 3.3.5 to 3.3.14
    arithmetic_bound : (at : Place) (op : Arithmetic) (a b : RightValue) → IsBound program function a → IsBound program function b
        → Makes (IsBound program function) (arithmetic_of types at op a b)
    arithmetic_bound = keep.arithmetic_kept (IsBoundNode program function) (plain_bound program function) types

    compared_bound : (at : Place) (op : Comparison) (a b : RightValue) → IsBound program function a → IsBound program function b
        → Makes (IsBound program function) (compared types at op a b)
    compared_bound = keep.compared_kept (IsBoundNode program function) (plain_bound program function) types

    pub binary_bound : (op : BinaryOperator) (at : Place) (a b : RightValue) → IsBound program function a → IsBound program function b
        → Makes (IsBound program function) (binary_of op types at a b)
    binary_bound binary.Multiply at a b is is' = arithmetic_bound at arithmetic.Multiply a b is is'
    binary_bound binary.Divide at a b is is' = arithmetic_bound at arithmetic.Divide a b is is'
    binary_bound binary.Remainder at a b is is' = arithmetic_bound at arithmetic.Remainder a b is is'
    binary_bound binary.Add at a b is is' = keep.plus_kept (IsBoundNode program function) (plain_bound program function) types at a b is is'
    binary_bound binary.Subtract at a b is is' = keep.minus_kept (IsBoundNode program function) (plain_bound program function) types at a b is is'
    binary_bound binary.ShiftLeft at a b is is' = arithmetic_bound at arithmetic.ShiftLeft a b is is'
    binary_bound binary.ShiftRight at a b is is' = arithmetic_bound at arithmetic.ShiftRight a b is is'
    binary_bound binary.Less at a b is is' = compared_bound at comparison.Less a b is is'
    binary_bound binary.Greater at a b is is' = compared_bound at comparison.Greater a b is is'
    binary_bound binary.LessEqual at a b is is' = compared_bound at comparison.LessEqual a b is is'
    binary_bound binary.GreaterEqual at a b is is' = compared_bound at comparison.GreaterEqual a b is is'
    binary_bound binary.Equal at a b is is' = compared_bound at comparison.Equal a b is is'
    binary_bound binary.NotEqual at a b is is' = compared_bound at comparison.NotEqual a b is is'
    binary_bound binary.BitAnd at a b is is' = arithmetic_bound at arithmetic.BitAnd a b is is'
    binary_bound binary.BitXor at a b is is' = arithmetic_bound at arithmetic.BitXor a b is is'
    binary_bound binary.BitOr at a b is is' = arithmetic_bound at arithmetic.BitOr a b is is'
    binary_bound binary.And at a b is is' = keep.and_kept (IsBoundNode program function) (plain_bound program function) types at a b is is'
    binary_bound binary.Or at a b is is' = keep.or_kept (IsBoundNode program function) (plain_bound program function) types at a b is is'

    -- `e.f`
    pub member_bound : (at : Place) (name : List ℕ) (it made : TypedOperand) → IsBoundIn program function final it
        → member_operand types at name it ≡ Ok made → IsBoundIn program function final made
    member_bound at name it made is given =
        object_given (object_of at it >>= member_of types at name) made
        (object_makes (IsBoundObject program function) at it (member_of types at name) is
        (keep.member_kept (IsBoundNode program function) (plain_bound program function) types at name)) given

    -- `++l` and `--l`
    pub stepped_bound : (at : Place) (op : Arithmetic) (it made : TypedOperand) → IsBoundIn program function final it
        → stepped types at op it ≡ Ok made → IsBoundIn program function final made
    stepped_bound at op it made is given =
        value_given (object_of at it >>= (λ object. update_of types at op object (one at))) made
        (object_makes (IsBound program function) at it (λ object. update_of types at op object (one at)) is
        (λ object is'.
        keep.update_kept (IsBoundNode program function) (plain_bound program function) types at op object (one at) is' (tt, tt, tt, tt))) given

    -- `l++` and `l--`
    pub postfix_bound : (op : PostfixOperator) (at : Place) (it made : TypedOperand) → IsBoundIn program function final it
        → postfix_of op types at it ≡ Ok made → IsBoundIn program function final made
    postfix_bound op at it made is given =
        value_given (object_of at it >>= post_update_of types at (operation_of_postfix op)) made
        (object_makes (IsBound program function) at it (post_update_of types at (operation_of_postfix op)) is
        (keep.post_kept (IsBoundNode program function) (plain_bound program function) types at (operation_of_postfix op))) given

    -- assignments
    assigned_by_bound : (o : Option Arithmetic) (at : Place) (e : RightValue) (it : LeftValue) → IsBound program function e
        → IsBoundObject program function it → Makes (IsBound program function) (assigned_by o types at e it)
    assigned_by_bound None at e it is is' = keep.assign_kept (IsBoundNode program function) (plain_bound program function) types at it e is' is
    assigned_by_bound (Some op) at e it is is' = keep.update_kept (IsBoundNode program function) (plain_bound program function) types at op it e is' is

    pub assignment_bound : (op : AssignOperator) (at : Place) (it : TypedOperand) (e : RightValue) (made : TypedOperand)
        → IsBoundIn program function final it → IsBound program function e → assignment_of op types at it e ≡ Ok made
        → IsBoundIn program function final made
    assignment_bound op at it e made is is' given =
        value_given (object_of at it >>= assigned_by (operation_of_assignment op) types at e) made
        (object_makes (IsBound program function) at it (assigned_by (operation_of_assignment op) types at e) is
        (λ object is''. assigned_by_bound (operation_of_assignment op) at e object is' is'')) given

    -- operators in front of a value
    pub prefix_bound : (op : PrefixOperator) (at : Place) (e : RightValue) (made : TypedOperand) → IsBound program function e
        → prefix_value op types at e ≡ Ok made → IsBoundIn program function final made
    prefix_bound prefix.Dereference at e made is given =
        object_given (target_of types at e) made (keep.target_kept (IsBoundNode program function) (plain_bound program function) types at e is) given
    prefix_bound prefix.Plus at e made is given =
        value_given (unary_of types at unary.Plus e) made
        (keep.unary_kept (IsBoundNode program function) (plain_bound program function) types at unary.Plus e is) given
    prefix_bound prefix.Minus at e made is given =
        value_given (unary_of types at unary.Minus e) made
        (keep.unary_kept (IsBoundNode program function) (plain_bound program function) types at unary.Minus e is) given
    prefix_bound prefix.Complement at e made is given =
        value_given (unary_of types at unary.Complement e) made
        (keep.unary_kept (IsBoundNode program function) (plain_bound program function) types at unary.Complement e is) given
    prefix_bound prefix.Not at e made is given =
        value_given (not_of types at e) made (keep.not_kept (IsBoundNode program function) (plain_bound program function) types at e is) given
    prefix_bound prefix.Increment at e made is given = absurd cc
    prefix_bound prefix.Decrement at e made is given = absurd cc
    prefix_bound prefix.Address at e made is given = absurd cc

    -- `sizeof`
    pub size_bound : (at : Place) (it : TypedOperand) → Makes (IsBound program function) (size_of_operand types at it)
    size_bound at (operand.value e) = keep.size_kept (IsBoundNode program function) (plain_bound program function) types at (type_of e)
    size_bound at (operand.object it) = keep.size_kept (IsBoundNode program function) (plain_bound program function) types at (type_of_left it)
    size_bound at (operand.function it) = refuses (IsBound program function) it.head.at

  -- an operator in front of an object
  pub prefix_object_keeps : (op : PrefixOperator) (at : Place) (it : TypedOperand)
      → Keeps program function final (λ made. IsBoundIn program function final it → IsBoundIn program function final made) (prefix_object op at it)
  prefix_object_keeps prefix.Increment at it =
      of_types_keeps (λ types. stepped types at arithmetic.Add it)
      (λ types grows made given is. stepped_bound types at arithmetic.Add it made is given)
  prefix_object_keeps prefix.Decrement at it =
      of_types_keeps (λ types. stepped types at arithmetic.Subtract it)
      (λ types grows made given is. stepped_bound types at arithmetic.Subtract it made is given)
  prefix_object_keeps prefix.Address at it = addressed_keeps program function final at it
  prefix_object_keeps prefix.Dereference at it = addressed_keeps program function final at it
  prefix_object_keeps prefix.Plus at it = addressed_keeps program function final at it
  prefix_object_keeps prefix.Minus at it = addressed_keeps program function final at it
  prefix_object_keeps prefix.Complement at it = addressed_keeps program function final at it
  prefix_object_keeps prefix.Not at it = addressed_keeps program function final at it

  -- what is found means what the program has
  abbrev BindsIf : Option Entity → Type 0
  BindsIf None = Unit {0}
  BindsIf (Some it) = BindsName program function final it

  binds_if : (b : Bool) (it : Declared Entity) (o : Option (Declared Entity)) → BindsName program function final it.entity → BindsIf (entity_of o)
      → BindsIf (entity_of (if b then Some it else o))
  binds_if true it o is is' = is
  binds_if false it o is is' = is'

  found_binds : (name : List ℕ) (its : List (Declared Entity)) → AllByRecursion (λ it. BindsName program function final it.entity) its
      → BindsIf (entity_of (newest name its))
  found_binds name [] knows = tt
  found_binds name (it ∷ older) knows =
      binds_if (pointwise nat_eq it.name name) it (newest name older) knows.0 (found_binds name older knows.1)

  -- a name
  named_as_bound : (word : Word) (o : Option Entity) (it : TypedOperand) → BindsIf o → named_as word o ≡ Ok it
      → IsBoundIn program function final it
  named_as_bound word None it known given = absurd cc
  named_as_bound word (Some (entity.Constant bits)) it known given =
      operand_given (number word.place kind.Int bits) it (tt, tt, tt, tt) given
  named_as_bound word (Some (entity.Variable variable id)) it known given =
      operand_given (operand.object (tree.variable (head_at word.place id) variable)) it (known, tt, tt, tt) given
  named_as_bound word (Some (entity.Function id bound)) it known given =
      operand_given (operand.function (record { head = head_at word.place id; name = word.text; bound = bound })) it known given
  named_as_bound word (Some (entity.Typedef id)) it known given = absurd cc

  pub named_bound : (s : Typer) (word : Word) (it : TypedOperand) → KnowsBound program function final s → named s.names word ≡ Ok it
      → IsBoundIn program function final it
  named_bound s word it knows given = named_as_bound word (find word.text s.names) it (found_binds word.text s.names.declarations knows) given

  -- numbers and characters
  number_as_bound : (at : Place) (o : Option Number) (it : TypedOperand) → number_as at o ≡ Ok it → IsBoundIn program function final it
  number_as_bound at None it given = absurd cc
  number_as_bound at (Some its) it given = operand_given (number at (number_type its) its.value) it (tt, tt, tt, tt) given

  pub number_of_bound : (word : Word) (it : TypedOperand) → number_of word ≡ Ok it → IsBoundIn program function final it
  number_of_bound word it given = number_as_bound word.place (number_value word.text) it given

  character_as_bound : (at : Place) (o : Option ℕ) (it : TypedOperand) → character_as at o ≡ Ok it → IsBoundIn program function final it
  character_as_bound at None it given = absurd cc
  character_as_bound at (Some bits) it given = operand_given (number at kind.Int bits) it (tt, tt, tt, tt) given

  pub character_of_bound : (word : Word) (it : TypedOperand) → character_of word ≡ Ok it → IsBoundIn program function final it
  character_of_bound word it given = character_as_bound word.place (character_value word.text) it given

  -- The bytes of a string are among those of the program.
  literal_within : (b : Bool) (old : List (List ℕ)) (bytes : List ℕ) → b ≡ true
      → IsPrefix (if b then old ++ bytes ∷ [] else old) program.literals → length old < length program.literals
  literal_within true old bytes counts more =
      slice_get_within program.literals (length old) bytes (ap (λ its. slice_get its (length old)) more.1 ∙ last_at old bytes more.0)
  literal_within false old bytes counts more = absurd cc

  string_in_bound : (s : Typer) (at : Place) (bytes : List ℕ) (given : Result (TypeId × TypeTable) TypeEnd) → s.counts ≡ true
      → Giving program function final s (IsBoundIn program function final) (string_in s at bytes given)
  string_in_bound s at bytes (Ok p) counts = λ noted. (literal_within s.counts s.literals bytes counts noted.literals, tt, tt, tt)
  string_in_bound s at bytes (Err why) counts = tt

  string_as_bound : (s : Typer) (at : Place) (o : Option (List ℕ)) → s.counts ≡ true
      → Giving program function final s (IsBoundIn program function final) (string_as at o s)
  string_as_bound s at None counts = tt
  string_as_bound s at (Some bytes) counts = string_in_bound s at bytes (arrayed (integer_id kind.Char) (length bytes) s.types) counts

  -- a string
  pub string_keeps : (first : Word) (others : List Word) → Keeps program function final (IsBoundIn program function final) (string_of first others)
  string_keeps first others =
      record {
        always = string_always first others;
        gives = λ s scoped counts knows. string_as_bound s first.place (string_bytes first others) counts;
      }
