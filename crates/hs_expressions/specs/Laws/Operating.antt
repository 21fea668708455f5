-- What typing makes of well-typed operands is well typed, for each operator of the syntax.
use Rattle.std.proofs.Common.{◌≡◌, ℕ, List, Option, Some, None, Result, Ok, Err, refl, subst}
use Rattle.hs_expressions.specs.Operations.{as_value, as_object, binary_of, member_operand, stepped, prefix_value, operation_of_postfix, postfix_of, operation_of_assignment, assigned_by, assignment_of}
use Rattle.hs_typer.specs.Steps.{lifted_end}
use Rattle.hs_typer.specs.declared.type_error.TypeError.{TypeError}
use Rattle.hs_operand_types.specs.Answers.{◌>>=◌}
use Rattle.hs_operands.specs.Assignments.{update_of, post_update_of, one}
use Rattle.hs_operands.specs.Laws.{IsTyped, IsTypedObject, IsTypedOperand, MakesTyped, MakesObject, OperatorsAreTyped}
use Rattle.hs_operands.specs.Laws.Made.{Makes, refuses, gives_then}
use Rattle.hs_operands.specs.Laws.Typed.{operators_typed, one-typed}
use Rattle.hs_operands.specs.Objects.{object_of, target_of, member_of, size_of_operand}
use Rattle.hs_operand_types.specs.Operands as operand
use Rattle.hs_operand_types.specs.Operands.{TypedOperand}
use Rattle.hs_operands.specs.Operators.{unary_of, not_of}
use Rattle.hs_operand_types.specs.declared.operand_end.OperandEnd.{OperandEnd}
use Rattle.hs_syntax.specs.declared.operators.AssignOperator.{AssignOperator}
use Rattle.hs_syntax.specs.declared.operators.BinaryOperator.{BinaryOperator}
use Rattle.hs_syntax.specs.declared.operators.BinaryOperator.TheVariants as binary
use Rattle.hs_syntax.specs.declared.operators.PostfixOperator.{PostfixOperator}
use Rattle.hs_syntax.specs.declared.operators.PrefixOperator.{PrefixOperator}
use Rattle.hs_syntax.specs.declared.operators.PrefixOperator.TheVariants as prefix
use Rattle.hs_tokens.specs.declared.place.Place.{Place}
use Rattle.hs_tree.specs.Trees.{RightValue, LeftValue, TypedFunction, TypedProgram, type_of, type_of_left}
use Rattle.hs_tree.specs.declared.operators.Arithmetic.{Arithmetic}
use Rattle.hs_tree.specs.declared.operators.Arithmetic.TheVariants as arithmetic
use Rattle.hs_tree.specs.declared.operators.Comparison.TheVariants as comparison
use Rattle.hs_tree.specs.declared.operators.Unary.TheVariants as unary
use Rattle.hs_types.specs.TypeTables.{TypeTable, IsRight, Grows}

module _ (program : TypedProgram) (function : TypedFunction) where
  -- a value or an object that is given is well typed
  pub value_given : (given : Result RightValue OperandEnd) (it : TypedOperand) → MakesTyped program function given → as_value given ≡ Ok it
      → IsTypedOperand program function it
  value_given (Ok made) it makes is =
      let same : operand.value made ≡ it = cc in
      subst (IsTypedOperand program function) same (makes made refl)
  value_given (Err why) it makes is = absurd (failed (lifted_end why) it is)
    where
      failed : (why : TypeError) (it : TypedOperand) → Err why ≡ Ok it → ⊥
      failed why it is = cc

  pub object_given : (given : Result LeftValue OperandEnd) (it : TypedOperand) → MakesObject program function given → as_object given ≡ Ok it
      → IsTypedOperand program function it
  object_given (Ok made) it makes is =
      let same : operand.object made ≡ it = cc in
      subst (IsTypedOperand program function) same (makes made refl)
  object_given (Err why) it makes is = absurd (failed (lifted_end why) it is)
    where
      failed : (why : TypeError) (it : TypedOperand) → Err why ≡ Ok it → ⊥
      failed why it is = cc

  -- the object that an operand designates
  object_is : (at : Place) (it : TypedOperand) (object : LeftValue) → IsTypedOperand program function it → object_of at it ≡ Ok object
      → IsTypedObject program function object
  object_is at (operand.value e) object is given = absurd cc
  object_is at (operand.object its) object is given =
      let same : its ≡ object = cc in
      subst (IsTypedObject program function) same is
  object_is at (operand.function its) object is given = absurd cc

  -- and what is made of it
  pub object_makes : {A : Type 0} → (holds : A → Type 0) (at : Place) (it : TypedOperand) (next : LeftValue → Result A OperandEnd)
      → IsTypedOperand program function it → ((object : LeftValue) → IsTypedObject program function object → Makes holds (next object))
      → Makes holds (object_of at it >>= next)
  object_makes holds at it next is makes =
      gives_then holds (object_of at it) next (λ object given. makes object (object_is at it object is given))

module _ (program : TypedProgram) (function : TypedFunction) (sound : IsRight program.types) (types : TypeTable) (grows : Grows types program.types) where
  -- the operators at that place of the text
  pub operators : OperatorsAreTyped program function types
  operators = operators_typed program function types sound grows

  -- 3.3.5 to 3.3.14
  pub binary_typed : (op : BinaryOperator) (at : Place) (a b : RightValue) → IsTyped program function a → IsTyped program function b
      → MakesTyped program function (binary_of op types at a b)
  binary_typed binary.Multiply at a b is is' = operators.arithmetic at arithmetic.Multiply a b is is'
  binary_typed binary.Divide at a b is is' = operators.arithmetic at arithmetic.Divide a b is is'
  binary_typed binary.Remainder at a b is is' = operators.arithmetic at arithmetic.Remainder a b is is'
  binary_typed binary.Add at a b is is' = operators.plus at a b is is'
  binary_typed binary.Subtract at a b is is' = operators.minus at a b is is'
  binary_typed binary.ShiftLeft at a b is is' = operators.arithmetic at arithmetic.ShiftLeft a b is is'
  binary_typed binary.ShiftRight at a b is is' = operators.arithmetic at arithmetic.ShiftRight a b is is'
  binary_typed binary.Less at a b is is' = operators.comparison at comparison.Less a b is is'
  binary_typed binary.Greater at a b is is' = operators.comparison at comparison.Greater a b is is'
  binary_typed binary.LessEqual at a b is is' = operators.comparison at comparison.LessEqual a b is is'
  binary_typed binary.GreaterEqual at a b is is' = operators.comparison at comparison.GreaterEqual a b is is'
  binary_typed binary.Equal at a b is is' = operators.comparison at comparison.Equal a b is is'
  binary_typed binary.NotEqual at a b is is' = operators.comparison at comparison.NotEqual a b is is'
  binary_typed binary.BitAnd at a b is is' = operators.arithmetic at arithmetic.BitAnd a b is is'
  binary_typed binary.BitXor at a b is is' = operators.arithmetic at arithmetic.BitXor a b is is'
  binary_typed binary.BitOr at a b is is' = operators.arithmetic at arithmetic.BitOr a b is is'
  binary_typed binary.And at a b is is' = operators.and at a b is is'
  binary_typed binary.Or at a b is is' = operators.or at a b is is'

  -- `e.f`
  pub member_typed : (at : Place) (name : List ℕ) (it made : TypedOperand) → IsTypedOperand program function it
      → member_operand types at name it ≡ Ok made → IsTypedOperand program function made
  member_typed at name it made is given =
      object_given program function (object_of at it >>= member_of types at name) made
      (object_makes program function (IsTypedObject program function) at it (member_of types at name) is (operators.member at name)) given

  -- `++l` and `--l`
  pub stepped_typed : (at : Place) (op : Arithmetic) (it made : TypedOperand) → IsTypedOperand program function it
      → stepped types at op it ≡ Ok made → IsTypedOperand program function made
  stepped_typed at op it made is given =
      value_given program function (object_of at it >>= (λ object. update_of types at op object (one at))) made
      (object_makes program function (IsTyped program function) at it (λ object. update_of types at op object (one at)) is
      (λ object is'. operators.update at op object (one at) is' (one-typed program function types sound grows at))) given

  -- `l++` and `l--`
  pub postfix_typed : (op : PostfixOperator) (at : Place) (it made : TypedOperand) → IsTypedOperand program function it
      → postfix_of op types at it ≡ Ok made → IsTypedOperand program function made
  postfix_typed op at it made is given =
      value_given program function (object_of at it >>= post_update_of types at (operation_of_postfix op)) made
      (object_makes program function (IsTyped program function) at it (post_update_of types at (operation_of_postfix op)) is
      (operators.post_update at (operation_of_postfix op))) given

  -- assignments
  assigned_by_typed : (o : Option Arithmetic) (at : Place) (e : RightValue) (it : LeftValue) → IsTyped program function e
      → IsTypedObject program function it → MakesTyped program function (assigned_by o types at e it)
  assigned_by_typed None at e it is is' = operators.assign at it e is' is
  assigned_by_typed (Some op) at e it is is' = operators.update at op it e is' is

  pub assignment_typed : (op : AssignOperator) (at : Place) (it : TypedOperand) (e : RightValue) (made : TypedOperand)
      → IsTypedOperand program function it → IsTyped program function e → assignment_of op types at it e ≡ Ok made
      → IsTypedOperand program function made
  assignment_typed op at it e made is is' given =
      value_given program function (object_of at it >>= assigned_by (operation_of_assignment op) types at e) made
      (object_makes program function (IsTyped program function) at it (assigned_by (operation_of_assignment op) types at e) is
      (λ object is''. assigned_by_typed (operation_of_assignment op) at e object is' is'')) given

  -- operators in front of a value
  pub prefix_typed : (op : PrefixOperator) (at : Place) (e : RightValue) (made : TypedOperand) → IsTyped program function e
      → prefix_value op types at e ≡ Ok made → IsTypedOperand program function made
  prefix_typed prefix.Dereference at e made is given = object_given program function (target_of types at e) made (operators.target at e is) given
  prefix_typed prefix.Plus at e made is given = value_given program function (unary_of types at unary.Plus e) made (operators.unary at unary.Plus e is) given
  prefix_typed prefix.Minus at e made is given = value_given program function (unary_of types at unary.Minus e) made (operators.unary at unary.Minus e is) given
  prefix_typed prefix.Complement at e made is given =
      value_given program function (unary_of types at unary.Complement e) made (operators.unary at unary.Complement e is) given
  prefix_typed prefix.Not at e made is given = value_given program function (not_of types at e) made (operators.not at e is) given
  prefix_typed prefix.Increment at e made is given = absurd cc
  prefix_typed prefix.Decrement at e made is given = absurd cc
  prefix_typed prefix.Address at e made is given = absurd cc

  -- `sizeof`: a number, whatever is inside
  pub size_typed : (at : Place) (it : TypedOperand) → MakesTyped program function (size_of_operand types at it)
  size_typed at (operand.value e) = operators.size at (type_of e)
  size_typed at (operand.object it) = operators.size at (type_of_left it)
  size_typed at (operand.function it) = refuses (IsTyped program function) it.head.at
