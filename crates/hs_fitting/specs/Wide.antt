-- What an expression is typed as computes in promoted kinds, from every place of the text: by induction on the expression.
--     typed_wide, value_wide          what an expression is typed as, and its value
use Rattle.std.proofs.Common.{[], Option, Some, None, Result, Ok, Err}
use Rattle.hs_expressions.specs.Expressions.{typed, typed_all, typed_lefts, type_named}
use Rattle.hs_expressions.specs.Operations.{value_of, as_value, as_object, binary_of, is_arrow, member_operand, takes_object, prefix_value, prefix_object, stepped, address_as, postfix_of, operation_of_postfix, assigned_by, operation_of_assignment, assignment_of}
use Rattle.hs_fitting.specs.ConstantNumbers.{HasWideKinds}
use Rattle.hs_fitting.specs.WideSteps.{IsWideOperand, Answers, Gives, looks_gives, of_types_gives, then_gives, any_gives, either_gives, value_given, object_given, value_gives, named_wide, number_wide, character_wide, string_wide, call_wide}
use Rattle.hs_fitting.specs.WideBranches.{conditional_wide}
use Rattle.hs_fitting.specs.WideOperators.{MakesWide, unary_wide, arithmetic_wide, not_wide, and_wide, or_wide, plus_wide, minus_wide, compared_wide, size_wide, size_number_wide, assign_wide, update_wide, post_wide, cast_wide}
use Rattle.hs_operand_types.specs.Answers as answers
use Rattle.hs_operands.specs.Assignments.{update_of, post_update_of, one, cast_of, conditional_of}
use Rattle.hs_operands.specs.Laws.Made.{gives_then}
use Rattle.hs_operands.specs.Objects.{object_of, target_of, element_of, member_of, arrow_of, size_number, size_of_operand}
use Rattle.hs_operand_types.specs.Operands.{TypedOperand}
use Rattle.hs_operands.specs.Operators.{unary_of, not_of}
use Rattle.hs_operand_types.specs.declared.operand_end.OperandEnd.{OperandEnd}
use Rattle.hs_syntax.specs.Trees as syntax
use Rattle.hs_syntax.specs.Trees.{Expression}
use Rattle.hs_syntax.specs.declared.operators.BinaryOperator.{BinaryOperator}
use Rattle.hs_syntax.specs.declared.operators.BinaryOperator.TheVariants as binary
use Rattle.hs_syntax.specs.declared.operators.PrefixOperator.{PrefixOperator}
use Rattle.hs_syntax.specs.declared.operators.PrefixOperator.TheVariants as prefix
use Rattle.hs_tokens.specs.declared.place.Place.{Place}
use Rattle.hs_tree.specs.Trees.{RightValue, LeftValue}
use Rattle.hs_tree.specs.declared.operators.Arithmetic.{Arithmetic}
use Rattle.hs_tree.specs.declared.operators.Arithmetic.TheVariants as arithmetic
use Rattle.hs_tree.specs.declared.operators.Comparison.TheVariants as comparison
use Rattle.hs_tree.specs.declared.operators.Unary.TheVariants as unary
use Rattle.hs_typer.specs.Primaries.{named, number_of, character_of, string_bytes}
use Rattle.hs_typer.specs.Steps.{of_types, lifted, unevaluated}
use Rattle.hs_typer.specs.declared.type_error.TypeError.{TypeError}
use Rattle.hs_names.specs.Scopes.{find}
use Rattle.hs_types.specs.TypeTables.{TypeTable}

-- ---- operators

-- an operation on an object
object_makes : (at : Place) (it : TypedOperand) (next : LeftValue → Result RightValue OperandEnd) → ((object : LeftValue) → MakesWide (next object))
    → Answers IsWideOperand (as_value (answers.◌>>=◌ (object_of at it) next))
object_makes at it next makes =
    value_given (answers.◌>>=◌ (object_of at it) next) (gives_then HasWideKinds (object_of at it) next (λ object given. makes object))

binary_wide : (op : BinaryOperator) (types : TypeTable) (at : Place) (a b : RightValue) → MakesWide (binary_of op types at a b)
binary_wide binary.Multiply types at a b = arithmetic_wide types at arithmetic.Multiply a b
binary_wide binary.Divide types at a b = arithmetic_wide types at arithmetic.Divide a b
binary_wide binary.Remainder types at a b = arithmetic_wide types at arithmetic.Remainder a b
binary_wide binary.Add types at a b = plus_wide types at a b
binary_wide binary.Subtract types at a b = minus_wide types at a b
binary_wide binary.ShiftLeft types at a b = arithmetic_wide types at arithmetic.ShiftLeft a b
binary_wide binary.ShiftRight types at a b = arithmetic_wide types at arithmetic.ShiftRight a b
binary_wide binary.Less types at a b = compared_wide types at comparison.Less a b
binary_wide binary.Greater types at a b = compared_wide types at comparison.Greater a b
binary_wide binary.LessEqual types at a b = compared_wide types at comparison.LessEqual a b
binary_wide binary.GreaterEqual types at a b = compared_wide types at comparison.GreaterEqual a b
binary_wide binary.Equal types at a b = compared_wide types at comparison.Equal a b
binary_wide binary.NotEqual types at a b = compared_wide types at comparison.NotEqual a b
binary_wide binary.BitAnd types at a b = arithmetic_wide types at arithmetic.BitAnd a b
binary_wide binary.BitXor types at a b = arithmetic_wide types at arithmetic.BitXor a b
binary_wide binary.BitOr types at a b = arithmetic_wide types at arithmetic.BitOr a b
binary_wide binary.And types at a b = and_wide types at a b
binary_wide binary.Or types at a b = or_wide types at a b

-- in front of an object, and of a value
stepped_object : (op : Arithmetic) (at : Place) (it : TypedOperand) → Gives IsWideOperand (of_types (λ types. stepped types at op it))
stepped_object op at it =
    of_types_gives (λ types. stepped types at op it)
    (λ types. object_makes at it (λ object. update_of types at op object (one at)) (λ object. update_wide types at op object (one at)))

address_wide : (at : Place) (given : Result LeftValue TypeError) → Gives IsWideOperand (address_as at given)
address_wide at (Ok it) = record { gives = λ s. tt }
address_wide at (Err why) = record { gives = λ s. tt }

prefix_object_wide : (op : PrefixOperator) (at : Place) (it : TypedOperand) → Gives IsWideOperand (prefix_object op at it)
prefix_object_wide prefix.Increment at it = stepped_object arithmetic.Add at it
prefix_object_wide prefix.Decrement at it = stepped_object arithmetic.Subtract at it
prefix_object_wide prefix.Address at it = address_wide at (lifted (object_of at it))
prefix_object_wide prefix.Dereference at it = address_wide at (lifted (object_of at it))
prefix_object_wide prefix.Plus at it = address_wide at (lifted (object_of at it))
prefix_object_wide prefix.Minus at it = address_wide at (lifted (object_of at it))
prefix_object_wide prefix.Complement at it = address_wide at (lifted (object_of at it))
prefix_object_wide prefix.Not at it = address_wide at (lifted (object_of at it))

prefix_value_wide : (op : PrefixOperator) (types : TypeTable) (at : Place) (e : RightValue) → Answers IsWideOperand (prefix_value op types at e)
prefix_value_wide prefix.Dereference types at e = object_given (target_of types at e)
prefix_value_wide prefix.Plus types at e = value_given (unary_of types at unary.Plus e) (unary_wide types at unary.Plus e)
prefix_value_wide prefix.Minus types at e = value_given (unary_of types at unary.Minus e) (unary_wide types at unary.Minus e)
prefix_value_wide prefix.Complement types at e = value_given (unary_of types at unary.Complement e) (unary_wide types at unary.Complement e)
prefix_value_wide prefix.Not types at e = value_given (not_of types at e) (not_wide types at e)
prefix_value_wide prefix.Increment types at e = tt
prefix_value_wide prefix.Decrement types at e = tt
prefix_value_wide prefix.Address types at e = tt

-- assignments
assigned_by_wide : (o : Option Arithmetic) (types : TypeTable) (at : Place) (e : RightValue) (it : LeftValue) → MakesWide (assigned_by o types at e it)
assigned_by_wide None types at e it = assign_wide types at it e
assigned_by_wide (Some op) types at e it = update_wide types at op it e

-- ---- expressions

pub typed_wide : (e : Expression) → Gives IsWideOperand (typed e)
typed_wide (syntax.name word) = looks_gives (λ s. named s.names word) (λ s. named_wide word (find word.text s.names))
typed_wide (syntax.number word) = looks_gives (λ s. number_of word) (λ s. number_wide word)
typed_wide (syntax.character word) = looks_gives (λ s. character_of word) (λ s. character_wide word)
typed_wide (syntax.strings first others) = string_wide first.place (string_bytes first others)
typed_wide (syntax.parens at inner) = typed_wide inner
typed_wide (syntax.index base at offset) =
    then_gives (any_gives (value_of (typed base)))
    (λ a any. then_gives (any_gives (value_of (typed offset)))
    (λ b any'. of_types_gives (λ types. as_object (element_of types at a b)) (λ types. object_given (element_of types at a b))))
typed_wide (syntax.call callee arguments) =
    then_gives (any_gives (typed callee)) (λ it any. then_gives (any_gives (typed_all [] arguments)) (λ its any'. call_wide it its))
typed_wide (syntax.member base access at word) =
    either_gives (is_arrow access)
    (then_gives (any_gives (value_of (typed base)))
    (λ e any. of_types_gives (λ types. as_object (arrow_of types at word.text e)) (λ types. object_given (arrow_of types at word.text e))))
    (then_gives (any_gives (typed base))
    (λ it any. of_types_gives (λ types. member_operand types at word.text it)
    (λ types. object_given (answers.◌>>=◌ (object_of at it) (member_of types at word.text)))))
typed_wide (syntax.postfix base operator at) =
    then_gives (any_gives (typed base))
    (λ it any. of_types_gives (λ types. postfix_of operator types at it)
    (λ types. object_makes at it (post_update_of types at (operation_of_postfix operator)) (post_wide types at (operation_of_postfix operator))))
typed_wide (syntax.prefix operator at base) =
    either_gives (takes_object operator) (then_gives (any_gives (typed base)) (λ it any. prefix_object_wide operator at it))
    (then_gives (any_gives (value_of (typed base)))
    (λ e any. of_types_gives (λ types. prefix_value operator types at e) (λ types. prefix_value_wide operator types at e)))
typed_wide (syntax.sizeof_value at base) =
    then_gives (any_gives (unevaluated (typed base)))
    (λ it any. of_types_gives (λ types. as_value (size_of_operand types at it))
    (λ types. value_given (size_of_operand types at it) (size_wide types at it)))
typed_wide (syntax.sizeof_type at name) =
    then_gives (any_gives (unevaluated (type_named at name)))
    (λ id any. of_types_gives (λ types. as_value (size_number types at id))
    (λ types. value_given (size_number types at id) (size_number_wide types at id)))
typed_wide (syntax.cast at name base) =
    then_gives (any_gives (type_named at name))
    (λ id any. then_gives (value_gives (typed_wide base))
    (λ e is. of_types_gives (λ types. as_value (cast_of types at id e)) (λ types. value_given (cast_of types at id e) (cast_wide types at id e is))))
typed_wide (syntax.binary first operator at second) =
    then_gives (any_gives (value_of (typed first)))
    (λ a any. then_gives (any_gives (value_of (typed second)))
    (λ b any'. of_types_gives (λ types. as_value (binary_of operator types at a b))
    (λ types. value_given (binary_of operator types at a b) (binary_wide operator types at a b))))
typed_wide (syntax.conditional test at taken otherwise) =
    then_gives (any_gives (value_of (typed test)))
    (λ c any. then_gives (value_gives (typed_wide taken))
    (λ a is. then_gives (value_gives (typed_wide otherwise))
    (λ b is'. of_types_gives (λ types. as_value (conditional_of types at c a b))
    (λ types. value_given (conditional_of types at c a b) (conditional_wide types at c a b is is')))))
typed_wide (syntax.assign target operator at second) =
    then_gives (any_gives (typed target))
    (λ it any. then_gives (any_gives (value_of (typed second)))
    (λ e any'. of_types_gives (λ types. assignment_of operator types at it e)
    (λ types. object_makes at it (assigned_by (operation_of_assignment operator) types at e)
    (λ object. assigned_by_wide (operation_of_assignment operator) types at e object))))
typed_wide (syntax.comma lefts last) =
    then_gives (any_gives (typed_lefts [] lefts))
    (λ its any. then_gives (any_gives (value_of (typed last)))
    (λ e any'. record { gives = λ s. tt }))

-- the value of an expression
pub value_wide : (e : Expression) → Gives HasWideKinds (value_of (typed e))
value_wide e = value_gives (typed_wide e)
