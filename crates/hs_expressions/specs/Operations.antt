-- Operations on typed operands, by the operators of the syntax (X3.159-1989 3.3). Each is an answer of `hs_operands`, or also changes what
-- is known.
use Rattle.std.specs.Prelude.{ℕ, Bool, true, false, List, [], ◌∷◌, ◌++◌, Option, Some, None, Result, Ok, Err, if◌then◌else◌}
use Rattle.hs_expressions.specs.Roles.{fits_role}
use Rattle.hs_typer.specs.Steps.{Step, ◌>>=◌, refuse, of_types, on_types, lifted, mapped}
use Rattle.hs_typer.specs.declared.type_error.TypeError.{TypeError}
use Rattle.hs_typer.specs.declared.type_error.TypeError.TheVariants.{Untyped, UnknownRoutine, Clash}
use Rattle.hs_typer.specs.declared.typer.Taken.{Taken}
use Rattle.hs_typer.specs.declared.typer.Taken.TheVariants as taken
use Rattle.hs_typer.specs.declared.typer.Typer.{Typer}
use Rattle.hs_operand_types.specs.Answers as answers
use Rattle.hs_operands.specs.Assignments.{assign_of, update_of, post_update_of, one, called}
use Rattle.hs_operands.specs.Calls.{call_of, call_routine_of}
use Rattle.hs_operands.specs.Objects.{loaded, object_of, target_of, member_of, address_of}
use Rattle.hs_operand_types.specs.Operands as operand
use Rattle.hs_operand_types.specs.Operands.{TypedOperand, head_of_operand}
use Rattle.hs_operands.specs.Operators.{unary_of, arithmetic_of, not_of, and_of, or_of}
use Rattle.hs_operands.specs.Pointers.{plus_of, minus_of, compared}
use Rattle.hs_operand_types.specs.declared.operand.Bound.{Bound}
use Rattle.hs_operand_types.specs.declared.operand.Bound.TheVariants as bound
use Rattle.hs_operand_types.specs.declared.operand.Designator.{Designator}
use Rattle.hs_operand_types.specs.declared.operand_end.OperandEnd.{OperandEnd}
use Rattle.hs_syntax.specs.declared.operators.Access.{Access}
use Rattle.hs_syntax.specs.declared.operators.Access.TheVariants as access
use Rattle.hs_syntax.specs.declared.operators.AssignOperator.{AssignOperator}
use Rattle.hs_syntax.specs.declared.operators.AssignOperator.TheVariants as assigns
use Rattle.hs_syntax.specs.declared.operators.BinaryOperator.{BinaryOperator}
use Rattle.hs_syntax.specs.declared.operators.BinaryOperator.TheVariants as binary
use Rattle.hs_syntax.specs.declared.operators.PostfixOperator.{PostfixOperator}
use Rattle.hs_syntax.specs.declared.operators.PostfixOperator.TheVariants as postfix
use Rattle.hs_syntax.specs.declared.operators.PrefixOperator.{PrefixOperator}
use Rattle.hs_syntax.specs.declared.operators.PrefixOperator.TheVariants as prefix
use Rattle.hs_tokens.specs.declared.place.Place.{Place}
use Rattle.hs_tree.specs.Trees as tree
use Rattle.hs_tree.specs.Trees.{RightValue, LeftValue}
use Rattle.hs_tree.specs.declared.operators.Arithmetic.{Arithmetic}
use Rattle.hs_tree.specs.declared.operators.Arithmetic.TheVariants as arithmetic
use Rattle.hs_tree.specs.declared.operators.Comparison.TheVariants as comparison
use Rattle.hs_tree.specs.declared.operators.Unary.TheVariants as unary
use Rattle.hs_types.specs.TypeTables.{TypeTable}
use Rattle.hs_types.specs.declared.row.TypeId.{TypeId}

-- an answer that is a value, and one that is an object
abbrev pub as_value : Result RightValue OperandEnd → Result TypedOperand TypeError
as_value given = mapped operand.value (lifted given)

-- and one that is an object
abbrev pub as_object : Result LeftValue OperandEnd → Result TypedOperand TypeError
as_object given = mapped operand.object (lifted given)

-- the value of an operand (3.2.2.1)
abbrev pub value_of : Step TypedOperand → Step RightValue
value_of step = step >>= (λ it. on_types (λ types. lifted (loaded types it)))

-- 3.3.5 to 3.3.14
abbrev pub binary_of : BinaryOperator → TypeTable → Place → RightValue → RightValue → Result RightValue OperandEnd
binary_of binary.Multiply types at a b = arithmetic_of types at arithmetic.Multiply a b
binary_of binary.Divide types at a b = arithmetic_of types at arithmetic.Divide a b
binary_of binary.Remainder types at a b = arithmetic_of types at arithmetic.Remainder a b
binary_of binary.Add types at a b = plus_of types at a b
binary_of binary.Subtract types at a b = minus_of types at a b
binary_of binary.ShiftLeft types at a b = arithmetic_of types at arithmetic.ShiftLeft a b
binary_of binary.ShiftRight types at a b = arithmetic_of types at arithmetic.ShiftRight a b
binary_of binary.Less types at a b = compared types at comparison.Less a b
binary_of binary.Greater types at a b = compared types at comparison.Greater a b
binary_of binary.LessEqual types at a b = compared types at comparison.LessEqual a b
binary_of binary.GreaterEqual types at a b = compared types at comparison.GreaterEqual a b
binary_of binary.Equal types at a b = compared types at comparison.Equal a b
binary_of binary.NotEqual types at a b = compared types at comparison.NotEqual a b
binary_of binary.BitAnd types at a b = arithmetic_of types at arithmetic.BitAnd a b
binary_of binary.BitXor types at a b = arithmetic_of types at arithmetic.BitXor a b
binary_of binary.BitOr types at a b = arithmetic_of types at arithmetic.BitOr a b
binary_of binary.And types at a b = and_of types at a b
binary_of binary.Or types at a b = or_of types at a b

-- `.` and `->` (3.3.2.3)
abbrev pub is_arrow : Access → Bool
is_arrow access.Dot = false
is_arrow access.Arrow = true

-- 3.3.2.3: of an object alone
abbrev pub member_operand : TypeTable → Place → List ℕ → TypedOperand → Result TypedOperand TypeError
member_operand types at name it = as_object (answers.◌>>=◌ (object_of at it) (member_of types at name))

-- an operator in front that asks for an object, and not for its value (3.3.3.1, 3.3.3.2)
abbrev pub takes_object : PrefixOperator → Bool
takes_object prefix.Increment = true
takes_object prefix.Decrement = true
takes_object prefix.Address = true
takes_object prefix.Dereference = false
takes_object prefix.Plus = false
takes_object prefix.Minus = false
takes_object prefix.Complement = false
takes_object prefix.Not = false

-- 3.3.3.1: `++l` is `l += 1`
abbrev pub stepped : TypeTable → Place → Arithmetic → TypedOperand → Result TypedOperand TypeError
stepped types at op it = as_value (answers.◌>>=◌ (object_of at it) (λ object. update_of types at op object (one at)))

-- what an address is taken of
abbrev pub taken_by : LeftValue → List Taken
taken_by (tree.variable head variable) = taken.Variable variable ∷ []
taken_by (tree.literal head place) = []
taken_by (tree.target head pointer) = []
taken_by (tree.element head size pointer_first a b) = []
taken_by (tree.member head field offset object) = taken.Field field ∷ []
taken_by (tree.arrow head field offset pointer) = taken.Field field ∷ []

-- none or one of them
abbrev pub listed_taken : Option Taken → List Taken
listed_taken None = []
listed_taken (Some its) = its ∷ []

-- 3.3.3.2
abbrev pub address_in : Typer → LeftValue → RightValue × TypeTable → TypedOperand × Typer
address_in s it p = (operand.value p.0, record s { types = p.1; taken = if s.counts then s.taken ++ taken_by it else s.taken })

-- if it is an object
abbrev pub address_as : Place → Result LeftValue TypeError → Step TypedOperand
address_as at (Err why) s = Err why
address_as at (Ok it) s = Ok (address_in s it (address_of s.types at it))

-- of an operand
abbrev pub addressed : Place → TypedOperand → Step TypedOperand
addressed at it = address_as at (lifted (object_of at it))

-- by the operator; the other ones never ask for an object
abbrev pub prefix_object : PrefixOperator → Place → TypedOperand → Step TypedOperand
prefix_object prefix.Increment at it = of_types (λ types. stepped types at arithmetic.Add it)
prefix_object prefix.Decrement at it = of_types (λ types. stepped types at arithmetic.Subtract it)
prefix_object prefix.Address at it = addressed at it
prefix_object prefix.Dereference at it = addressed at it
prefix_object prefix.Plus at it = addressed at it
prefix_object prefix.Minus at it = addressed at it
prefix_object prefix.Complement at it = addressed at it
prefix_object prefix.Not at it = addressed at it

-- 3.3.3.2 and 3.3.3.3
abbrev pub prefix_value : PrefixOperator → TypeTable → Place → RightValue → Result TypedOperand TypeError
prefix_value prefix.Dereference types at e = as_object (target_of types at e)
prefix_value prefix.Plus types at e = as_value (unary_of types at unary.Plus e)
prefix_value prefix.Minus types at e = as_value (unary_of types at unary.Minus e)
prefix_value prefix.Complement types at e = as_value (unary_of types at unary.Complement e)
prefix_value prefix.Not types at e = as_value (not_of types at e)
prefix_value prefix.Increment types at e = Err (Untyped at)
prefix_value prefix.Decrement types at e = Err (Untyped at)
prefix_value prefix.Address types at e = Err (Untyped at)

-- 3.3.2.4
abbrev pub operation_of_postfix : PostfixOperator → Arithmetic
operation_of_postfix postfix.Increment = arithmetic.Add
operation_of_postfix postfix.Decrement = arithmetic.Subtract

-- `l++` and `l--`
abbrev pub postfix_of : PostfixOperator → TypeTable → Place → TypedOperand → Result TypedOperand TypeError
postfix_of op types at it = as_value (answers.◌>>=◌ (object_of at it) (post_update_of types at (operation_of_postfix op)))

-- 3.3.16
abbrev pub operation_of_assignment : AssignOperator → Option Arithmetic
operation_of_assignment assigns.Plain = None
operation_of_assignment assigns.Multiply = Some arithmetic.Multiply
operation_of_assignment assigns.Divide = Some arithmetic.Divide
operation_of_assignment assigns.Remainder = Some arithmetic.Remainder
operation_of_assignment assigns.Add = Some arithmetic.Add
operation_of_assignment assigns.Subtract = Some arithmetic.Subtract
operation_of_assignment assigns.ShiftLeft = Some arithmetic.ShiftLeft
operation_of_assignment assigns.ShiftRight = Some arithmetic.ShiftRight
operation_of_assignment assigns.BitAnd = Some arithmetic.BitAnd
operation_of_assignment assigns.BitXor = Some arithmetic.BitXor
operation_of_assignment assigns.BitOr = Some arithmetic.BitOr

-- `=`, or the operation
abbrev pub assigned_by : Option Arithmetic → TypeTable → Place → RightValue → LeftValue → Result RightValue OperandEnd
assigned_by None types at e it = assign_of types at it e
assigned_by (Some op) types at e it = update_of types at op it e

-- to the object that an operand is
abbrev pub assignment_of : AssignOperator → TypeTable → Place → TypedOperand → RightValue → Result TypedOperand TypeError
assignment_of op types at it e = as_value (answers.◌>>=◌ (object_of at it) (assigned_by (operation_of_assignment op) types at e))

-- Binding of a call: of a function that is defined, or of a routine whose declaration fits its role, which is noted.
abbrev pub routine_call : Designator → ℕ → TypeId × List RightValue → Step TypedOperand
routine_call it number its s =
    if fits_role s.types s.table number it.head.type_id
    then Ok (
      operand.value (call_routine_of it.head.at number its),
      record s { calls = s.calls ++ record { routine = number; type_id = it.head.type_id } ∷ [] },
    )
    else Err (Clash it.head.at it.name)

-- what its name is bound to
abbrev pub bound_call : Bound → Designator → TypeId × List RightValue → Step TypedOperand
bound_call (bound.Function number) it its s = Ok (operand.value (call_of it.head.at number its), s)
bound_call (bound.Routine number) it its s = routine_call it number its s
bound_call bound.Nothing it its s = Err (UnknownRoutine it.head.at it.name)

-- A call that is not evaluated is bound to nothing, and is then dropped.
abbrev pub call_with : Designator → TypeId × List RightValue → Step TypedOperand
call_with it its s = if s.counts then bound_call it.bound it its s else Ok (operand.value (call_of it.head.at 0 its), s)

-- 3.3.2.2: what is called is a function; its name is the place of the call
abbrev pub call_operand : TypedOperand → List RightValue → Step TypedOperand
call_operand (operand.value e) arguments = refuse (Untyped (head_of_operand (operand.value e)).at)
call_operand (operand.object it) arguments = refuse (Untyped (head_of_operand (operand.object it)).at)
call_operand (operand.function it) arguments = do
  its ← of_types (λ types. lifted (called types it.head.at it.head.type_id arguments))
  call_with it its
