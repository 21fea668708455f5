-- Operators on numbers and conditions (X3.159-1989 3.3.3 and 3.3.5 to 3.3.14). Each has the place of its operator.
--     unary_of, arithmetic_of, comparison_of     numbers
--     not_of, and_of, or_of                      conditions
use Rattle.std.specs.Prelude.{Bool, true, false, Option, Some, None, Result, Ok, Err, if◌then◌else◌}
use Rattle.hs_tokens.specs.declared.place.Place.{Place}
use Rattle.hs_operand_types.specs.Answers.{◌>>=◌}
use Rattle.hs_operand_types.specs.Conversions.{head_at, as_kind, truth}
use Rattle.hs_operand_types.specs.declared.operand_end.OperandEnd.{OperandEnd}
use Rattle.hs_operand_types.specs.declared.operand_end.OperandEnd.TheVariants.{Untyped}
use Rattle.hs_tree.specs.Kinds.{number_kind}
use Rattle.hs_tree.specs.Trees as tree
use Rattle.hs_tree.specs.Trees.{RightValue, type_of}
use Rattle.hs_tree.specs.declared.operators.Arithmetic.{Arithmetic}
use Rattle.hs_tree.specs.declared.operators.Arithmetic.TheVariants as operator
use Rattle.hs_tree.specs.declared.operators.Comparison.{Comparison}
use Rattle.hs_tree.specs.declared.operators.Unary.{Unary}
use Rattle.hs_types.specs.Integers.{promoted, common}
use Rattle.hs_types.specs.Rows.{integer_id}
use Rattle.hs_types.specs.TypeTables.{TypeTable}
use Rattle.hs_types.specs.declared.integer.Integer.{Integer}
use Rattle.hs_types.specs.declared.integer.Integer.TheVariants as kind

-- the operand is a number; otherwise it is refused at the op
abbrev pub with_number : Place → Option Integer → (Integer → RightValue) → Result RightValue OperandEnd
with_number at None make = Err (Untyped at)
with_number at (Some its) make = Ok (make its)

-- both operands are numbers
abbrev pub with_numbers : Place → Option Integer → Option Integer → (Integer → Integer → RightValue) → Result RightValue OperandEnd
with_numbers at None second make = Err (Untyped at)
with_numbers at (Some first) second make = with_number at second (make first)

-- 3.3.3.3: on the promoted operand
abbrev pub unary_of : TypeTable → Place → Unary → RightValue → Result RightValue OperandEnd
unary_of types at op e =
    with_number at (number_kind types (type_of e))
    (λ its. tree.unary (head_at at (integer_id (promoted its))) op (promoted its) (as_kind at (promoted its) e))

-- 3.3.5, 3.3.6 and 3.3.10 to 3.3.12: in the common type of the operands
abbrev pub arithmetic_in : Place → Arithmetic → Integer → RightValue → RightValue → RightValue
arithmetic_in at op its left right =
    tree.arithmetic (head_at at (integer_id its)) op its (as_kind at its left) (as_kind at its right)

-- if both are numbers
abbrev pub in_common_of : TypeTable → Place → Arithmetic → RightValue → RightValue → Result RightValue OperandEnd
in_common_of types at op left right =
    with_numbers at (number_kind types (type_of left)) (number_kind types (type_of right))
    (λ first second. arithmetic_in at op (common first second) left right)

-- 3.3.7: each operand is promoted by itself, and the result is of the left one's type
abbrev pub shift_of : TypeTable → Place → Arithmetic → RightValue → RightValue → Result RightValue OperandEnd
shift_of types at op left right =
    with_numbers at (number_kind types (type_of left)) (number_kind types (type_of right))
    (λ first second.
    tree.arithmetic (head_at at (integer_id (promoted first))) op (promoted first) (as_kind at (promoted first) left)
    (as_kind at (promoted second) right))

-- 3.3.7
abbrev pub is_shift : Arithmetic → Bool
is_shift operator.ShiftLeft = true
is_shift operator.ShiftRight = true
is_shift operator.Multiply = false
is_shift operator.Divide = false
is_shift operator.Remainder = false
is_shift operator.Add = false
is_shift operator.Subtract = false
is_shift operator.BitAnd = false
is_shift operator.BitXor = false
is_shift operator.BitOr = false

-- an operation on two numbers
abbrev pub arithmetic_of : TypeTable → Place → Arithmetic → RightValue → RightValue → Result RightValue OperandEnd
arithmetic_of types at its left right = if is_shift its then shift_of types at its left right else in_common_of types at its left right

-- 3.3.8 and 3.3.9: in the common type; the result is an int
abbrev pub comparison_in : Place → Comparison → Integer → RightValue → RightValue → RightValue
comparison_in at op its left right =
    tree.comparison (head_at at (integer_id kind.Int)) op its (as_kind at its left) (as_kind at its right)

-- if both are numbers
abbrev pub comparison_of : TypeTable → Place → Comparison → RightValue → RightValue → Result RightValue OperandEnd
comparison_of types at op left right =
    with_numbers at (number_kind types (type_of left)) (number_kind types (type_of right))
    (λ first second. comparison_in at op (common first second) left right)

-- 3.3.3.3
abbrev pub not_of : TypeTable → Place → RightValue → Result RightValue OperandEnd
not_of types at e = do
  test ← truth types at e
  Ok (tree.not (head_at at (integer_id kind.Int)) test)

-- 3.3.13 and 3.3.14: the left operand is tried first
abbrev pub and_of : TypeTable → Place → RightValue → RightValue → Result RightValue OperandEnd
and_of types at left right = do
  first ← truth types at left
  second ← truth types at right
  Ok (tree.and (head_at at (integer_id kind.Int)) first second)

-- 3.3.14
abbrev pub or_of : TypeTable → Place → RightValue → RightValue → Result RightValue OperandEnd
or_of types at left right = do
  first ← truth types at left
  second ← truth types at right
  Ok (tree.or (head_at at (integer_id kind.Int)) first second)
