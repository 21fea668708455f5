-- Constant expressions (X3.159-1989 3.4) and null pointer constants (3.2.2.3), of typed expressions.
--     constant_value types e          the value of an integral constant expression, if the expression is one
--     is_null_constant types e        the expression is a null pointer constant
use Rattle.std.specs.Prelude.{ℕ, ◌==◌, Bool, true, false, not, ◌&&◌, ◌||◌, Option, Some, None, option_map}
use Rattle.hs_constants.specs.Arithmetic.{unary_value, binary_value, chosen}
use Rattle.hs_constants.specs.declared.operator.Binary.{Binary}
use Rattle.hs_constants.specs.declared.operator.Binary.TheVariants as binary
use Rattle.hs_constants.specs.declared.operator.Unary as folded
use Rattle.hs_constants.specs.declared.operator.Unary.TheVariants as unary
use Rattle.hs_constants.specs.declared.value.Value.{Value}
use Rattle.hs_tree.specs.Kinds.{number_kind, is_number, is_void, pointed}
use Rattle.hs_tree.specs.Trees as tree
use Rattle.hs_tree.specs.Trees.{RightValue}
use Rattle.hs_tree.specs.declared.operators.Arithmetic.{Arithmetic}
use Rattle.hs_tree.specs.declared.operators.Arithmetic.TheVariants as arithmetic
use Rattle.hs_tree.specs.declared.operators.Comparison.{Comparison}
use Rattle.hs_tree.specs.declared.operators.Comparison.TheVariants as comparison
use Rattle.hs_tree.specs.declared.operators.Unary as typed
use Rattle.hs_tree.specs.declared.operators.Unary.TheVariants as sign
use Rattle.hs_types.specs.Integers.{is_signed, converted}
use Rattle.hs_types.specs.TypeTables.{TypeTable}
use Rattle.hs_types.specs.declared.integer.Integer.{Integer}
use Rattle.hs_types.specs.declared.row.TypeId.{TypeId}

-- the operators of constants that those of typed expressions are
abbrev pub folded_unary : typed.Unary → folded.Unary
folded_unary sign.Plus = unary.Plus
folded_unary sign.Minus = unary.Minus
folded_unary sign.Complement = unary.Complement

-- between two numbers
abbrev pub folded_arithmetic : Arithmetic → Binary
folded_arithmetic arithmetic.Multiply = binary.Multiply
folded_arithmetic arithmetic.Divide = binary.Divide
folded_arithmetic arithmetic.Remainder = binary.Remainder
folded_arithmetic arithmetic.Add = binary.Add
folded_arithmetic arithmetic.Subtract = binary.Subtract
folded_arithmetic arithmetic.ShiftLeft = binary.ShiftLeft
folded_arithmetic arithmetic.ShiftRight = binary.ShiftRight
folded_arithmetic arithmetic.BitAnd = binary.BitAnd
folded_arithmetic arithmetic.BitXor = binary.BitXor
folded_arithmetic arithmetic.BitOr = binary.BitOr

-- and of comparisons
abbrev pub folded_comparison : Comparison → Binary
folded_comparison comparison.Less = binary.Less
folded_comparison comparison.Greater = binary.Greater
folded_comparison comparison.LessEqual = binary.LessEqual
folded_comparison comparison.GreaterEqual = binary.GreaterEqual
folded_comparison comparison.Equal = binary.Equal
folded_comparison comparison.NotEqual = binary.NotEqual

-- a number of that kind
abbrev pub number_value : Option Integer → ℕ → Option Value
number_value None bits = None
number_value (Some kind) bits = Some (record { bits = bits; unsigned = not (is_signed kind); fails = false })

-- 3.2.1.2
abbrev pub converted_value : Integer → Value → Value
converted_value kind value = record { bits = converted kind value.bits; unsigned = not (is_signed kind); fails = value.fails }

-- both operands are constants
abbrev pub of_both : (Value → Value → Value) → Option Value → Option Value → Option Value
of_both make None second = None
of_both make (Some first) None = None
of_both make (Some first) (Some second) = Some (make first second)

-- the test and both branches are (3.3.15)
abbrev pub of_chosen : Option Value → Option Value → Option Value → Option Value
of_chosen None first second = None
of_chosen (Some test) first second = of_both (chosen test) first second

-- a cast to a number (3.4)
abbrev pub cast_value : Bool → Option Value → Option Value
cast_value true value = value
cast_value false value = None

-- 3.4: constants and the sizes that `sizeof` gives, under operators and casts to numbers, and nothing else. A value is computed also
-- if it is not evaluated: it says whether its evaluation divides by 0.
abbrev pub constant_value : TypeTable → RightValue → Option Value
constant_value types (tree.number head bits) = number_value (number_kind types head.type_id) bits
constant_value types (tree.nil head) = None
constant_value types (tree.load head object) = None
constant_value types (tree.decay head array) = None
constant_value types (tree.address head object) = None
constant_value types (tree.cast head operand) = cast_value (is_number types head.type_id) (constant_value types operand)
constant_value types (tree.convert_number head kind operand) = option_map (converted_value kind) (constant_value types operand)
constant_value types (tree.convert_pointer head operand) = None
constant_value types (tree.unary head operator kind operand) = option_map (unary_value (folded_unary operator)) (constant_value types operand)
constant_value types (tree.not head operand) = option_map (unary_value unary.Not) (constant_value types operand)
constant_value types (tree.arithmetic head operator kind a b) =
    of_both (binary_value (folded_arithmetic operator)) (constant_value types a) (constant_value types b)
constant_value types (tree.comparison head operator kind a b) =
    of_both (binary_value (folded_comparison operator)) (constant_value types a) (constant_value types b)
constant_value types (tree.compare_pointers head operator a b) = None
constant_value types (tree.is_nil head equal pointer) = None
constant_value types (tree.step head stride pointer_first a b) = None
constant_value types (tree.difference head size a b) = None
constant_value types (tree.and head a b) = of_both (binary_value binary.And) (constant_value types a) (constant_value types b)
constant_value types (tree.or head a b) = of_both (binary_value binary.Or) (constant_value types a) (constant_value types b)
constant_value types (tree.conditional head test taken otherwise) =
    of_chosen (constant_value types test) (constant_value types taken) (constant_value types otherwise)
constant_value types (tree.comma head lefts last) = None
constant_value types (tree.assign head into from) = None
constant_value types (tree.update head operator kind to into from) = None
constant_value types (tree.advance head stride into from) = None
constant_value types (tree.post_update head operator kind to into) = None
constant_value types (tree.post_advance head stride into) = None
constant_value types (tree.call head number routine arguments) = None
constant_value types (tree.call_routine head routine arguments) = None

-- 0, and nothing is divided by 0
abbrev pub is_zero : Option Value → Bool
is_zero None = false
is_zero (Some value) = (value.bits == 0) && not value.fails

-- the null pointer itself
abbrev pub is_nil : RightValue → Bool
is_nil (tree.nil head) = true
is_nil (tree.number head bits) = false
is_nil (tree.load head object) = false
is_nil (tree.decay head array) = false
is_nil (tree.address head object) = false
is_nil (tree.cast head operand) = false
is_nil (tree.convert_number head kind operand) = false
is_nil (tree.convert_pointer head operand) = false
is_nil (tree.unary head operator kind operand) = false
is_nil (tree.not head operand) = false
is_nil (tree.arithmetic head operator kind a b) = false
is_nil (tree.comparison head operator kind a b) = false
is_nil (tree.compare_pointers head operator a b) = false
is_nil (tree.is_nil head equal pointer) = false
is_nil (tree.step head stride pointer_first a b) = false
is_nil (tree.difference head size a b) = false
is_nil (tree.and head a b) = false
is_nil (tree.or head a b) = false
is_nil (tree.conditional head test taken otherwise) = false
is_nil (tree.comma head lefts last) = false
is_nil (tree.assign head into from) = false
is_nil (tree.update head operator kind to into from) = false
is_nil (tree.advance head stride into from) = false
is_nil (tree.post_update head operator kind to into) = false
is_nil (tree.post_advance head stride into) = false
is_nil (tree.call head number routine arguments) = false
is_nil (tree.call_routine head routine arguments) = false

-- a pointer to void
abbrev pub points_to_void : TypeTable → Option TypeId → Bool
points_to_void types None = false
points_to_void types (Some of) = is_void types of

-- `(void *)0`: the conversion of a constant 0 is the null pointer itself
abbrev pub is_cast_to_void : TypeTable → RightValue → Bool
is_cast_to_void types (tree.cast head operand) = points_to_void types (pointed types head.type_id) && is_nil operand
is_cast_to_void types (tree.nil head) = false
is_cast_to_void types (tree.number head bits) = false
is_cast_to_void types (tree.load head object) = false
is_cast_to_void types (tree.decay head array) = false
is_cast_to_void types (tree.address head object) = false
is_cast_to_void types (tree.convert_number head kind operand) = false
is_cast_to_void types (tree.convert_pointer head operand) = false
is_cast_to_void types (tree.unary head operator kind operand) = false
is_cast_to_void types (tree.not head operand) = false
is_cast_to_void types (tree.arithmetic head operator kind a b) = false
is_cast_to_void types (tree.comparison head operator kind a b) = false
is_cast_to_void types (tree.compare_pointers head operator a b) = false
is_cast_to_void types (tree.is_nil head equal pointer) = false
is_cast_to_void types (tree.step head stride pointer_first a b) = false
is_cast_to_void types (tree.difference head size a b) = false
is_cast_to_void types (tree.and head a b) = false
is_cast_to_void types (tree.or head a b) = false
is_cast_to_void types (tree.conditional head test taken otherwise) = false
is_cast_to_void types (tree.comma head lefts last) = false
is_cast_to_void types (tree.assign head into from) = false
is_cast_to_void types (tree.update head operator kind to into from) = false
is_cast_to_void types (tree.advance head stride into from) = false
is_cast_to_void types (tree.post_update head operator kind to into) = false
is_cast_to_void types (tree.post_advance head stride into) = false
is_cast_to_void types (tree.call head number routine arguments) = false
is_cast_to_void types (tree.call_routine head routine arguments) = false

-- 3.2.2.3: an integral constant expression with the value 0, or such an expression cast to `void *`
abbrev pub is_null_constant : TypeTable → RightValue → Bool
is_null_constant types e = is_zero (constant_value types e) || is_cast_to_void types e
