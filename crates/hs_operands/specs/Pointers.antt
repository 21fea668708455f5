-- Operators on pointers, and on numbers or pointers (X3.159-1989 3.3.6, 3.3.8 and 3.3.9). Each has the place of its operator.
--     plus_of types at a b               `a + b`
--     minus_of types at a b              `a - b`
--     compared types at op a b           `a < b`, `a == b` and the others
use Rattle.std.specs.Prelude.{◌==◌, Bool, true, false, ◌&&◌, ◌||◌, not, Option, Some, None, Result, Ok, Err, if◌then◌else◌}
use Rattle.hs_tokens.specs.declared.place.Place.{Place}
use Rattle.hs_operand_types.specs.Constants.{is_null_constant}
use Rattle.hs_operand_types.specs.Conversions.{head_at}
use Rattle.hs_operands.specs.Objects.{spacing}
use Rattle.hs_operands.specs.Operators.{arithmetic_of, comparison_of}
use Rattle.hs_operand_types.specs.Types.{are_compatible}
use Rattle.hs_operand_types.specs.declared.operand_end.OperandEnd.{OperandEnd}
use Rattle.hs_operand_types.specs.declared.operand_end.OperandEnd.TheVariants.{Untyped}
use Rattle.hs_operands.specs.declared.spacing.Spacing.{Spacing}
use Rattle.hs_tree.specs.Kinds.{is_number, is_pointer, is_void, pointed}
use Rattle.hs_tree.specs.Trees as tree
use Rattle.hs_tree.specs.Trees.{RightValue, type_of}
use Rattle.hs_tree.specs.declared.operators.Arithmetic.TheVariants as arithmetic
use Rattle.hs_tree.specs.declared.operators.Comparison.{Comparison}
use Rattle.hs_tree.specs.declared.operators.Comparison.TheVariants as comparison
use Rattle.hs_types.specs.Rows.{integer_id}
use Rattle.hs_types.specs.TypeTables.{TypeTable, layout_of, is_complete}
use Rattle.hs_types.specs.declared.integer.Integer.TheVariants as kind
use Rattle.hs_types.specs.declared.layout.Layout.{Layout}
use Rattle.hs_types.specs.declared.row.TypeId.{TypeId}

-- both operands are numbers
abbrev pub are_numbers : TypeTable → RightValue → RightValue → Bool
are_numbers types a b = is_number types (type_of a) && is_number types (type_of b)

-- a pointer and a number; the result is of the pointer's type
abbrev pub stepped : Place → Bool → RightValue → RightValue → Option Spacing → Result RightValue OperandEnd
stepped at backward a b None = Err (Untyped at)
stepped at backward a b (Some it) =
    Ok
    (tree.step (head_at at (if it.pointer_first then type_of a else type_of b)) (record { size = it.size; backward = backward }) it.pointer_first a b)

-- 3.3.6
abbrev pub plus_of : TypeTable → Place → RightValue → RightValue → Result RightValue OperandEnd
plus_of types at a b =
    if are_numbers types a b then arithmetic_of types at arithmetic.Add a b else stepped at false a b (spacing types (type_of a) (type_of b))

-- the objects that two pointers point to have one size
abbrev pub apart : Place → RightValue → RightValue → Option Layout → Option Layout → Result RightValue OperandEnd
apart at a b None second = Err (Untyped at)
apart at a b (Some first) None = Err (Untyped at)
apart at a b (Some first) (Some second) =
    if first.size == second.size then Ok (tree.difference (head_at at (integer_id kind.Long)) first.size a b) else Err (Untyped at)

-- pointers to compatible types that are complete; a difference is a long (own; C leaves it open)
abbrev pub difference_by : TypeTable → Place → RightValue → RightValue → Option TypeId → Option TypeId → Result RightValue OperandEnd
difference_by types at a b None second = Err (Untyped at)
difference_by types at a b (Some first) None = Err (Untyped at)
difference_by types at a b (Some first) (Some second) =
    if are_compatible types first second then apart at a b (layout_of types first) (layout_of types second) else Err (Untyped at)

-- 3.3.6: numbers, a pointer and a number, or two pointers
abbrev pub minus_of : TypeTable → Place → RightValue → RightValue → Result RightValue OperandEnd
minus_of types at a b =
    if are_numbers types a b then arithmetic_of types at arithmetic.Subtract a b
    else if is_number types (type_of b) then stepped at true a b (spacing types (type_of a) (type_of b))
    else difference_by types at a b (pointed types (type_of a)) (pointed types (type_of b))

-- equal or not, and not an order
abbrev pub is_equality : Comparison → Bool
is_equality comparison.Less = false
is_equality comparison.Greater = false
is_equality comparison.LessEqual = false
is_equality comparison.GreaterEqual = false
is_equality comparison.Equal = true
is_equality comparison.NotEqual = true

-- `==`
abbrev pub is_equal : Comparison → Bool
is_equal comparison.Less = false
is_equal comparison.Greater = false
is_equal comparison.LessEqual = false
is_equal comparison.GreaterEqual = false
is_equal comparison.Equal = true
is_equal comparison.NotEqual = false

-- 3.3.9: pointers to compatible types can be tested for equality, and a pointer to void with any pointer
abbrev pub may_be_equal : TypeTable → TypeId → TypeId → Bool
may_be_equal types first second = are_compatible types first second || is_void types first || is_void types second

-- 3.1.2.5: both types are complete, or both are incomplete
abbrev pub are_equally_complete : TypeTable → TypeId → TypeId → Bool
are_equally_complete types first second = if is_complete types first then is_complete types second else not (is_complete types second)

-- 3.3.8: pointers have an order if they point to compatible object types, or to compatible incomplete types
abbrev pub have_order : TypeTable → TypeId → TypeId → Bool
have_order types first second = are_compatible types first second && are_equally_complete types first second

-- two pointers, by what they point to
abbrev pub may_be_compared : TypeTable → Bool → Option TypeId → Option TypeId → Bool
may_be_compared types equality None second = false
may_be_compared types equality (Some first) None = false
may_be_compared types equality (Some first) (Some second) =
    if equality then may_be_equal types first second else have_order types first second

-- two pointers
abbrev pub pointers_compared : TypeTable → Place → Comparison → RightValue → RightValue → Result RightValue OperandEnd
pointers_compared types at op a b =
    if may_be_compared types (is_equality op) (pointed types (type_of a)) (pointed types (type_of b))
    then Ok (tree.compare_pointers (head_at at (integer_id kind.Int)) op a b)
    else Err (Untyped at)

-- a pointer and a null pointer constant
abbrev pub is_nil_test : TypeTable → Comparison → RightValue → RightValue → Bool
is_nil_test types op e null = is_equality op && is_pointer types (type_of e) && is_null_constant types null

-- whether it is the null pointer
abbrev pub nil_test : Place → Comparison → RightValue → RightValue
nil_test at op e = tree.is_nil (head_at at (integer_id kind.Int)) (is_equal op) e

-- 3.3.8 and 3.3.9: numbers; a pointer and a null pointer constant, on either side; two pointers
abbrev pub compared : TypeTable → Place → Comparison → RightValue → RightValue → Result RightValue OperandEnd
compared types at op a b =
    if are_numbers types a b then comparison_of types at op a b
    else if is_nil_test types op a b then Ok (nil_test at op a)
    else if is_nil_test types op b a then Ok (nil_test at op b)
    else pointers_compared types at op a b
