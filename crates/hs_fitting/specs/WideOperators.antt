-- Operators compute in promoted kinds (X3.159-1989 3.2.1): what they make of operands does, if the operands do.
--     MakesWide given                 what is given computes in promoted kinds
--     unary_wide, arithmetic_wide, .. one lemma for each operator
use Rattle.std.proofs.Common.{ℕ, ◌==◌, Bool, true, false, ◌&&◌, Option, Some, None, Result, Ok, if◌then◌else◌}
use Rattle.hs_base.specs.Tests.{whichever}
use Rattle.hs_fitting.specs.ConstantNumbers.{HasWideKinds, promoted_wide, common_wide}
use Rattle.hs_operand_types.specs.Answers.{◌>>=◌}
use Rattle.hs_operands.specs.Assignments.{assigned_number, assigned, assign_of, update_with, direction, advance_by, update_by, update_of, post_advance_by, post_update_by, post_update_of, cast_of, as_pointer}
use Rattle.hs_operand_types.specs.Constants.{is_null_constant}
use Rattle.hs_operand_types.specs.Conversions.{head_at, same_type, as_kind, truth}
use Rattle.hs_operands.specs.Laws.Made.{Makes, gives, refuses, gives_then}
use Rattle.hs_operands.specs.Objects.{spacing, size_by, size_number, size_of_operand}
use Rattle.hs_operand_types.specs.Operands as operand
use Rattle.hs_operand_types.specs.Operands.{TypedOperand}
use Rattle.hs_operands.specs.Operators.{with_number, with_numbers, unary_of, arithmetic_in, is_shift, arithmetic_of, comparison_in, comparison_of, not_of, and_of, or_of}
use Rattle.hs_operands.specs.Pointers.{are_numbers, stepped, plus_of, apart, difference_by, minus_of, may_be_compared, is_equality, is_nil_test, nil_test, compared}
use Rattle.hs_operand_types.specs.Types.{are_compatible, is_accessible}
use Rattle.hs_operand_types.specs.declared.operand_end.OperandEnd.{OperandEnd}
use Rattle.hs_tokens.specs.declared.place.Place.{Place}
use Rattle.hs_tree.specs.Kinds.{number_kind, is_number, is_pointer, is_scalar, is_readable, is_void, pointed, size_at}
use Rattle.hs_tree.specs.Trees as tree
use Rattle.hs_tree.specs.Trees.{RightValue, LeftValue, type_of, type_of_left}
use Rattle.hs_tree.specs.declared.operators.Arithmetic.{Arithmetic}
use Rattle.hs_tree.specs.declared.operators.Arithmetic.TheVariants as arithmetic
use Rattle.hs_tree.specs.declared.operators.Comparison.{Comparison}
use Rattle.hs_tree.specs.declared.operators.Unary.{Unary}
use Rattle.hs_types.specs.Integers.{promoted, common}
use Rattle.hs_types.specs.Rows.{integer_id}
use Rattle.hs_types.specs.TypeTables.{TypeTable, layout_of, is_complete}
use Rattle.hs_types.specs.declared.integer.Integer.{Integer}
use Rattle.hs_types.specs.declared.integer.Integer.TheVariants as kind
use Rattle.hs_types.specs.declared.layout.Layout.{Layout}
use Rattle.hs_types.specs.declared.row.TypeId.{TypeId}

-- what is given computes in promoted kinds
abbrev pub MakesWide : Result RightValue OperandEnd → Type 0
MakesWide given = Makes HasWideKinds given

-- an operand that is a number, and two
number_makes : (at : Place) (o : Option Integer) (make : Integer → RightValue) → ((its : Integer) → HasWideKinds (make its))
    → MakesWide (with_number at o make)
number_makes at None make is = refuses HasWideKinds at
number_makes at (Some its) make is = gives HasWideKinds (make its) (is its)

numbers_make : (at : Place) (o p : Option Integer) (make : Integer → Integer → RightValue)
    → ((first second : Integer) → HasWideKinds (make first second)) → MakesWide (with_numbers at o p make)
numbers_make at None p make is = refuses HasWideKinds at
numbers_make at (Some first) p make is = number_makes at p (make first) (is first)

-- a number that is wanted as one of a kind, and a pointer as one of a type
pub kind_wide : (at : Place) (its : Integer) (e : RightValue) → HasWideKinds e → HasWideKinds (as_kind at its e)
kind_wide at its e is = whichever HasWideKinds (same_type (type_of e) (integer_id its)) is is

pub pointer_wide : (at : Place) (id : TypeId) (e : RightValue) → HasWideKinds e → HasWideKinds (as_pointer at id e)
pointer_wide at id e is = whichever HasWideKinds (same_type (type_of e) id) is tt

module _ (types : TypeTable) where
  -- numbers
  pub unary_wide : (at : Place) (op : Unary) (e : RightValue) → MakesWide (unary_of types at op e)
  unary_wide at op e =
      number_makes at (number_kind types (type_of e))
      (λ its. tree.unary (head_at at (integer_id (promoted its))) op (promoted its) (as_kind at (promoted its) e)) (λ its. promoted_wide its)

  pub arithmetic_wide : (at : Place) (op : Arithmetic) (a b : RightValue) → MakesWide (arithmetic_of types at op a b)
  arithmetic_wide at op a b =
      whichever MakesWide (is_shift op)
      (numbers_make at (number_kind types (type_of a)) (number_kind types (type_of b))
      (λ first second.
      tree.arithmetic (head_at at (integer_id (promoted first))) op (promoted first) (as_kind at (promoted first) a)
      (as_kind at (promoted second) b))
      (λ first second. promoted_wide first))
      (numbers_make at (number_kind types (type_of a)) (number_kind types (type_of b))
      (λ first second. arithmetic_in at op (common first second) a b) (λ first second. common_wide first second))

  comparison_wide : (at : Place) (op : Comparison) (a b : RightValue) → MakesWide (comparison_of types at op a b)
  comparison_wide at op a b =
      numbers_make at (number_kind types (type_of a)) (number_kind types (type_of b))
      (λ first second. comparison_in at op (common first second) a b) (λ first second. tt)

  -- conditions
  pub not_wide : (at : Place) (e : RightValue) → MakesWide (not_of types at e)
  not_wide at e =
      gives_then HasWideKinds (truth types at e) (λ test. Ok (tree.not (head_at at (integer_id kind.Int)) test))
      (λ test given. gives HasWideKinds (tree.not (head_at at (integer_id kind.Int)) test) tt)

  both_wide : (at : Place) (make : RightValue → RightValue → RightValue) (a b : RightValue)
      → ((first second : RightValue) → HasWideKinds (make first second))
      → MakesWide (truth types at a >>= (λ first. truth types at b >>= (λ second. Ok (make first second))))
  both_wide at make a b is =
      gives_then HasWideKinds (truth types at a) (λ first. truth types at b >>= (λ second. Ok (make first second)))
      (λ first given. gives_then HasWideKinds (truth types at b) (λ second. Ok (make first second))
      (λ second given'. gives HasWideKinds (make first second) (is first second)))

  pub and_wide : (at : Place) (a b : RightValue) → MakesWide (and_of types at a b)
  and_wide at a b = both_wide at (tree.and (head_at at (integer_id kind.Int))) a b (λ first second. tt)

  pub or_wide : (at : Place) (a b : RightValue) → MakesWide (or_of types at a b)
  or_wide at a b = both_wide at (tree.or (head_at at (integer_id kind.Int))) a b (λ first second. tt)

  -- pointers
  stepped_wide : (o : _) (at : Place) (backward : Bool) (a b : RightValue) → MakesWide (stepped at backward a b o)
  stepped_wide None at backward a b = refuses HasWideKinds at
  stepped_wide (Some it) at backward a b =
      gives HasWideKinds
      (tree.step (head_at at (if it.pointer_first then type_of a else type_of b)) (record { size = it.size; backward = backward }) it.pointer_first a b)
      tt

  pub plus_wide : (at : Place) (a b : RightValue) → MakesWide (plus_of types at a b)
  plus_wide at a b =
      whichever MakesWide (are_numbers types a b) (arithmetic_wide at arithmetic.Add a b) (stepped_wide (spacing types (type_of a) (type_of b)) at false a b)

  apart_wide : (o p : Option Layout) (at : Place) (a b : RightValue) → MakesWide (apart at a b o p)
  apart_wide None p at a b = refuses HasWideKinds at
  apart_wide (Some first) None at a b = refuses HasWideKinds at
  apart_wide (Some first) (Some second) at a b =
      whichever MakesWide (first.size == second.size)
      (gives HasWideKinds (tree.difference (head_at at (integer_id kind.Long)) first.size a b) tt) (refuses HasWideKinds at)

  difference_wide : (o p : Option TypeId) (at : Place) (a b : RightValue) → MakesWide (difference_by types at a b o p)
  difference_wide None p at a b = refuses HasWideKinds at
  difference_wide (Some first) None at a b = refuses HasWideKinds at
  difference_wide (Some first) (Some second) at a b =
      whichever MakesWide (are_compatible types first second) (apart_wide (layout_of types first) (layout_of types second) at a b)
      (refuses HasWideKinds at)

  pub minus_wide : (at : Place) (a b : RightValue) → MakesWide (minus_of types at a b)
  minus_wide at a b =
      whichever MakesWide (are_numbers types a b) (arithmetic_wide at arithmetic.Subtract a b)
      (whichever MakesWide (is_number types (type_of b)) (stepped_wide (spacing types (type_of a) (type_of b)) at true a b)
      (difference_wide (pointed types (type_of a)) (pointed types (type_of b)) at a b))

  pub compared_wide : (at : Place) (op : Comparison) (a b : RightValue) → MakesWide (compared types at op a b)
  compared_wide at op a b =
      whichever MakesWide (are_numbers types a b) (comparison_wide at op a b)
      (whichever MakesWide (is_nil_test types op a b) (gives HasWideKinds (nil_test at op a) tt)
      (whichever MakesWide (is_nil_test types op b a) (gives HasWideKinds (nil_test at op b) tt)
      (whichever MakesWide (may_be_compared types (is_equality op) (pointed types (type_of a)) (pointed types (type_of b)))
      (gives HasWideKinds (tree.compare_pointers (head_at at (integer_id kind.Int)) op a b) tt) (refuses HasWideKinds at))))

  -- sizes
  pub size_number_wide : (at : Place) (id : TypeId) → MakesWide (size_number types at id)
  size_number_wide at id = by (layout_of types id)
    where
      by : (o : Option Layout) → MakesWide (size_by at o)
      by None = refuses HasWideKinds at
      by (Some layout) = gives HasWideKinds (tree.number (head_at at (integer_id kind.UnsignedLong)) layout.size) tt

  pub size_wide : (at : Place) (it : TypedOperand) → MakesWide (size_of_operand types at it)
  size_wide at (operand.value e) = size_number_wide at (type_of e)
  size_wide at (operand.object it) = size_number_wide at (type_of_left it)
  size_wide at (operand.function it) = refuses HasWideKinds it.head.at

  -- conversions as by assignment
  number_assigned : (o : Option Integer) (b : Bool) (at : Place) (id : TypeId) (e : RightValue) → HasWideKinds e
      → MakesWide (assigned_number at id o b e)
  number_assigned None b at id e is = refuses HasWideKinds at
  number_assigned (Some its) true at id e is = gives HasWideKinds (tree.convert_number (head_at at id) its e) is
  number_assigned (Some its) false at id e is = refuses HasWideKinds at

  pub assigned_wide : (at : Place) (id : TypeId) (e : RightValue) → HasWideKinds e → MakesWide (assigned types at id e)
  assigned_wide at id e is =
      whichever MakesWide (same_type (type_of e) id && is_readable types id) (gives HasWideKinds e is)
      (whichever MakesWide (is_pointer types id)
      (whichever MakesWide (is_null_constant types e) (gives HasWideKinds (tree.nil (head_at at id)) tt)
      (whichever MakesWide (is_pointer types (type_of e)) (gives HasWideKinds (tree.convert_pointer (head_at at id) e) tt)
      (refuses HasWideKinds at)))
      (number_assigned (number_kind types id) (is_number types (type_of e)) at id e is))

  pub assign_wide : (at : Place) (it : LeftValue) (e : RightValue) → MakesWide (assign_of types at it e)
  assign_wide at it e =
      whichever MakesWide (is_accessible types (type_of_left it))
      (gives_then HasWideKinds (assigned types at (type_of_left it) e)
      (λ converted. Ok (tree.assign (head_at at (type_of_left it)) it converted))
      (λ converted given. gives HasWideKinds (tree.assign (head_at at (type_of_left it)) it converted) tt)) (refuses HasWideKinds at)

  advance_wide : (way : Option Bool) (o : Option ℕ) (at : Place) (it : LeftValue) (e : RightValue) → MakesWide (advance_by at way o it e)
  advance_wide None o at it e = refuses HasWideKinds at
  advance_wide (Some backward) None at it e = refuses HasWideKinds at
  advance_wide (Some backward) (Some size) at it e =
      gives HasWideKinds (tree.advance (head_at at (type_of_left it)) (record { size = size; backward = backward }) it e) tt

  update_by_wide : (o p : Option Integer) (at : Place) (op : Arithmetic) (it : LeftValue) (e : RightValue)
      → MakesWide (update_by types at op o p it e)
  update_by_wide o None at op it e = refuses HasWideKinds at
  update_by_wide (Some to) (Some its) at op it e =
      gives HasWideKinds (update_with at op to its it e) (whichever HasWideKinds (is_shift op) tt tt)
  update_by_wide None (Some its) at op it e = advance_wide (direction op) (size_at types (pointed types (type_of_left it))) at it e

  pub update_wide : (at : Place) (op : Arithmetic) (it : LeftValue) (e : RightValue) → MakesWide (update_of types at op it e)
  update_wide at op it e =
      whichever MakesWide (is_accessible types (type_of_left it))
      (update_by_wide (number_kind types (type_of_left it)) (number_kind types (type_of e)) at op it e) (refuses HasWideKinds at)

  post_advance_wide : (way : Option Bool) (o : Option ℕ) (at : Place) (it : LeftValue) → MakesWide (post_advance_by at way o it)
  post_advance_wide None o at it = refuses HasWideKinds at
  post_advance_wide (Some backward) None at it = refuses HasWideKinds at
  post_advance_wide (Some backward) (Some size) at it =
      gives HasWideKinds (tree.post_advance (head_at at (type_of_left it)) (record { size = size; backward = backward }) it) tt

  post_by_wide : (o : Option Integer) (at : Place) (op : Arithmetic) (it : LeftValue) → MakesWide (post_update_by types at op o it)
  post_by_wide (Some to) at op it = gives HasWideKinds (tree.post_update (head_at at (type_of_left it)) op (common to kind.Int) to it) tt
  post_by_wide None at op it = post_advance_wide (direction op) (size_at types (pointed types (type_of_left it))) at it

  pub post_wide : (at : Place) (op : Arithmetic) (it : LeftValue) → MakesWide (post_update_of types at op it)
  post_wide at op it =
      whichever MakesWide (is_accessible types (type_of_left it)) (post_by_wide (number_kind types (type_of_left it)) at op it)
      (refuses HasWideKinds at)

  pub cast_wide : (at : Place) (id : TypeId) (e : RightValue) → HasWideKinds e → MakesWide (cast_of types at id e)
  cast_wide at id e is =
      whichever MakesWide (is_void types id) (gives HasWideKinds (tree.cast (head_at at id) e) is)
      (whichever MakesWide (is_scalar types id && is_complete types id)
      (gives_then HasWideKinds (assigned types at id e) (λ converted. Ok (tree.cast (head_at at id) converted))
      (λ converted given. gives HasWideKinds (tree.cast (head_at at id) converted) (assigned_wide at id e is converted given)))
      (refuses HasWideKinds at))
