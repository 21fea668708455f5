-- Integral constant expressions as a relation (X3.159-1989 3.4): what they are made of, each with its value by the arithmetic of
-- `hs_constants`. An expression has at most one value.
--     IsConstant types e value        the expression is a constant expression of that value
--     ConstantsAreFolded              exactly these have a value, and it is this one
use Rattle.std.specs.Prelude.{◌≡◌, ℕ, Bool, true, false, not, Option, Some, None, option_map}
use Rattle.std.proofs.Common.{refl, subst}
use Rattle.hs_constants.specs.Arithmetic.{unary_value, binary_value, chosen}
use Rattle.hs_constants.specs.declared.operator.Binary.TheVariants as binary
use Rattle.hs_constants.specs.declared.operator.Unary.TheVariants as unary
use Rattle.hs_constants.specs.declared.value.Value.{Value}
use Rattle.hs_operand_types.specs.Constants.{folded_unary, folded_arithmetic, folded_comparison, number_value, converted_value, of_both, of_chosen, cast_value, constant_value}
use Rattle.hs_tree.specs.Kinds.{number_kind, is_number}
use Rattle.hs_tree.specs.Trees as tree
use Rattle.hs_tree.specs.Trees.{RightValue}
use Rattle.hs_tree.specs.declared.head.Head.{Head}
use Rattle.hs_tree.specs.declared.operators.Arithmetic.{Arithmetic}
use Rattle.hs_tree.specs.declared.operators.Comparison.{Comparison}
use Rattle.hs_tree.specs.declared.operators.Unary.{Unary}
use Rattle.hs_types.specs.Integers.{is_signed}
use Rattle.hs_types.specs.TypeTables.{TypeTable}
use Rattle.hs_types.specs.declared.integer.Integer.{Integer}

-- a number of that kind, in which nothing is divided
abbrev pub plain_value : Integer → ℕ → Value
plain_value kind bits = record { bits = bits; unsigned = not (is_signed kind); fails = false }

pub data IsConstant (types : TypeTable) : RightValue → Value → Type 0 where
  -- a constant, and what `sizeof` gives (3.1.3 and 3.3.3.4)
  a_number : (head : Head) (bits : ℕ) (kind : Integer) → number_kind types head.type_id ≡ Some kind
      → IsConstant types (tree.number head bits) (plain_value kind bits)
  -- 3.2.1
  a_conversion : (head : Head) (kind : Integer) (e : RightValue) (value : Value) → IsConstant types e value
      → IsConstant types (tree.convert_number head kind e) (converted_value kind value)
  -- 3.3.4: to a number
  a_cast : (head : Head) (e : RightValue) (value : Value) → is_number types head.type_id ≡ true → IsConstant types e value
      → IsConstant types (tree.cast head e) value
  -- 3.3.3.3
  a_sign : (head : Head) (operator : Unary) (kind : Integer) (e : RightValue) (value : Value) → IsConstant types e value
      → IsConstant types (tree.unary head operator kind e) (unary_value (folded_unary operator) value)
  a_negation : (head : Head) (e : RightValue) (value : Value) → IsConstant types e value
      → IsConstant types (tree.not head e) (unary_value unary.Not value)
  -- 3.3.5 to 3.3.14
  an_operation : (head : Head) (operator : Arithmetic) (kind : Integer) (a b : RightValue) (first second : Value) → IsConstant types a first
      → IsConstant types b second → IsConstant types (tree.arithmetic head operator kind a b) (binary_value (folded_arithmetic operator) first second)
  a_comparison : (head : Head) (operator : Comparison) (kind : Integer) (a b : RightValue) (first second : Value) → IsConstant types a first
      → IsConstant types b second → IsConstant types (tree.comparison head operator kind a b) (binary_value (folded_comparison operator) first second)
  a_conjunction : (head : Head) (a b : RightValue) (first second : Value) → IsConstant types a first → IsConstant types b second
      → IsConstant types (tree.and head a b) (binary_value binary.And first second)
  a_disjunction : (head : Head) (a b : RightValue) (first second : Value) → IsConstant types a first → IsConstant types b second
      → IsConstant types (tree.or head a b) (binary_value binary.Or first second)
  -- 3.3.15
  a_choice : (head : Head) (c a b : RightValue) (test first second : Value) → IsConstant types c test → IsConstant types a first
      → IsConstant types b second → IsConstant types (tree.conditional head c a b) (chosen test first second)

pub record ConstantsAreFolded : Type 0 where
  -- a constant expression has the value that is computed, and so no other one
  pub only : (types : TypeTable) (e : RightValue) (value : Value) → IsConstant types e value → constant_value types e ≡ Some value
  -- what has a value is a constant expression of it
  pub found : (types : TypeTable) (e : RightValue) (value : Value) → constant_value types e ≡ Some value → IsConstant types e value

-- by induction on what it is made of
only_value : (types : TypeTable) (e : RightValue) (value : Value) → IsConstant types e value → constant_value types e ≡ Some value
only_value types e value (a_number head bits kind is) = rw is refl
only_value types e value (a_conversion head kind inner its is) = rw (only_value types inner its is) refl
only_value types e value (a_cast head inner its number is) = rw (number, only_value types inner its is) refl
only_value types e value (a_sign head operator kind inner its is) = rw (only_value types inner its is) refl
only_value types e value (a_negation head inner its is) = rw (only_value types inner its is) refl
only_value types e value (an_operation head operator kind a b first second is other) =
    rw (only_value types a first is, only_value types b second other) refl
only_value types e value (a_comparison head operator kind a b first second is other) =
    rw (only_value types a first is, only_value types b second other) refl
only_value types e value (a_conjunction head a b first second is other) = rw (only_value types a first is, only_value types b second other) refl
only_value types e value (a_disjunction head a b first second is other) = rw (only_value types a first is, only_value types b second other) refl
only_value types e value (a_choice head c a b test first second that is other) =
    rw (only_value types c test that, only_value types a first is, only_value types b second other) refl

-- the value of a number
number-if : (types : TypeTable) (head : Head) (bits : ℕ) (value : Value) (o : Option Integer) → number_kind types head.type_id ≡ o
    → number_value o bits ≡ Some value → IsConstant types (tree.number head bits) value
number-if types head bits value None is given = absurd cc
number-if types head bits value (Some kind) is given =
    let same : plain_value kind bits ≡ value = cc in
    subst (IsConstant types (tree.number head bits)) same (a_number head bits kind is)

module _ (types : TypeTable) (whole : RightValue) (value : Value) where
  -- a form of one operand
  one-if : (f : Value → Value) (e : RightValue) (o : Option Value) → ((its : Value) → o ≡ Some its → IsConstant types whole (f its))
      → option_map f o ≡ Some value → IsConstant types whole value
  one-if f e None is given = absurd cc
  one-if f e (Some its) is given = let same : f its ≡ value = cc in subst (IsConstant types whole) same (is its refl)

  -- of two
  both-if : (f : Value → Value → Value) (o p : Option Value)
      → ((first second : Value) → o ≡ Some first → p ≡ Some second → IsConstant types whole (f first second)) → of_both f o p ≡ Some value
      → IsConstant types whole value
  both-if f None p is given = absurd cc
  both-if f (Some first) None is given = absurd cc
  both-if f (Some first) (Some second) is given =
      let same : f first second ≡ value = cc in
      subst (IsConstant types whole) same (is first second refl refl)

  -- of three
  chosen-if : (n o p : Option Value)
      → ((test first second : Value) → n ≡ Some test → o ≡ Some first → p ≡ Some second → IsConstant types whole (chosen test first second))
      → of_chosen n o p ≡ Some value → IsConstant types whole value
  chosen-if None o p is given = absurd cc
  chosen-if (Some test) o p is given = both-if (chosen test) o p (λ first second. is test first second refl) given

-- a cast to a number
cast-if : (types : TypeTable) (head : Head) (e : RightValue) (value : Value) (number : Bool) (o : Option Value) → is_number types head.type_id ≡ number
    → (o ≡ Some value → IsConstant types e value) → cast_value number o ≡ Some value → IsConstant types (tree.cast head e) value
cast-if types head e value true o is inner given = a_cast head e value is (inner given)
cast-if types head e value false o is inner given = absurd cc

-- by recursion on the expression
found_constant : (types : TypeTable) (e : RightValue) (value : Value) → constant_value types e ≡ Some value → IsConstant types e value
found_constant types (tree.number head bits) value given = number-if types head bits value (number_kind types head.type_id) refl given
found_constant types (tree.cast head e) value given =
    cast-if types head e value (is_number types head.type_id) (constant_value types e) refl (found_constant types e value) given
found_constant types (tree.convert_number head kind e) value given =
    one-if types (tree.convert_number head kind e) value (converted_value kind) e (constant_value types e)
    (λ its is. a_conversion head kind e its (found_constant types e its is)) given
found_constant types (tree.unary head operator kind e) value given =
    one-if types (tree.unary head operator kind e) value (unary_value (folded_unary operator)) e (constant_value types e)
    (λ its is. a_sign head operator kind e its (found_constant types e its is)) given
found_constant types (tree.not head e) value given =
    one-if types (tree.not head e) value (unary_value unary.Not) e (constant_value types e)
    (λ its is. a_negation head e its (found_constant types e its is)) given
found_constant types (tree.arithmetic head operator kind a b) value given =
    both-if types (tree.arithmetic head operator kind a b) value (binary_value (folded_arithmetic operator)) (constant_value types a)
    (constant_value types b)
    (λ first second is other. an_operation head operator kind a b first second (found_constant types a first is) (found_constant types b second other))
    given
found_constant types (tree.comparison head operator kind a b) value given =
    both-if types (tree.comparison head operator kind a b) value (binary_value (folded_comparison operator)) (constant_value types a)
    (constant_value types b)
    (λ first second is other. a_comparison head operator kind a b first second (found_constant types a first is) (found_constant types b second other))
    given
found_constant types (tree.and head a b) value given =
    both-if types (tree.and head a b) value (binary_value binary.And) (constant_value types a) (constant_value types b)
    (λ first second is other. a_conjunction head a b first second (found_constant types a first is) (found_constant types b second other)) given
found_constant types (tree.or head a b) value given =
    both-if types (tree.or head a b) value (binary_value binary.Or) (constant_value types a) (constant_value types b)
    (λ first second is other. a_disjunction head a b first second (found_constant types a first is) (found_constant types b second other)) given
found_constant types (tree.conditional head c a b) value given =
    chosen-if types (tree.conditional head c a b) value (constant_value types c) (constant_value types a) (constant_value types b)
    (λ test first second that is other.
    a_choice head c a b test first second (found_constant types c test that) (found_constant types a first is) (found_constant types b second other))
    given
found_constant types (tree.nil head) value given = absurd cc
found_constant types (tree.load head object) value given = absurd cc
found_constant types (tree.decay head array) value given = absurd cc
found_constant types (tree.address head object) value given = absurd cc
found_constant types (tree.convert_pointer head operand) value given = absurd cc
found_constant types (tree.compare_pointers head operator a b) value given = absurd cc
found_constant types (tree.is_nil head equal pointer) value given = absurd cc
found_constant types (tree.step head stride pointer_first a b) value given = absurd cc
found_constant types (tree.difference head size a b) value given = absurd cc
found_constant types (tree.comma head lefts last) value given = absurd cc
found_constant types (tree.assign head into from) value given = absurd cc
found_constant types (tree.update head operator kind to into from) value given = absurd cc
found_constant types (tree.advance head stride into from) value given = absurd cc
found_constant types (tree.post_update head operator kind to into) value given = absurd cc
found_constant types (tree.post_advance head stride into) value given = absurd cc
found_constant types (tree.call head number routine arguments) value given = absurd cc
found_constant types (tree.call_routine head routine arguments) value given = absurd cc

pub constants_are_folded : ConstantsAreFolded
constants_are_folded = record { only = only_value; found = found_constant }
