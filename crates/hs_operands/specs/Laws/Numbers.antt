-- What operators make of numbers is well typed.
use Rattle.std.proofs.Common.{◌≡◌, ℕ, Bool, true, false, Option, Some, None, refl, ap, sym, subst, if◌then◌else◌, arith}
use Rattle.std.specs.Prelude.{is_some}
use Rattle.std.proofs.lemmas.Bool.Decides.{nat_tests}
use Rattle.hs_tokens.specs.declared.place.Place.{Place}
use Rattle.hs_operand_types.specs.Conversions.{head_at, same_type, as_kind}
use Rattle.hs_operands.specs.Laws.{IsTyped, MakesTyped}
use Rattle.hs_operands.specs.Operators.{with_number, with_numbers, unary_of, in_common_of, arithmetic_in, shift_of, is_shift, arithmetic_of, comparison_in, comparison_of}
use Rattle.hs_operands.specs.Laws.Made.{Makes, gives, refuses, either_way}
use Rattle.hs_operands.specs.Laws.Stays.{number_kind-stays}
use Rattle.hs_tree.specs.Fitting.{IsSecondOperand}
use Rattle.hs_tree.specs.Kinds.{number_kind, kind_of_row, IsNumber, IsAnyNumber}
use Rattle.hs_tree.specs.Trees as tree
use Rattle.hs_tree.specs.Trees.{RightValue, TypedFunction, TypedProgram, type_of}
use Rattle.hs_tree.specs.declared.operators.Arithmetic.{Arithmetic}
use Rattle.hs_tree.specs.declared.operators.Arithmetic.TheVariants as operator
use Rattle.hs_tree.specs.declared.operators.Comparison.{Comparison}
use Rattle.hs_tree.specs.declared.operators.Unary.{Unary}
use Rattle.hs_types.specs.Integers.{promoted, common}
use Rattle.hs_types.specs.Rows.{integer_id}
use Rattle.hs_types.specs.TypeTables.{TypeTable, row_of, IsRight, Grows}
use Rattle.hs_types.specs.declared.integer.Integer.{Integer}
use Rattle.hs_types.specs.declared.integer.Integer.TheVariants.{Char, SignedChar, UnsignedChar, Short, UnsignedShort, Int, UnsignedInt, Long, UnsignedLong}
use Rattle.hs_types.specs.declared.row.Row.TheVariants as row
use Rattle.hs_types.specs.declared.row.TypeId.{TypeId}

-- an integer type is in every table
integer_row : (types : TypeTable) (its : Integer) → IsRight types → row_of types (integer_id its) ≡ Some (row.Integer its)
integer_row types Char is = is.basic 1 (row.Integer Char) refl
integer_row types SignedChar is = is.basic 2 (row.Integer SignedChar) refl
integer_row types UnsignedChar is = is.basic 3 (row.Integer UnsignedChar) refl
integer_row types Short is = is.basic 4 (row.Integer Short) refl
integer_row types UnsignedShort is = is.basic 5 (row.Integer UnsignedShort) refl
integer_row types Int is = is.basic 6 (row.Integer Int) refl
integer_row types UnsignedInt is = is.basic 7 (row.Integer UnsignedInt) refl
integer_row types Long is = is.basic 8 (row.Integer Long) refl
integer_row types UnsignedLong is = is.basic 9 (row.Integer UnsignedLong) refl

-- so its numbers are of its kind
pub integer_number : (types : TypeTable) (its : Integer) → IsRight types → IsNumber types its (integer_id its)
integer_number types its is = ap kind_of_row (integer_row types its is)

-- a number of some kind is a number
pub any-number : (types : TypeTable) (its : Integer) (id : TypeId) → IsNumber types its id → IsAnyNumber types id
any-number types its id is = ap is_some is

-- types that are the same by their numbers are one
pub same-is : (a b : TypeId) → same_type a b ≡ true → a ≡ b
same-is a b same =
    let numbers : a.number ≡ b.number = grind (arith, nat_tests, same) in
    ap with_number_of numbers
  where
    with_number_of : ℕ → TypeId
    with_number_of n = record { number = n }

-- a number that is wanted as one of a kind has the type of the kind
as_kind-if : (b : Bool) (at : Place) (its : Integer) (e : RightValue) → same_type (type_of e) (integer_id its) ≡ b
    → type_of (if b then e else tree.convert_number (head_at at (integer_id its)) its e) ≡ integer_id its
as_kind-if true at its e same = same-is (type_of e) (integer_id its) same
as_kind-if false at its e same = refl

-- with or without a conversion
pub as_kind-type : (at : Place) (its : Integer) (e : RightValue) → type_of (as_kind at its e) ≡ integer_id its
as_kind-type at its e = as_kind-if (same_type (type_of e) (integer_id its)) at its e refl

-- so it is one of that kind
pub as_kind-number : (types : TypeTable) (at : Place) (its : Integer) (e : RightValue) → IsRight types → IsNumber types its (type_of (as_kind at its e))
as_kind-number types at its e sound = subst (IsNumber types its) (sym (as_kind-type at its e)) (integer_number types its sound)

-- the second operand of a shift is any number
pub second-shift : (types : TypeTable) (op : Arithmetic) (its : Integer) (id : TypeId) → is_shift op ≡ true → IsAnyNumber types id
    → IsSecondOperand types op its id
second-shift types operator.ShiftLeft its id same is = is
second-shift types operator.ShiftRight its id same is = is
second-shift types operator.Multiply its id same is = absurd cc
second-shift types operator.Divide its id same is = absurd cc
second-shift types operator.Remainder its id same is = absurd cc
second-shift types operator.Add its id same is = absurd cc
second-shift types operator.Subtract its id same is = absurd cc
second-shift types operator.BitAnd its id same is = absurd cc
second-shift types operator.BitXor its id same is = absurd cc
second-shift types operator.BitOr its id same is = absurd cc

-- and of any other operation one of the same kind
pub second-common : (types : TypeTable) (op : Arithmetic) (its : Integer) (id : TypeId) → is_shift op ≡ false → IsNumber types its id
    → IsSecondOperand types op its id
second-common types operator.ShiftLeft its id same is = absurd cc
second-common types operator.ShiftRight its id same is = absurd cc
second-common types operator.Multiply its id same is = is
second-common types operator.Divide its id same is = is
second-common types operator.Remainder its id same is = is
second-common types operator.Add its id same is = is
second-common types operator.Subtract its id same is = is
second-common types operator.BitAnd its id same is = is
second-common types operator.BitXor its id same is = is
second-common types operator.BitOr its id same is = is

-- an operand that is a number, and two
number-if : (holds : RightValue → Type 0) (at : Place) (o : Option Integer) (make : Integer → RightValue)
    → ((its : Integer) → o ≡ Some its → holds (make its)) → Makes holds (with_number at o make)
number-if holds at None make is = refuses holds at
number-if holds at (Some its) make is = gives holds (make its) (is its refl)

numbers-if : (holds : RightValue → Type 0) (at : Place) (o p : Option Integer) (make : Integer → Integer → RightValue)
    → ((first second : Integer) → o ≡ Some first → p ≡ Some second → holds (make first second)) → Makes holds (with_numbers at o p make)
numbers-if holds at None p make is = refuses holds at
numbers-if holds at (Some first) p make is = number-if holds at p (make first) (λ second. is first second refl)

module _ (program : TypedProgram) (function : TypedFunction) (types : TypeTable) (sound : IsRight program.types) (grows : Grows types program.types) where
  -- an operand of a known kind is a number
  pub known_number : (id : TypeId) (its : Integer) → number_kind types id ≡ Some its → IsAnyNumber program.types id
  known_number id its known = any-number program.types its id (number_kind-stays types program.types grows id its known)

  -- so it can be wanted as one of any kind
  pub converted-typed : (at : Place) (its as_its : Integer) (e : RightValue) → IsTyped program function e → number_kind types (type_of e) ≡ Some its
      → IsTyped program function (as_kind at as_its e)
  converted-typed at its as_its e typed known =
      either_way (IsTyped program function) (same_type (type_of e) (integer_id as_its)) e
      (tree.convert_number (head_at at (integer_id as_its)) as_its e) (λ same. typed)
      (λ other. ((known_number (type_of e) its known, integer_number program.types as_its sound, tt), typed))

  -- on the promoted operand
  pub unary-typed : (at : Place) (op : Unary) (e : RightValue) → IsTyped program function e → MakesTyped program function (unary_of types at op e)
  unary-typed at op e typed =
      number-if (IsTyped program function) at (number_kind types (type_of e))
      (λ its. tree.unary (head_at at (integer_id (promoted its))) op (promoted its) (as_kind at (promoted its) e))
      (λ its known. (
        (as_kind-number program.types at (promoted its) e sound, refl, tt),
        converted-typed at its (promoted its) e typed known,
      ))

  -- in the common type, and each operand promoted by itself
  common-typed : (at : Place) (op : Arithmetic) (a b : RightValue) → IsTyped program function a → IsTyped program function b → is_shift op ≡ false
      → MakesTyped program function (in_common_of types at op a b)
  common-typed at op a b typed typed' plain =
      numbers-if (IsTyped program function) at (number_kind types (type_of a)) (number_kind types (type_of b))
      (λ first second. arithmetic_in at op (common first second) a b)
      (λ first second known known'. (
        (
          (
            as_kind-number program.types at (common first second) a sound,
            second-common program.types op (common first second) (type_of (as_kind at (common first second) b)) plain
                (as_kind-number program.types at (common first second) b sound),
          ),
          refl,
          tt,
        ),
        converted-typed at first (common first second) a typed known,
        converted-typed at second (common first second) b typed' known',
      ))

  shift-typed : (at : Place) (op : Arithmetic) (a b : RightValue) → IsTyped program function a → IsTyped program function b → is_shift op ≡ true
      → MakesTyped program function (shift_of types at op a b)
  shift-typed at op a b typed typed' shifts =
      numbers-if (IsTyped program function) at (number_kind types (type_of a)) (number_kind types (type_of b))
      (λ first second.
      tree.arithmetic (head_at at (integer_id (promoted first))) op (promoted first) (as_kind at (promoted first) a)
      (as_kind at (promoted second) b))
      (λ first second known known'. (
        (
          (
            as_kind-number program.types at (promoted first) a sound,
            second-shift program.types op (promoted first) (type_of (as_kind at (promoted second) b)) shifts
                (any-number program.types (promoted second) (type_of (as_kind at (promoted second) b))
                (as_kind-number program.types at (promoted second) b sound)),
          ),
          refl,
          tt,
        ),
        converted-typed at first (promoted first) a typed known,
        converted-typed at second (promoted second) b typed' known',
      ))

  -- one of both
  pub arithmetic-typed : (at : Place) (op : Arithmetic) (a b : RightValue) → IsTyped program function a → IsTyped program function b
      → MakesTyped program function (arithmetic_of types at op a b)
  arithmetic-typed at op a b typed typed' =
      either_way (MakesTyped program function) (is_shift op) (shift_of types at op a b) (in_common_of types at op a b)
      (shift-typed at op a b typed typed') (common-typed at op a b typed typed')

  -- in the common type
  pub comparison-typed : (at : Place) (op : Comparison) (a b : RightValue) → IsTyped program function a → IsTyped program function b
      → MakesTyped program function (comparison_of types at op a b)
  comparison-typed at op a b typed typed' =
      numbers-if (IsTyped program function) at (number_kind types (type_of a)) (number_kind types (type_of b))
      (λ first second. comparison_in at op (common first second) a b)
      (λ first second known known'. (
        (
          (as_kind-number program.types at (common first second) a sound, as_kind-number program.types at (common first second) b sound),
          refl,
          tt,
        ),
        converted-typed at first (common first second) a typed known,
        converted-typed at second (common first second) b typed' known',
      ))
