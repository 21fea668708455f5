-- `?:` and the comma operator are well typed.
use Rattle.std.proofs.Common.{◌≡◌, Bool, true, false, ◌&&◌, List, [], ◌∷◌, Option, Some, None, Ok, Err, refl, ap, sym, if◌then◌else◌}
use Rattle.std.specs.Prelude.{is_some}
use Rattle.std.specs.List.{AllByRecursion}
use Rattle.hs_tokens.specs.declared.place.Place.{Place}
use Rattle.hs_operands.specs.Assignments.{as_pointer, pointers_chosen, pointer_branches, other_branches, numbers_chosen, branches_by, conditional_of, comma_of}
use Rattle.hs_operand_types.specs.Constants.{is_null_constant}
use Rattle.hs_operand_types.specs.Conversions.{head_at, same_type, as_kind, truth}
use Rattle.hs_operands.specs.Laws.{Holds, IsTyped, MakesTyped}
use Rattle.hs_operand_types.specs.Types.{are_compatible, is_open}
use Rattle.hs_operand_types.specs.declared.operand_end.OperandEnd.TheVariants.{Untyped}
use Rattle.hs_operands.specs.Laws.AssignedTyped.{first-of}
use Rattle.hs_operands.specs.Laws.Conditions.{IsCondition, truth-typed}
use Rattle.hs_operands.specs.Laws.Made.{gives, refuses, either_way, gives_then}
use Rattle.hs_operands.specs.Laws.Numbers.{same-is, as_kind-type, converted-typed}
use Rattle.hs_operands.specs.Laws.Stays.{is_pointer-stays}
use Rattle.hs_tree.specs.Inside.{EachOf}
use Rattle.hs_tree.specs.Kinds.{number_kind, is_pointer, is_void, pointed}
use Rattle.hs_tree.specs.RowLaws.{rights_from}
use Rattle.hs_tree.specs.Trees as tree
use Rattle.hs_tree.specs.Trees.{RightValue, TypedFunction, TypedProgram, type_of}
use Rattle.hs_types.specs.Integers.{common}
use Rattle.hs_types.specs.Rows.{integer_id}
use Rattle.hs_types.specs.TypeTables.{TypeTable, IsRight, Grows}
use Rattle.hs_types.specs.declared.integer.Integer.{Integer}
use Rattle.hs_types.specs.declared.row.TypeId.{TypeId}

-- a pointer that is wanted as one of a type is of the type
as_pointer-if : (b : Bool) (at : Place) (id : TypeId) (e : RightValue) → same_type (type_of e) id ≡ b
    → type_of (if b then e else tree.convert_pointer (head_at at id) e) ≡ id
as_pointer-if true at id e same = same-is (type_of e) id same
as_pointer-if false at id e same = refl

as_pointer-type : (at : Place) (id : TypeId) (e : RightValue) → type_of (as_pointer at id e) ≡ id
as_pointer-type at id e = as_pointer-if (same_type (type_of e) id) at id e refl

module _ (program : TypedProgram) (function : TypedFunction) where
  -- the expressions of a list
  pub each_of : (lefts : List RightValue) → AllByRecursion (IsTyped program function) lefts → EachOf (Holds program function) (rights_from lefts)
  each_of [] typed = tt
  each_of (e ∷ lefts) typed = (typed.0, each_of lefts typed.1)

  -- `a, b, c`
  pub comma-typed : (at : Place) (lefts : List RightValue) (e : RightValue) → AllByRecursion (IsTyped program function) lefts
      → IsTyped program function e → IsTyped program function (comma_of at lefts e)
  comma-typed at lefts e typed typed' = ((tt, refl, tt), each_of lefts typed, typed')

module _ (program : TypedProgram) (function : TypedFunction) (types : TypeTable) (sound : IsRight program.types) (grows : Grows types program.types) where
  -- a condition and two branches of one type
  chosen-typed : (at : Place) (id : TypeId) (test a b : RightValue) → IsCondition program function types sound grows test
      → IsTyped program function a → IsTyped program function b → type_of a ≡ id → type_of b ≡ id
      → MakesTyped program function (Ok (tree.conditional (head_at at id) test a b))
  chosen-typed at id test a b condition typed typed' same same' =
      gives (IsTyped program function) (tree.conditional (head_at at id) test a b)
      ((condition.1, (same, same'), tt), condition.0, typed, typed')

  -- two numbers in their common type
  numbers_chosen-typed : (at : Place) (first second its : Integer) (test a b : RightValue) → IsCondition program function types sound grows test
      → IsTyped program function a → IsTyped program function b → number_kind types (type_of a) ≡ Some first
      → number_kind types (type_of b) ≡ Some second → MakesTyped program function (Ok (numbers_chosen at its test a b))
  numbers_chosen-typed at first second its test a b condition typed typed' known known' =
      chosen-typed at (integer_id its) test (as_kind at its a) (as_kind at its b) condition
      (converted-typed program function types sound grows at first its a typed known)
      (converted-typed program function types sound grows at second its b typed' known') (as_kind-type at its a) (as_kind-type at its b)

  -- two pointers as pointers of one type
  as_pointer-typed : (at : Place) (id : TypeId) (e : RightValue) → IsTyped program function e → is_pointer types (type_of e) ≡ true
      → is_pointer types id ≡ true → IsTyped program function (as_pointer at id e)
  as_pointer-typed at id e typed from into =
      either_way (IsTyped program function) (same_type (type_of e) id) e (tree.convert_pointer (head_at at id) e) (λ same. typed)
      (λ other. (
        (is_pointer-stays types program.types grows (type_of e) from, is_pointer-stays types program.types grows id into, tt),
        typed,
      ))

  pointers_chosen-typed : (at : Place) (id : TypeId) (test a b : RightValue) → IsCondition program function types sound grows test
      → IsTyped program function a → IsTyped program function b → is_pointer types (type_of a) ≡ true → is_pointer types (type_of b) ≡ true
      → is_pointer types id ≡ true → MakesTyped program function (Ok (pointers_chosen at id test a b))
  pointers_chosen-typed at id test a b condition typed typed' from from' into =
      chosen-typed at id test (as_pointer at id a) (as_pointer at id b) condition (as_pointer-typed at id a typed from into)
      (as_pointer-typed at id b typed' from' into) (as_pointer-type at id a) (as_pointer-type at id b)

  -- a pointer to void, or compatible ones
  pointer_branches-typed : (o p : Option TypeId) (at : Place) (test a b : RightValue) → IsCondition program function types sound grows test
      → IsTyped program function a → IsTyped program function b → pointed types (type_of a) ≡ o → pointed types (type_of b) ≡ p
      → MakesTyped program function (pointer_branches types at o p test a b)
  pointer_branches-typed None p at test a b condition typed typed' known known' = refuses (IsTyped program function) at
  pointer_branches-typed (Some first) None at test a b condition typed typed' known known' = refuses (IsTyped program function) at
  pointer_branches-typed (Some first) (Some second) at test a b condition typed typed' known known' =
      let chosen : (id : TypeId) → is_pointer types id ≡ true → MakesTyped program function (Ok (pointers_chosen at id test a b))
      = λ id. pointers_chosen-typed at id test a b condition typed typed' (ap is_some known) (ap is_some known') in
      either_way (MakesTyped program function) (is_void types first) (Ok (pointers_chosen at (type_of a) test a b))
      (if is_void types second
      then Ok (pointers_chosen at (type_of b) test a b)
      else if are_compatible types first second
      then Ok (pointers_chosen at (if is_open types first then type_of b else type_of a) test a b)
      else Err (Untyped at)) (λ void. chosen (type_of a) (ap is_some known))
      (λ other. either_way (MakesTyped program function) (is_void types second) (Ok (pointers_chosen at (type_of b) test a b))
      (if are_compatible types first second
      then Ok (pointers_chosen at (if is_open types first then type_of b else type_of a) test a b)
      else Err (Untyped at)) (λ void. chosen (type_of b) (ap is_some known'))
      (λ other. either_way (MakesTyped program function) (are_compatible types first second)
      (Ok (pointers_chosen at (if is_open types first then type_of b else type_of a) test a b)) (Err (Untyped at))
      (λ compatible. chosen (if is_open types first then type_of b else type_of a)
      (either_way (λ id. is_pointer types id ≡ true) (is_open types first) (type_of b) (type_of a) (λ open_array. ap is_some known')
      (λ closed. ap is_some known))) (λ neither. refuses (IsTyped program function) at)))

  -- the null pointer of a type of pointers
  nil-typed : (at : Place) (id : TypeId) → is_pointer types id ≡ true → IsTyped program function (tree.nil (head_at at id))
  nil-typed at id pointer = (tt, is_pointer-stays types program.types grows id pointer, tt)

  -- what is not two numbers
  other_branches-typed : (at : Place) (test a b : RightValue) → IsCondition program function types sound grows test → IsTyped program function a
      → IsTyped program function b → MakesTyped program function (other_branches types at test a b)
  other_branches-typed at test a b condition typed typed' =
      either_way (MakesTyped program function) (same_type (type_of a) (type_of b)) (Ok (tree.conditional (head_at at (type_of a)) test a b))
      (if is_pointer types (type_of a) && is_null_constant types b
      then Ok (tree.conditional (head_at at (type_of a)) test a (tree.nil (head_at at (type_of a))))
      else if is_pointer types (type_of b) && is_null_constant types a
      then Ok (tree.conditional (head_at at (type_of b)) test (tree.nil (head_at at (type_of b))) b)
      else pointer_branches types at (pointed types (type_of a)) (pointed types (type_of b)) test a b)
      (λ same. chosen-typed at (type_of a) test a b condition typed typed' refl (sym (same-is (type_of a) (type_of b) same)))
      (λ other. either_way (MakesTyped program function) (is_pointer types (type_of a) && is_null_constant types b)
      (Ok (tree.conditional (head_at at (type_of a)) test a (tree.nil (head_at at (type_of a)))))
      (if is_pointer types (type_of b) && is_null_constant types a
      then Ok (tree.conditional (head_at at (type_of b)) test (tree.nil (head_at at (type_of b))) b)
      else pointer_branches types at (pointed types (type_of a)) (pointed types (type_of b)) test a b)
      (λ null. chosen-typed at (type_of a) test a (tree.nil (head_at at (type_of a))) condition typed
      (nil-typed at (type_of a) (first-of (is_pointer types (type_of a)) (is_null_constant types b) null)) refl refl)
      (λ other. either_way (MakesTyped program function) (is_pointer types (type_of b) && is_null_constant types a)
      (Ok (tree.conditional (head_at at (type_of b)) test (tree.nil (head_at at (type_of b))) b))
      (pointer_branches types at (pointed types (type_of a)) (pointed types (type_of b)) test a b)
      (λ null. chosen-typed at (type_of b) test (tree.nil (head_at at (type_of b))) b condition
      (nil-typed at (type_of b) (first-of (is_pointer types (type_of b)) (is_null_constant types a) null)) typed' refl refl)
      (λ neither. pointer_branches-typed (pointed types (type_of a)) (pointed types (type_of b)) at test a b condition typed typed' refl refl)))

  -- each pair of branches
  branches_by-typed : (o p : Option Integer) (at : Place) (test a b : RightValue) → IsCondition program function types sound grows test
      → IsTyped program function a → IsTyped program function b → number_kind types (type_of a) ≡ o → number_kind types (type_of b) ≡ p
      → MakesTyped program function (branches_by types at o p test a b)
  branches_by-typed None p at test a b condition typed typed' known known' = other_branches-typed at test a b condition typed typed'
  branches_by-typed (Some first) None at test a b condition typed typed' known known' = other_branches-typed at test a b condition typed typed'
  branches_by-typed (Some first) (Some second) at test a b condition typed typed' known known' =
      numbers_chosen-typed at first second (common first second) test a b condition typed typed' known known'

  -- `c ? a : b`
  pub conditional-typed : (at : Place) (test a b : RightValue) → IsTyped program function test → IsTyped program function a
      → IsTyped program function b → MakesTyped program function (conditional_of types at test a b)
  conditional-typed at test a b tested typed typed' =
      gives_then (IsTyped program function) (truth types at test)
      (λ condition. branches_by types at (number_kind types (type_of a)) (number_kind types (type_of b)) condition a b)
      (λ condition given.
      branches_by-typed (number_kind types (type_of a)) (number_kind types (type_of b)) at condition a b
      (truth-typed program function types sound grows at test tested condition given) typed typed' refl refl)
