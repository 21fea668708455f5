-- What operators make of pointers is well typed.
use Rattle.std.proofs.Common.{◌≡◌, ◌==◌, ℕ, Bool, true, false, ◌&&◌, ◌||◌, not, Option, Some, None, Ok, Err, refl, ap, sym, subst, ◌∙◌, if◌then◌else◌, arith}
use Rattle.std.specs.Prelude.{is_some}
use Rattle.std.proofs.lemmas.Bool.Decides.{nat_tests}
use Rattle.hs_tokens.specs.declared.place.Place.{Place}
use Rattle.hs_operand_types.specs.Constants.{is_null_constant}
use Rattle.hs_operand_types.specs.Conversions.{head_at}
use Rattle.hs_operands.specs.Laws.{IsTyped, MakesTyped}
use Rattle.hs_operands.specs.Objects.{spacing_over, spacing_by, spacing}
use Rattle.hs_operands.specs.Operators.{arithmetic_of, comparison_of}
use Rattle.hs_operands.specs.Pointers.{are_numbers, stepped, plus_of, apart, difference_by, minus_of, is_equality, may_be_compared, pointers_compared, is_nil_test, nil_test, compared}
use Rattle.hs_operand_types.specs.Types.{are_compatible}
use Rattle.hs_operand_types.specs.declared.operand_end.OperandEnd.TheVariants.{Untyped}
use Rattle.hs_operands.specs.declared.spacing.Spacing.{Spacing}
use Rattle.hs_operands.specs.Laws.Made.{gives, refuses, either_way}
use Rattle.hs_operands.specs.Laws.Numbers.{arithmetic-typed, comparison-typed}
use Rattle.hs_operands.specs.Laws.Stays.{is_number-stays, is_pointer-stays, pointed-stays, pointed_size-stays}
use Rattle.hs_tree.specs.Fitting.{AreSteps, IsStepTarget, stepping}
use Rattle.hs_tree.specs.Kinds.{is_number, is_pointer, pointed, size_in, size_at, IsAnyNumber, IsPointerToSize}
use Rattle.hs_tree.specs.Trees as tree
use Rattle.hs_tree.specs.Trees.{RightValue, TypedFunction, TypedProgram, type_of}
use Rattle.hs_tree.specs.declared.operators.Arithmetic.TheVariants as arithmetic
use Rattle.hs_tree.specs.declared.operators.Comparison.{Comparison}
use Rattle.hs_types.specs.Rows.{integer_id}
use Rattle.hs_types.specs.TypeTables.{TypeTable, layout_of, IsRight, Grows}
use Rattle.hs_types.specs.declared.integer.Integer.TheVariants as kind
use Rattle.hs_types.specs.declared.layout.Layout.{Layout}
use Rattle.hs_types.specs.declared.row.TypeId.{TypeId}

-- what is known of a spacing that a pointer has
abbrev SpacesBy : TypeTable → Bool → Option TypeId → Spacing → Type 0
SpacesBy types first o it = (it.pointer_first ≡ first) × (o ≡ Some it.of) × (size_at types o ≡ Some it.size)

spacing_over-is : (types : TypeTable) (first : Bool) (of : TypeId) (o : Option Layout) (it : Spacing) → layout_of types of ≡ o
    → spacing_over first of o ≡ Some it → SpacesBy types first (Some of) it
spacing_over-is types first of None it known given = absurd cc
spacing_over-is types first of (Some layout) it known given =
    let made : Spacing = record { of = of; size = layout.size; pointer_first = first } in
    let same : made ≡ it = cc in
    subst (SpacesBy types first (Some of)) same (refl, refl, ap size_in known)

spacing_by-is : (types : TypeTable) (first : Bool) (o : Option TypeId) (it : Spacing) → spacing_by types first o ≡ Some it → SpacesBy types first o it
spacing_by-is types first None it given = absurd cc
spacing_by-is types first (Some of) it given = spacing_over-is types first of (layout_of types of) it refl given

-- a step back is from a pointer that comes first
forward-if : (first backward : Bool) → (backward ≡ true → first ≡ true) → (first || not backward) ≡ true
forward-if true backward is = refl
forward-if false true is = is refl
forward-if false false is = refl

-- a step has the type of its pointer
stepping-if : (first : Bool) (a b : TypeId) → (if first then a else b) ≡ stepping first a b
stepping-if true a b = refl
stepping-if false a b = refl

-- the second of three tests
second-of : (a b c : Bool) → (a && b && c) ≡ true → b ≡ true
second-of true true c is = refl
second-of true false c is = absurd cc
second-of false b c is = absurd cc

-- two pointers that may be compared
some-of : (types : TypeTable) (equality : Bool) (o p : Option TypeId) → may_be_compared types equality o p ≡ true
    → (is_some o ≡ true) × (is_some p ≡ true)
some-of types equality None p is = absurd cc
some-of types equality (Some first) None is = absurd cc
some-of types equality (Some first) (Some second) is = (refl, refl)

module _ (program : TypedProgram) (function : TypedFunction) (types : TypeTable) (sound : IsRight program.types) (grows : Grows types program.types) where
  -- the operands of a step, and what its pointer points to
  abbrev pub Steps : TypeId → TypeId → Spacing → Type 0
  Steps a b it = AreSteps program.types it.pointer_first it.size a b × IsStepTarget program.types it.pointer_first a b it.of

  -- each spacing that there is
  abbrev pub AreSpaced : TypeId → TypeId → Option Spacing → Type 0
  AreSpaced a b o = (it : Spacing) → o ≡ Some it → Steps a b it × (is_number types b ≡ true → it.pointer_first ≡ true)

  -- the pointer comes first, or second
  steps-first : (a b : TypeId) (it : Spacing) → IsAnyNumber program.types b → SpacesBy types true (pointed types a) it → Steps a b it
  steps-first a b it number is =
      subst (λ first. AreSteps program.types first it.size a b × IsStepTarget program.types first a b it.of) (sym is.0)
      ((pointed_size-stays types program.types grows a it.size is.2, number), pointed-stays types program.types grows a it.of is.1)

  steps-second : (a b : TypeId) (it : Spacing) → IsAnyNumber program.types a → SpacesBy types false (pointed types b) it → Steps a b it
  steps-second a b it number is =
      subst (λ first. AreSteps program.types first it.size a b × IsStepTarget program.types first a b it.of) (sym is.0)
      ((number, pointed_size-stays types program.types grows b it.size is.2), pointed-stays types program.types grows b it.of is.1)

  -- one operand is a number, and the other a pointer
  pub spaced : (a b : TypeId) → AreSpaced a b (spacing types a b)
  spaced a b =
      either_way (AreSpaced a b) (is_number types b) (spacing_by types true (pointed types a))
      (if is_number types a then spacing_by types false (pointed types b) else None)
      (λ number it given.
      let is : SpacesBy types true (pointed types a) it = spacing_by-is types true (pointed types a) it given in
      (steps-first a b it (is_number-stays types program.types grows b number) is, λ again. is.0))
      (λ other. either_way (AreSpaced a b) (is_number types a) (spacing_by types false (pointed types b)) None
      (λ number it given. (
        steps-second a b it (is_number-stays types program.types grows a number) (spacing_by-is types false (pointed types b) it given),
        λ again. absurd cc,
      )) (λ neither it given. absurd cc))

  -- a step back has its pointer first
  stepped-typed : (o : Option Spacing) (at : Place) (backward : Bool) (a b : RightValue) → IsTyped program function a → IsTyped program function b
      → AreSpaced (type_of a) (type_of b) o → (backward ≡ true → is_number types (type_of b) ≡ true)
      → MakesTyped program function (stepped at backward a b o)
  stepped-typed None at backward a b typed typed' known ahead = refuses (IsTyped program function) at
  stepped-typed (Some it) at backward a b typed typed' known ahead =
      let is : Steps (type_of a) (type_of b) it × (is_number types (type_of b) ≡ true → it.pointer_first ≡ true) = known it refl in
      gives (IsTyped program function)
      (tree.step (head_at at (if it.pointer_first then type_of a else type_of b)) (record { size = it.size; backward = backward }) it.pointer_first a b) (
        (
          (is.0.0, forward-if it.pointer_first backward (λ back. is.1 (ahead back))),
          stepping-if it.pointer_first (type_of a) (type_of b),
          tt,
        ),
        typed,
        typed',
      )

  -- two numbers, or a pointer and a number
  pub plus-typed : (at : Place) (a b : RightValue) → IsTyped program function a → IsTyped program function b
      → MakesTyped program function (plus_of types at a b)
  plus-typed at a b typed typed' =
      either_way (MakesTyped program function) (are_numbers types a b) (arithmetic_of types at arithmetic.Add a b)
      (stepped at false a b (spacing types (type_of a) (type_of b)))
      (λ numbers. arithmetic-typed program function types sound grows at arithmetic.Add a b typed typed')
      (λ other. stepped-typed (spacing types (type_of a) (type_of b)) at false a b typed typed' (spaced (type_of a) (type_of b)) (λ back. absurd cc))

  -- two pointers to objects of one size
  apart-typed : (o p : Option Layout) (at : Place) (a b : RightValue) → IsTyped program function a → IsTyped program function b
      → ((size : ℕ) → size_in o ≡ Some size → IsPointerToSize program.types size (type_of a))
      → ((size : ℕ) → size_in p ≡ Some size → IsPointerToSize program.types size (type_of b)) → MakesTyped program function (apart at a b o p)
  apart-typed None p at a b typed typed' known known' = refuses (IsTyped program function) at
  apart-typed (Some first) None at a b typed typed' known known' = refuses (IsTyped program function) at
  apart-typed (Some first) (Some second) at a b typed typed' known known' =
      either_way (MakesTyped program function) (first.size == second.size)
      (Ok (tree.difference (head_at at (integer_id kind.Long)) first.size a b)) (Err (Untyped at))
      (λ same.
      let sizes : second.size ≡ first.size = grind (arith, nat_tests, same) in
      gives (IsTyped program function) (tree.difference (head_at at (integer_id kind.Long)) first.size a b)
      (((known first.size refl, known' first.size (ap Some sizes)), refl, tt), typed, typed')) (λ differ. refuses (IsTyped program function) at)

  -- what a pointer points to has its size in the whole program
  size-of : (id of : TypeId) → pointed types id ≡ Some of → (size : ℕ) → size_in (layout_of types of) ≡ Some size → IsPointerToSize program.types size id
  size-of id of known size is = pointed_size-stays types program.types grows id size (ap (size_at types) known ∙ is)

  -- two pointers to compatible types
  difference_by-typed : (o p : Option TypeId) (at : Place) (a b : RightValue) → IsTyped program function a → IsTyped program function b
      → pointed types (type_of a) ≡ o → pointed types (type_of b) ≡ p → MakesTyped program function (difference_by types at a b o p)
  difference_by-typed None p at a b typed typed' known known' = refuses (IsTyped program function) at
  difference_by-typed (Some first) None at a b typed typed' known known' = refuses (IsTyped program function) at
  difference_by-typed (Some first) (Some second) at a b typed typed' known known' =
      either_way (MakesTyped program function) (are_compatible types first second) (apart at a b (layout_of types first) (layout_of types second))
      (Err (Untyped at))
      (λ compatible.
      apart-typed (layout_of types first) (layout_of types second) at a b typed typed' (size-of (type_of a) first known)
      (size-of (type_of b) second known')) (λ differ. refuses (IsTyped program function) at)

  -- two numbers, a pointer and a number, or two pointers
  pub minus-typed : (at : Place) (a b : RightValue) → IsTyped program function a → IsTyped program function b
      → MakesTyped program function (minus_of types at a b)
  minus-typed at a b typed typed' =
      either_way (MakesTyped program function) (are_numbers types a b) (arithmetic_of types at arithmetic.Subtract a b)
      (if is_number types (type_of b)
      then stepped at true a b (spacing types (type_of a) (type_of b))
      else difference_by types at a b (pointed types (type_of a)) (pointed types (type_of b)))
      (λ numbers. arithmetic-typed program function types sound grows at arithmetic.Subtract a b typed typed')
      (λ other. either_way (MakesTyped program function) (is_number types (type_of b)) (stepped at true a b (spacing types (type_of a) (type_of b)))
      (difference_by types at a b (pointed types (type_of a)) (pointed types (type_of b)))
      (λ number.
      stepped-typed (spacing types (type_of a) (type_of b)) at true a b typed typed' (spaced (type_of a) (type_of b)) (λ back. number))
      (λ neither. difference_by-typed (pointed types (type_of a)) (pointed types (type_of b)) at a b typed typed' refl refl))

  -- a pointer and the null pointer, and two pointers
  nil_test-typed : (at : Place) (op : Comparison) (e : RightValue) → IsTyped program function e → is_pointer types (type_of e) ≡ true
      → MakesTyped program function (Ok (nil_test at op e))
  nil_test-typed at op e typed pointer =
      gives (IsTyped program function) (nil_test at op e) ((is_pointer-stays types program.types grows (type_of e) pointer, refl, tt), typed)

  pointers_compared-typed : (at : Place) (op : Comparison) (a b : RightValue) → IsTyped program function a → IsTyped program function b
      → MakesTyped program function (pointers_compared types at op a b)
  pointers_compared-typed at op a b typed typed' =
      either_way (MakesTyped program function)
      (may_be_compared types (is_equality op) (pointed types (type_of a)) (pointed types (type_of b)))
      (Ok (tree.compare_pointers (head_at at (integer_id kind.Int)) op a b)) (Err (Untyped at))
      (λ may.
      let are : (is_pointer types (type_of a) ≡ true) × (is_pointer types (type_of b) ≡ true)
      = some-of types (is_equality op) (pointed types (type_of a)) (pointed types (type_of b)) may in
      gives (IsTyped program function) (tree.compare_pointers (head_at at (integer_id kind.Int)) op a b) (
        (
          (is_pointer-stays types program.types grows (type_of a) are.0, is_pointer-stays types program.types grows (type_of b) are.1),
          refl,
          tt,
        ),
        typed,
        typed',
      )) (λ may_not. refuses (IsTyped program function) at)

  -- each way to compare
  pub compared-typed : (at : Place) (op : Comparison) (a b : RightValue) → IsTyped program function a → IsTyped program function b
      → MakesTyped program function (compared types at op a b)
  compared-typed at op a b typed typed' =
      either_way (MakesTyped program function) (are_numbers types a b) (comparison_of types at op a b)
      (if is_nil_test types op a b
      then Ok (nil_test at op a)
      else if is_nil_test types op b a
      then Ok (nil_test at op b)
      else pointers_compared types at op a b) (λ numbers. comparison-typed program function types sound grows at op a b typed typed')
      (λ other. either_way (MakesTyped program function) (is_nil_test types op a b) (Ok (nil_test at op a))
      (if is_nil_test types op b a then Ok (nil_test at op b) else pointers_compared types at op a b)
      (λ nil. nil_test-typed at op a typed (second-of (is_equality op) (is_pointer types (type_of a)) (is_null_constant types b) nil))
      (λ other. either_way (MakesTyped program function) (is_nil_test types op b a) (Ok (nil_test at op b)) (pointers_compared types at op a b)
      (λ nil. nil_test-typed at op b typed' (second-of (is_equality op) (is_pointer types (type_of b)) (is_null_constant types a) nil))
      (λ neither. pointers_compared-typed at op a b typed typed')))
