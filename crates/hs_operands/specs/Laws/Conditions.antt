-- What operators make of conditions is well typed.
use Rattle.std.proofs.Common.{Ok, Err, refl, if◌then◌else◌}
use Rattle.hs_tokens.specs.declared.place.Place.{Place}
use Rattle.hs_operand_types.specs.Answers.{◌>>=◌}
use Rattle.hs_operand_types.specs.Conversions.{head_at, is_not_nil, truth}
use Rattle.hs_operands.specs.Laws.{IsTyped, MakesTyped}
use Rattle.hs_operands.specs.Operators.{not_of, and_of, or_of}
use Rattle.hs_operand_types.specs.declared.operand_end.OperandEnd.TheVariants.{Untyped}
use Rattle.hs_operands.specs.Laws.Made.{Makes, gives, refuses, either_way, gives_then}
use Rattle.hs_operands.specs.Laws.Numbers.{integer_number, any-number}
use Rattle.hs_operands.specs.Laws.Stays.{is_number-stays, is_pointer-stays}
use Rattle.hs_tree.specs.Kinds.{is_number, is_pointer, IsAnyNumber}
use Rattle.hs_tree.specs.Trees as tree
use Rattle.hs_tree.specs.Trees.{RightValue, TypedFunction, TypedProgram, type_of}
use Rattle.hs_types.specs.Rows.{integer_id}
use Rattle.hs_types.specs.TypeTables.{TypeTable, IsRight, Grows}
use Rattle.hs_types.specs.declared.integer.Integer.TheVariants.{Int}

module _ (program : TypedProgram) (function : TypedFunction) (types : TypeTable) (sound : IsRight program.types) (grows : Grows types program.types) where
  -- well typed, and a number
  abbrev pub IsCondition : RightValue → Type 0
  IsCondition e = IsTyped program function e × IsAnyNumber program.types (type_of e)

  -- a number as it is, and a test of a pointer
  pub truth-typed : (at : Place) (e : RightValue) → IsTyped program function e → Makes IsCondition (truth types at e)
  truth-typed at e typed =
      either_way (Makes IsCondition) (is_number types (type_of e)) (Ok e)
      (if is_pointer types (type_of e) then Ok (is_not_nil e) else Err (Untyped at))
      (λ number. gives IsCondition e (typed, is_number-stays types program.types grows (type_of e) number))
      (λ other. either_way (Makes IsCondition) (is_pointer types (type_of e)) (Ok (is_not_nil e)) (Err (Untyped at))
      (λ pointer. gives IsCondition (is_not_nil e) (
        ((is_pointer-stays types program.types grows (type_of e) pointer, refl, tt), typed),
        any-number program.types Int (integer_id Int) (integer_number program.types Int sound),
      )) (λ neither. refuses IsCondition at))

  -- `!e`
  pub not-typed : (at : Place) (e : RightValue) → IsTyped program function e → MakesTyped program function (not_of types at e)
  not-typed at e typed =
      gives_then (IsTyped program function) (truth types at e) (λ test. Ok (tree.not (head_at at (integer_id Int)) test))
      (λ test given.
      let is : IsCondition test = truth-typed at e typed test given in
      gives (IsTyped program function) (tree.not (head_at at (integer_id Int)) test) ((is.1, refl, tt), is.0))

  -- two conditions, the first before the second
  both-typed : (at : Place) (make : RightValue → RightValue → RightValue) (a b : RightValue)
      → ((first second : RightValue) → IsCondition first → IsCondition second → IsTyped program function (make first second))
      → IsTyped program function a → IsTyped program function b
      → MakesTyped program function (truth types at a >>= (λ first. truth types at b >>= (λ second. Ok (make first second))))
  both-typed at make a b is typed typed' =
      gives_then (IsTyped program function) (truth types at a) (λ first. truth types at b >>= (λ second. Ok (make first second)))
      (λ first given. gives_then (IsTyped program function) (truth types at b) (λ second. Ok (make first second))
      (λ second given'. gives (IsTyped program function) (make first second)
      (is first second (truth-typed at a typed first given) (truth-typed at b typed' second given'))))

  -- `a && b`
  pub and-typed : (at : Place) (a b : RightValue) → IsTyped program function a → IsTyped program function b
      → MakesTyped program function (and_of types at a b)
  and-typed at a b =
      both-typed at (tree.and (head_at at (integer_id Int))) a b (λ first second is is'. (((is.1, is'.1), refl, tt), is.0, is'.0))

  -- `a || b`
  pub or-typed : (at : Place) (a b : RightValue) → IsTyped program function a → IsTyped program function b
      → MakesTyped program function (or_of types at a b)
  or-typed at a b =
      both-typed at (tree.or (head_at at (integer_id Int))) a b (λ first second is is'. (((is.1, is'.1), refl, tt), is.0, is'.0))
