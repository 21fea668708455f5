-- Conversions as by assignment, assignments and casts are well typed.
use Rattle.std.proofs.Common.{◌≡◌, ℕ, Bool, true, false, ◌&&◌, Option, Some, None, Ok, Err, refl, sym, subst, if◌then◌else◌}
use Rattle.hs_base.specs.Tests.{whichever}
use Rattle.hs_tokens.specs.declared.place.Place.{Place}
use Rattle.hs_operand_types.specs.Answers.{◌>>=◌}
use Rattle.hs_operands.specs.Assignments.{assigned_pointer, assigned_number, assigned, assign_of, update_with, direction, advance_by, update_by, update_of, post_advance_by, post_update_by, post_update_of, cast_of}
use Rattle.hs_operand_types.specs.Constants.{is_null_constant}
use Rattle.hs_operand_types.specs.Conversions.{head_at, same_type, as_kind}
use Rattle.hs_operand_types.specs.Types.{is_accessible}
use Rattle.hs_operands.specs.Laws.{IsTyped, IsTypedObject, MakesTyped, MakesOfType}
use Rattle.hs_operands.specs.Operators.{is_shift}
use Rattle.hs_operand_types.specs.declared.operand_end.OperandEnd.TheVariants.{Untyped}
use Rattle.hs_operands.specs.Laws.Made.{gives, refuses, either_way, gives_then}
use Rattle.hs_operands.specs.Laws.Numbers.{any-number, same-is, as_kind-number, second-shift, second-common, known_number, converted-typed}
use Rattle.hs_operands.specs.Laws.Stays.{number_kind-stays, is_number-stays, is_pointer-stays, is_scalar-stays, is_void-stays, is_readable-stays, pointed_size-stays}
use Rattle.hs_tree.specs.Kinds.{number_kind, is_number, is_pointer, is_scalar, is_readable, is_void, pointed, size_at, IsNumber, IsAnyNumber, IsScalar}
use Rattle.hs_tree.specs.Trees as tree
use Rattle.hs_tree.specs.Trees.{RightValue, LeftValue, TypedFunction, TypedProgram, type_of, type_of_left}
use Rattle.hs_tree.specs.declared.operators.Arithmetic.{Arithmetic}
use Rattle.hs_types.specs.Integers.{promoted, common}
use Rattle.hs_types.specs.TypeTables.{TypeTable, is_complete, IsRight, Grows}
use Rattle.hs_types.specs.declared.integer.Integer.{Integer}
use Rattle.hs_types.specs.declared.integer.Integer.TheVariants as kind
use Rattle.hs_types.specs.declared.row.TypeId.{TypeId}

-- the first of two tests
pub first-of : (a b : Bool) → (a && b) ≡ true → a ≡ true
first-of true b is = refl
first-of false b is = absurd cc

module _ (program : TypedProgram) (function : TypedFunction) (types : TypeTable) (sound : IsRight program.types) (grows : Grows types program.types) where
  -- well typed, and of that type
  abbrev IsOfType : TypeId → RightValue → Type 0
  IsOfType id e = IsTyped program function e × (type_of e ≡ id)

  -- to a pointer, and to a number
  assigned_pointer-typed : (at : Place) (id : TypeId) (e : RightValue) → IsTyped program function e → is_pointer types id ≡ true
      → MakesOfType program function id (assigned_pointer types at id e)
  assigned_pointer-typed at id e typed pointer =
      let into : is_pointer program.types id ≡ true = is_pointer-stays types program.types grows id pointer in
      either_way (MakesOfType program function id) (is_null_constant types e) (Ok (tree.nil (head_at at id)))
      (if is_pointer types (type_of e) then Ok (tree.convert_pointer (head_at at id) e) else Err (Untyped at))
      (λ null. gives (IsOfType id) (tree.nil (head_at at id)) ((tt, into, tt), refl))
      (λ other. either_way (MakesOfType program function id) (is_pointer types (type_of e)) (Ok (tree.convert_pointer (head_at at id) e))
      (Err (Untyped at))
      (λ from. gives (IsOfType id) (tree.convert_pointer (head_at at id) e)
      (((is_pointer-stays types program.types grows (type_of e) from, into, tt), typed), refl)) (λ neither. refuses (IsOfType id) at))

  assigned_number-typed : (o : Option Integer) (is_one : Bool) (at : Place) (id : TypeId) (e : RightValue) → IsTyped program function e
      → number_kind types id ≡ o → is_number types (type_of e) ≡ is_one → MakesOfType program function id (assigned_number at id o is_one e)
  assigned_number-typed None is_one at id e typed into from = refuses (IsOfType id) at
  assigned_number-typed (Some its) true at id e typed into from =
      gives (IsOfType id) (tree.convert_number (head_at at id) its e) (
        (
          (is_number-stays types program.types grows (type_of e) from, number_kind-stays types program.types grows id its into, tt),
          typed,
        ),
        refl,
      )
  assigned_number-typed (Some its) false at id e typed into from = refuses (IsOfType id) at

  -- to any type
  pub assigned-typed : (at : Place) (id : TypeId) (e : RightValue) → IsTyped program function e
      → MakesOfType program function id (assigned types at id e)
  assigned-typed at id e typed =
      either_way (MakesOfType program function id) (same_type (type_of e) id && is_readable types id) (Ok e)
      (if is_pointer types id
      then assigned_pointer types at id e
      else assigned_number at id (number_kind types id) (is_number types (type_of e)) e)
      (λ same. gives (IsOfType id) e (typed, same-is (type_of e) id (first-of (same_type (type_of e) id) (is_readable types id) same)))
      (λ other. either_way (MakesOfType program function id) (is_pointer types id) (assigned_pointer types at id e)
      (assigned_number at id (number_kind types id) (is_number types (type_of e)) e) (assigned_pointer-typed at id e typed)
      (λ neither. assigned_number-typed (number_kind types id) (is_number types (type_of e)) at id e typed refl refl))

  -- `l = e`
  pub assign-typed : (at : Place) (it : LeftValue) (e : RightValue) → IsTypedObject program function it → IsTyped program function e
      → MakesTyped program function (assign_of types at it e)
  assign-typed at it e object typed =
      either_way (MakesTyped program function) (is_accessible types (type_of_left it))
      (assigned types at (type_of_left it) e >>= (λ converted. Ok (tree.assign (head_at at (type_of_left it)) it converted))) (Err (Untyped at))
      (λ accessible. gives_then (IsTyped program function) (assigned types at (type_of_left it) e)
      (λ converted. Ok (tree.assign (head_at at (type_of_left it)) it converted))
      (λ converted given.
      let is : IsOfType (type_of_left it) converted = assigned-typed at (type_of_left it) e typed converted given in
      let readable : is_readable types (type_of_left it) ≡ true
      = first-of (is_readable types (type_of_left it)) (is_complete types (type_of_left it)) accessible in
      gives (IsTyped program function) (tree.assign (head_at at (type_of_left it)) it converted)
      (((is_readable-stays types program.types grows (type_of_left it) readable, is.1), refl, tt), object, is.0)))
      (λ other. refuses (IsTyped program function) at)

  -- two numbers
  update_with-typed : (at : Place) (op : Arithmetic) (to its : Integer) (it : LeftValue) (e : RightValue) → IsTypedObject program function it
      → IsTyped program function e → number_kind types (type_of_left it) ≡ Some to → number_kind types (type_of e) ≡ Some its
      → IsTyped program function (update_with at op to its it e)
  update_with-typed at op to its it e object typed known known' =
      let into : IsNumber program.types to (type_of_left it) = number_kind-stays types program.types grows (type_of_left it) to known in
      either_way (IsTyped program function) (is_shift op)
      (tree.update (head_at at (type_of_left it)) op (promoted to) to it (as_kind at (promoted its) e))
      (tree.update (head_at at (type_of_left it)) op (common to its) to it (as_kind at (common to its) e))
      (λ shifts. (
        (
          (
            into,
            second-shift program.types op (promoted to) (type_of (as_kind at (promoted its) e)) shifts
                (any-number program.types (promoted its) (type_of (as_kind at (promoted its) e))
                (as_kind-number program.types at (promoted its) e sound)),
          ),
          refl,
          tt,
        ),
        object,
        converted-typed program function types sound grows at its (promoted its) e typed known',
      ))
      (λ plain. (
        (
          (
            into,
            second-common program.types op (common to its) (type_of (as_kind at (common to its) e)) plain
                (as_kind-number program.types at (common to its) e sound),
          ),
          refl,
          tt,
        ),
        object,
        converted-typed program function types sound grows at its (common to its) e typed known',
      ))

  -- the object is a pointer to objects of that size
  advance_by-typed : (way : Option Bool) (o : Option ℕ) (at : Place) (it : LeftValue) (e : RightValue) → IsTypedObject program function it
      → IsTyped program function e → size_at types (pointed types (type_of_left it)) ≡ o → IsAnyNumber program.types (type_of e)
      → MakesTyped program function (advance_by at way o it e)
  advance_by-typed None o at it e object typed known number = refuses (IsTyped program function) at
  advance_by-typed (Some backward) None at it e object typed known number = refuses (IsTyped program function) at
  advance_by-typed (Some backward) (Some size) at it e object typed known number =
      gives (IsTyped program function) (tree.advance (head_at at (type_of_left it)) (record { size = size; backward = backward }) it e) (
        ((pointed_size-stays types program.types grows (type_of_left it) size known, number), refl, tt),
        object,
        typed,
      )

  -- one of both
  update_by-typed : (o p : Option Integer) (at : Place) (op : Arithmetic) (it : LeftValue) (e : RightValue) → IsTypedObject program function it
      → IsTyped program function e → number_kind types (type_of_left it) ≡ o → number_kind types (type_of e) ≡ p
      → MakesTyped program function (update_by types at op o p it e)
  update_by-typed o None at op it e object typed known known' = refuses (IsTyped program function) at
  update_by-typed (Some to) (Some its) at op it e object typed known known' =
      gives (IsTyped program function) (update_with at op to its it e) (update_with-typed at op to its it e object typed known known')
  update_by-typed None (Some its) at op it e object typed known known' =
      advance_by-typed (direction op) (size_at types (pointed types (type_of_left it))) at it e object typed refl
      (known_number program function types sound grows (type_of e) its known')

  -- `l op= e`
  pub update-typed : (at : Place) (op : Arithmetic) (it : LeftValue) (e : RightValue) → IsTypedObject program function it
      → IsTyped program function e → MakesTyped program function (update_of types at op it e)
  update-typed at op it e object typed =
      whichever (MakesTyped program function) (is_accessible types (type_of_left it))
      (update_by-typed (number_kind types (type_of_left it)) (number_kind types (type_of e)) at op it e object typed refl refl)
      (refuses (IsTyped program function) at)

  -- the same without a right operand
  post_advance_by-typed : (way : Option Bool) (o : Option ℕ) (at : Place) (it : LeftValue) → IsTypedObject program function it
      → size_at types (pointed types (type_of_left it)) ≡ o → MakesTyped program function (post_advance_by at way o it)
  post_advance_by-typed None o at it object known = refuses (IsTyped program function) at
  post_advance_by-typed (Some backward) None at it object known = refuses (IsTyped program function) at
  post_advance_by-typed (Some backward) (Some size) at it object known =
      gives (IsTyped program function) (tree.post_advance (head_at at (type_of_left it)) (record { size = size; backward = backward }) it)
      ((pointed_size-stays types program.types grows (type_of_left it) size known, refl, tt), object)

  post_update_by-typed : (o : Option Integer) (at : Place) (op : Arithmetic) (it : LeftValue) → IsTypedObject program function it
      → number_kind types (type_of_left it) ≡ o → MakesTyped program function (post_update_by types at op o it)
  post_update_by-typed (Some to) at op it object known =
      gives (IsTyped program function) (tree.post_update (head_at at (type_of_left it)) op (common to kind.Int) to it)
      ((number_kind-stays types program.types grows (type_of_left it) to known, refl, tt), object)
  post_update_by-typed None at op it object known =
      post_advance_by-typed (direction op) (size_at types (pointed types (type_of_left it))) at it object refl

  -- `l++` and `l--`
  pub post_update-typed : (at : Place) (op : Arithmetic) (it : LeftValue) → IsTypedObject program function it
      → MakesTyped program function (post_update_of types at op it)
  post_update-typed at op it object =
      whichever (MakesTyped program function) (is_accessible types (type_of_left it))
      (post_update_by-typed (number_kind types (type_of_left it)) at op it object refl) (refuses (IsTyped program function) at)

  -- `(type)e`
  pub cast-typed : (at : Place) (id : TypeId) (e : RightValue) → IsTyped program function e → MakesTyped program function (cast_of types at id e)
  cast-typed at id e typed =
      either_way (MakesTyped program function) (is_void types id) (Ok (tree.cast (head_at at id) e))
      (if is_scalar types id && is_complete types id
      then assigned types at id e >>= (λ converted. Ok (tree.cast (head_at at id) converted))
      else Err (Untyped at))
      (λ void. gives (IsTyped program function) (tree.cast (head_at at id) e) (
        (void-or_not id void (IsScalar program.types (type_of e)), void-or_not id void (id ≡ type_of e), tt),
        typed,
      ))
      (λ other. either_way (MakesTyped program function) (is_scalar types id && is_complete types id)
      (assigned types at id e >>= (λ converted. Ok (tree.cast (head_at at id) converted))) (Err (Untyped at))
      (λ both. gives_then (IsTyped program function) (assigned types at id e) (λ converted. Ok (tree.cast (head_at at id) converted))
      (λ converted given.
      let is : IsOfType id converted = assigned-typed at id e typed converted given in
      gives (IsTyped program function) (tree.cast (head_at at id) converted) (
        (
          λ some. subst (IsScalar program.types) (sym is.1)
              (is_scalar-stays types program.types grows id (first-of (is_scalar types id) (is_complete types id) both)),
          λ some. sym is.1,
          tt,
        ),
        is.0,
      ))) (λ neither. refuses (IsTyped program function) at))
    where
      -- void is not something else
      void-or_not : (id : TypeId) → is_void types id ≡ true → (holds : Type 0) → is_void program.types id ≡ false → holds
      void-or_not id void holds other = let stays : is_void program.types id ≡ true = is_void-stays types program.types grows id void in absurd cc
