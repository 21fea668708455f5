-- Constants that well-typed values are (X3.159-1989 3.4): each is one of the type of its value, and an address is one of an object that is
-- there and is no slot.
--     null_pointer                    the null pointer is of a pointer type
--     address_right, object_base      what an address constant points to
--     constant_right                  the constant that a value is
use Rattle.std.proofs.Common.{◌≡◌, ℕ, ℤ, Bool, true, false, not, ◌&&◌, Option, Some, None, refl, sym, subst, ap, ◌∙◌, if◌then◌else◌}
use Rattle.std.specs.Prelude.{is_some, slice_get, IsTrue, pos, ◌+ℤ◌}
use Rattle.hs_base.specs.Options.{some_same}
use Rattle.hs_expressions.specs.Binding.Keeping.{IsBound, IsBoundObject}
use Rattle.hs_fitting.specs.Answers.{none_some, Given}
use Rattle.hs_fitting.specs.Categories.{pointer_not_void, array_no_scalar, alike_scalar, element_pointer, sized_pointer, struct_pointer}
use Rattle.hs_fitting.specs.ConstantNumbers.{HasWideKinds, InKind, number_right}
use Rattle.hs_aggregates.specs.Addresses.{start_of, is_offset, address_at, bytes_over, moved, stepped, address_value, address_of_object, is_null, constant_by, constant_in}
use Rattle.hs_operand_types.specs.Constants.{constant_value}
use Rattle.hs_operands.specs.Laws.{IsTyped, IsTypedObject}
use Rattle.hs_tree.specs.Fitting.{IsMarked, IsObjectOf, is_taken_variable, variable_of_global}
use Rattle.hs_tree.specs.Inside.{right}
use Rattle.hs_tree.specs.Kinds.{element, is_scalar, is_void, pointed, IsPointer, IsStruct}
use Rattle.hs_tree.specs.Objects.{is_object, IsBase, IsConstant}
use Rattle.hs_tree.specs.Trees as tree
use Rattle.hs_tree.specs.Trees.{RightValue, LeftValue, TypedFunction, TypedProgram, type_of, type_of_left}
use Rattle.hs_tree.specs.declared.constant.Base.{Base}
use Rattle.hs_tree.specs.declared.constant.Base.TheVariants as base
use Rattle.hs_tree.specs.declared.constant.Constant.{Constant}
use Rattle.hs_tree.specs.declared.constant.Constant.TheVariants as constant
use Rattle.hs_tree.specs.declared.globals.Global.{Global}
use Rattle.hs_tree.specs.declared.head.Head.{Head}
use Rattle.hs_tree.specs.declared.head.Variable.TheVariants as name
use Rattle.hs_types.specs.TypeTables.{TypeTable, IsRight, Grows}
use Rattle.hs_types.specs.declared.row.TypeId.{TypeId}

-- an address
abbrev Address : Type 0
Address = Given start_of

-- ---- addresses

-- so many bytes on, in the same object
at_known : (b : Bool) (its : Base) (bytes : ℤ) (a : Address) → address_at its bytes ≡ Some a → is_offset bytes ≡ b → its ≡ a.base
at_known true its bytes a given same = ap (λ it. it.base) (some_same (record { base = its; offset = bytes }) a (sym (rw same refl) ∙ given))
at_known false its bytes a given same = absurd (none_some a (sym (rw same refl) ∙ given))

moved_known : (bytes : ℤ) (o : Option Address) (a : Address) → moved bytes o ≡ Some a → (it : Address) × (o ≡ Some it) × (it.base ≡ a.base)
moved_known bytes None a given = absurd cc
moved_known bytes (Some it) a given = (it, refl, at_known (is_offset (it.offset +ℤ bytes)) it.base (it.offset +ℤ bytes) a given refl)

stepped_known : (backward : Bool) (size : ℕ) (number : _) (o : Option Address) (a : Address) → stepped backward size number o ≡ Some a
    → (it : Address) × (o ≡ Some it) × (it.base ≡ a.base)
stepped_known backward size None o a given = absurd cc
stepped_known backward size (Some number) o a given = by number.fails refl given
  where
    by : (b : Bool) → number.fails ≡ b → (if number.fails then None else moved (bytes_over backward size number.bits) o) ≡ Some a
        → (it : Address) × (o ≡ Some it) × (it.base ≡ a.base)
    by true fails given' = absurd (none_some a (sym (rw fails refl) ∙ given'))
    by false fails given' = moved_known (bytes_over backward size number.bits) o a (sym (rw fails refl) ∙ given')

module _ (program : TypedProgram) (function : TypedFunction) where
  -- a variable of static storage duration is no slot
  abbrev pub Unslotted : LeftValue → Type 0
  Unslotted (tree.variable head (name.Global place)) = IsTrue (is_object program.types (slice_get program.globals place))
  Unslotted (tree.variable head (name.Local place)) = Unit {0}
  Unslotted (tree.literal head number) = Unit {0}
  Unslotted (tree.target head pointer) = Unit {0}
  Unslotted (tree.element head size pointer_first a b) = Unit {0}
  Unslotted (tree.member head field offset object) = Unit {0}
  Unslotted (tree.arrow head field offset pointer) = Unit {0}

  -- as it is no scalar
  global_unslotted : (o : Option Global) (id : TypeId) → IsObjectOf program.types o id → is_scalar program.types id ≡ false
      → IsTrue (is_object program.types o)
  global_unslotted None id is scalar = absurd is
  global_unslotted (Some it) id is scalar =
      let same : is_scalar program.types it.variable.type_id ≡ false = alike_scalar program.types program.types it.variable.type_id id is ∙ scalar in
      rw same refl

  no_scalar_unslotted : (it : LeftValue) → IsTypedObject program function it → is_scalar program.types (type_of_left it) ≡ false → Unslotted it
  no_scalar_unslotted (tree.variable head (name.Global place)) is scalar = global_unslotted (slice_get program.globals place) head.type_id is.1 scalar
  no_scalar_unslotted (tree.variable head (name.Local place)) is scalar = tt
  no_scalar_unslotted (tree.literal head number) is scalar = tt
  no_scalar_unslotted (tree.target head pointer) is scalar = tt
  no_scalar_unslotted (tree.element head size pointer_first a b) is scalar = tt
  no_scalar_unslotted (tree.member head field offset object) is scalar = tt
  no_scalar_unslotted (tree.arrow head field offset pointer) is scalar = tt

  -- an array, and a struct
  array_unslotted : (it : LeftValue) → IsTypedObject program function it → IsTrue (is_some (element program.types (type_of_left it))) → Unslotted it
  array_unslotted it is some = no_scalar_unslotted it is (array_no_scalar program.types (type_of_left it) some)

  struct_unslotted : (it : LeftValue) (number : ℕ) → IsTypedObject program function it → IsStruct program.types number (type_of_left it) → Unslotted it
  struct_unslotted it number is struct = no_scalar_unslotted it is (rw struct refl)

  -- or its address is taken
  taken_unslotted : (o : Option Global) → IsTrue (is_taken_variable (variable_of_global o)) → IsTrue (is_object program.types o)
  taken_unslotted None is = absurd cc
  taken_unslotted (Some it) is = rw is (either_scalar (is_scalar program.types it.variable.type_id))
    where
      either_scalar : (b : Bool) → not (b && not true) ≡ true
      either_scalar true = refl
      either_scalar false = refl

  marked_unslotted : (head : Head) (it : LeftValue) → IsMarked program function (right (tree.address head it)) → Unslotted it
  marked_unslotted head (tree.variable its (name.Global place)) is = taken_unslotted (slice_get program.globals place) is
  marked_unslotted head (tree.variable its (name.Local place)) is = tt
  marked_unslotted head (tree.literal its number) is = tt
  marked_unslotted head (tree.target its pointer) is = tt
  marked_unslotted head (tree.element its size pointer_first a b) is = tt
  marked_unslotted head (tree.member its field offset object) is = tt
  marked_unslotted head (tree.arrow its field offset pointer) is = tt

  -- the null pointer, cast or not
  null_pointer : (e : RightValue) → IsTyped program function e → is_void program.types (type_of e) ≡ false → is_null e ≡ true
      → IsPointer program.types (type_of e)
  null_pointer (tree.number head bits) is some given = absurd cc
  null_pointer (tree.nil head) is some given = is.1
  null_pointer (tree.load head object) is some given = absurd cc
  null_pointer (tree.decay head array) is some given = absurd cc
  null_pointer (tree.address head object) is some given = absurd cc
  null_pointer (tree.cast head operand) is some given =
      let same = is.0.1 some in
      subst (IsPointer program.types) (sym same)
      (null_pointer operand is.1 (subst (λ id. is_void program.types id ≡ false) same some) given)
  null_pointer (tree.convert_number head its operand) is some given = absurd cc
  null_pointer (tree.convert_pointer head operand) is some given = is.0.1
  null_pointer (tree.unary head operator its operand) is some given = absurd cc
  null_pointer (tree.not head operand) is some given = absurd cc
  null_pointer (tree.arithmetic head operator its a b) is some given = absurd cc
  null_pointer (tree.comparison head operator its a b) is some given = absurd cc
  null_pointer (tree.compare_pointers head operator a b) is some given = absurd cc
  null_pointer (tree.is_nil head equal pointer) is some given = absurd cc
  null_pointer (tree.step head stride pointer_first a b) is some given = absurd cc
  null_pointer (tree.difference head size a b) is some given = absurd cc
  null_pointer (tree.and head a b) is some given = absurd cc
  null_pointer (tree.or head a b) is some given = absurd cc
  null_pointer (tree.conditional head test taken otherwise) is some given = absurd cc
  null_pointer (tree.comma head lefts last) is some given = absurd cc
  null_pointer (tree.assign head into from) is some given = absurd cc
  null_pointer (tree.update head operator its to into from) is some given = absurd cc
  null_pointer (tree.advance head stride into from) is some given = absurd cc
  null_pointer (tree.post_update head operator its to into) is some given = absurd cc
  null_pointer (tree.post_advance head stride into) is some given = absurd cc
  null_pointer (tree.call head number routine arguments) is some given = absurd cc
  null_pointer (tree.call_routine head routine arguments) is some given = absurd cc

  module _ (types : TypeTable) where
    mutual
      -- an address constant, and the object that it points into
      pub address_right : (e : RightValue) → IsTyped program function e → IsBound program function e → is_void program.types (type_of e) ≡ false
          → (a : Address) → address_value types e ≡ Some a → IsPointer program.types (type_of e) × IsBase program a.base
      address_right (tree.number head bits) is bound some found given = absurd cc
      address_right (tree.nil head) is bound some found given = absurd cc
      address_right (tree.load head object) is bound some found given = absurd cc
      address_right (tree.decay head array) is bound some found given = (
        element_pointer (pointed program.types head.type_id) (element program.types (type_of_left array)) is.0.1 is.0.0,
        object_base array is.1 bound.1 (array_unslotted array is.1 is.0.0) found given,
      )
      address_right (tree.address head object) is bound some found given =
          (ap is_some is.0.1, object_base object is.1 bound.1 (marked_unslotted head object bound.0.3) found given)
      address_right (tree.cast head operand) is bound some found given =
          let same = is.0.1 some in
          subst (λ id. IsPointer program.types id × IsBase program found.base) (sym same)
          (address_right operand is.1 bound.1 (subst (λ id. is_void program.types id ≡ false) same some) found given)
      address_right (tree.convert_number head its operand) is bound some found given = absurd cc
      address_right (tree.convert_pointer head operand) is bound some found given =
          (is.0.1, (address_right operand is.1 bound.1 (pointer_not_void program.types (type_of operand) is.0.0) found given).1)
      address_right (tree.unary head operator its operand) is bound some found given = absurd cc
      address_right (tree.not head operand) is bound some found given = absurd cc
      address_right (tree.arithmetic head operator its a b) is bound some found given = absurd cc
      address_right (tree.comparison head operator its a b) is bound some found given = absurd cc
      address_right (tree.compare_pointers head operator a b) is bound some found given = absurd cc
      address_right (tree.is_nil head equal pointer) is bound some found given = absurd cc
      address_right (tree.step head stride true b c) is bound some found given =
          let had = stepped_known stride.backward stride.size (constant_value types c) (address_value types b) found given in
          let pointer : IsPointer program.types (type_of b) = sized_pointer program.types (pointed program.types (type_of b)) stride.size is.0.0.0.0 in (
            subst (IsPointer program.types) (sym is.0.1) pointer,
            subst (IsBase program) had.2 (address_right b is.1 bound.1 (pointer_not_void program.types (type_of b) pointer) had.0 had.1).1,
          )
      address_right (tree.step head stride false b c) is bound some found given =
          let had = stepped_known stride.backward stride.size (constant_value types b) (address_value types c) found given in
          let pointer : IsPointer program.types (type_of c) = sized_pointer program.types (pointed program.types (type_of c)) stride.size is.0.0.0.1 in (
            subst (IsPointer program.types) (sym is.0.1) pointer,
            subst (IsBase program) had.2 (address_right c is.2 bound.2 (pointer_not_void program.types (type_of c) pointer) had.0 had.1).1,
          )
      address_right (tree.difference head size a b) is bound some found given = absurd cc
      address_right (tree.and head a b) is bound some found given = absurd cc
      address_right (tree.or head a b) is bound some found given = absurd cc
      address_right (tree.conditional head test taken otherwise) is bound some found given = absurd cc
      address_right (tree.comma head lefts last) is bound some found given = absurd cc
      address_right (tree.assign head into from) is bound some found given = absurd cc
      address_right (tree.update head operator its to into from) is bound some found given = absurd cc
      address_right (tree.advance head stride into from) is bound some found given = absurd cc
      address_right (tree.post_update head operator its to into) is bound some found given = absurd cc
      address_right (tree.post_advance head stride into) is bound some found given = absurd cc
      address_right (tree.call head number routine arguments) is bound some found given = absurd cc
      address_right (tree.call_routine head routine arguments) is bound some found given = absurd cc

      pub object_base : (it : LeftValue) → IsTypedObject program function it → IsBoundObject program function it → Unslotted it → (a : Address)
          → address_of_object types it ≡ Some a → IsBase program a.base
      object_base (tree.variable head (name.Global place)) is bound unslotted a given =
          subst (λ it. IsBase program it.base) (some_same (start_of (base.Global place)) a given) unslotted
      object_base (tree.variable head (name.Local place)) is bound unslotted a given = absurd cc
      object_base (tree.literal head number) is bound unslotted a given =
          subst (λ it. IsBase program it.base) (some_same (start_of (base.Literal number)) a given) bound.0
      object_base (tree.target head pointer) is bound unslotted a given =
          (address_right pointer is.1 bound.1 (pointer_not_void program.types (type_of pointer) is.0.0) a given).1
      object_base (tree.element head size true b c) is bound unslotted a given =
          let had = stepped_known false size (constant_value types c) (address_value types b) a given in
          let pointer : IsPointer program.types (type_of b) = sized_pointer program.types (pointed program.types (type_of b)) size is.0.0.0 in
          subst (IsBase program) had.2 (address_right b is.1 bound.1 (pointer_not_void program.types (type_of b) pointer) had.0 had.1).1
      object_base (tree.element head size false b c) is bound unslotted a given =
          let had = stepped_known false size (constant_value types b) (address_value types c) a given in
          let pointer : IsPointer program.types (type_of c) = sized_pointer program.types (pointed program.types (type_of c)) size is.0.0.1 in
          subst (IsBase program) had.2 (address_right c is.2 bound.2 (pointer_not_void program.types (type_of c) pointer) had.0 had.1).1
      object_base (tree.member head field offset object) is bound unslotted a given =
          let had = moved_known (pos offset) (address_of_object types object) a given in
          subst (IsBase program) had.2
          (object_base object is.1 bound.1 (struct_unslotted object field.of is.1 is.0.0) had.0 had.1)
      object_base (tree.arrow head field offset pointer) is bound unslotted a given =
          let had = moved_known (pos offset) (address_value types pointer) a given in
          let points : IsPointer program.types (type_of pointer) = struct_pointer program.types (pointed program.types (type_of pointer)) field.of is.0.0 in
          subst (IsBase program) had.2
          (address_right pointer is.1 bound.1 (pointer_not_void program.types (type_of pointer) points) had.0 had.1).1

    -- ---- the constant that a value is

    number_constant : (id : TypeId) (v : _) (a : Option Address) (c : Constant) → constant_by (Some v) a ≡ Some c → InKind program v.bits id
        → IsConstant program id c
    number_constant id v a c given is = by v.fails refl given
      where
        by : (b : Bool) → v.fails ≡ b → (if v.fails then None else Some (constant.Number v.bits)) ≡ Some c → IsConstant program id c
        by true fails given' = absurd (none_some c (sym (rw fails refl) ∙ given'))
        by false fails given' = subst (IsConstant program id) (some_same (constant.Number v.bits) c (sym (rw fails refl) ∙ given')) is

    constant_by_right : (e : RightValue) → IsTyped program function e → IsBound program function e → HasWideKinds e
        → is_void program.types (type_of e) ≡ false → IsRight program.types → Grows types program.types → (v : _) (a : Option Address) (c : Constant)
        → constant_value types e ≡ v → address_value types e ≡ a → constant_by v a ≡ Some c → IsConstant program (type_of e) c
    constant_by_right e is bound wide some sound grows None None c number address given = absurd cc
    constant_by_right e is bound wide some sound grows None (Some a) c number address given =
        subst (IsConstant program (type_of e)) (some_same (constant.Address a.base a.offset) c given) (address_right e is bound some a address)
    constant_by_right e is bound wide some sound grows (Some v) a c number address given =
        number_constant (type_of e) v a c given (number_right program function sound types grows e is wide v number)

    constant_if : (b : Bool) (e : RightValue) → IsTyped program function e → IsBound program function e → HasWideKinds e
        → is_void program.types (type_of e) ≡ false → IsRight program.types → Grows types program.types → (c : Constant) → is_null e ≡ b
        → (if b then Some constant.Nil else constant_by (constant_value types e) (address_value types e)) ≡ Some c → IsConstant program (type_of e) c
    constant_if true e is bound wide some sound grows c null given =
        subst (IsConstant program (type_of e)) (some_same constant.Nil c given) (null_pointer e is some null)
    constant_if false e is bound wide some sound grows c null given =
        constant_by_right e is bound wide some sound grows (constant_value types e) (address_value types e) c refl refl given

    -- 3.4: a value that is no void expression, and computes in promoted kinds, is a constant of its type, if it is one.
    pub constant_right : (e : RightValue) → IsTyped program function e → IsBound program function e → HasWideKinds e
        → is_void program.types (type_of e) ≡ false → IsRight program.types → Grows types program.types → (c : Constant)
        → constant_in types e ≡ Some c → IsConstant program (type_of e) c
    constant_right e is bound wide some sound grows c given = constant_if (is_null e) e is bound wide some sound grows c refl given
