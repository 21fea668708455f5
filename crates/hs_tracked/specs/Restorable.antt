-- Every slot that may have a handle is among those whose facts change when a state byte is put back (own).
--     restorable_place, restorable_class      a place below the arguments, and a class of the program
--     FitKinds here machine                   variables have values of their kinds
--     restorable_variable                     a variable that has a pointer
--     IsListed count cell, AreListed          each pointer in memory is of a class of the program
use Rattle.std.proofs.Common.{◌≡◌, ◌<◌, ◌+◌, ◌⊎◌, inl, inr, ℕ, zero, suc, nat_lt, ◌&&◌, Bool, true, false, List, [], ◌∷◌, ◌++◌, slice_get, Option, Some, None, refl, ap, ◌∙◌, subst, arith}
use Rattle.std.proofs.lemmas.Bool.Decides.{nat_tests}
use Rattle.std.proofs.lemmas.Option.{none-some, same_Some}
use Rattle.std.specs.List.{AllByRecursion}
use Rattle.hs_calls.specs.Calls.{Here}
use Rattle.hs_code.specs.Stacks as kind
use Rattle.hs_code.specs.Stacks.{Scope}
use Rattle.hs_flow.specs.Among.{Among, among_left, among_right, among_slot}
use Rattle.hs_flow.specs.Restorable.{classes_below, is_pointer_slot, places_below, pointer_globals, pointer_locals, restorable}
use Rattle.hs_flow.specs.Slots.{slot_if}
use Rattle.hs_flow.specs.declared.fact.Slot.TheVariants as slot
use Rattle.hs_heap.specs.declared.cell.Cell.{Cell}
use Rattle.hs_heap.specs.declared.cell.Cell.TheVariants.{Undefined, Byte, State, Part}
use Rattle.hs_heap.specs.declared.cell.Pointer.{Pointer}
use Rattle.hs_hiding.specs.Holding.{value_of}
use Rattle.hs_kinds.specs.Kinds.{FitsBinding, FitBindings, FitsThere, IsOfKind, binding_there}
use Rattle.hs_meaning.specs.Machine as machines
use Rattle.hs_meaning.specs.Machine.{Machine, Binding, object_at, value_of_slot}
use Rattle.hs_meaning.specs.Objects.{variables_of}
use Rattle.hs_meaning.specs.Values.{Value, number, pointer, state, structure}
use Rattle.hs_tree.specs.Kinds.{is_pointer, is_struct_row}
use Rattle.hs_tree.specs.declared.globals.Global.{Global}
use Rattle.hs_tree.specs.declared.head.Variable.{Variable}
use Rattle.hs_tree.specs.declared.head.Variable.TheVariants as name
use Rattle.hs_tree.specs.declared.head.VariableDecl.{VariableDecl}
use Rattle.hs_types.specs.TypeTables.{TypeTable, row_of}

-- ---- pointers in memory

-- a pointer in memory is of one of so many classes
abbrev pub IsListed : ℕ → Cell → Type 0
IsListed count Undefined = Unit {0}
IsListed count (Byte byte) = Unit {0}
IsListed count (State byte) = Unit {0}
IsListed count (Part at its class) = class < count

-- and one in a struct
abbrev pub IsValueListed : ℕ → Value → Type 0
IsValueListed count (number bits) = Unit {0}
IsValueListed count (pointer its) = Unit {0}
IsValueListed count (state byte) = Unit {0}
IsValueListed count (structure cells) = AllByRecursion (IsListed count) cells

-- all that a call has
pub record AreListed (count : ℕ) (here : Here) (machine : Machine) : Type 0 where
  pub stack : AllByRecursion (IsValueListed count) here.stack
  pub variables : (x : Variable) (v : Value) → value_of machine x ≡ Some v → IsValueListed count v
  pub blocks : AllByRecursion (λ block. AllByRecursion (IsListed count) block.cells) machine.blocks
  pub objects : AllByRecursion (λ its. AllByRecursion (IsListed count) its.cells) machine.objects

-- ---- the lists

by_less : (a b : ℕ) → a < suc b → (a < b) ⊎ (a ≡ b)
by_less a b is = by_test (nat_lt a b) refl
  where
    by_test : (z : Bool) → nat_lt a b ≡ z → (a < b) ⊎ (a ≡ b)
    by_test true so = inl (grind (so, nat_tests, arith))
    by_test false so = inr (grind (so, is, nat_tests, arith))

among_places : (low i : ℕ) → i < low → Among (places_below low) (slot.Place i)
among_places zero i less = absurd (omega (less, arith))
among_places (suc low) i less = by_last (by_less i low less) (λ lower. among_places low i lower)
  where
    by_last : (i < low) ⊎ (i ≡ low) → (i < low → Among (places_below low) (slot.Place i)) → Among (places_below low ++ slot.Place low ∷ []) (slot.Place i)
    by_last (inl lower) each = among_left (places_below low) (slot.Place low ∷ []) (slot.Place i) (each lower)
    by_last (inr same) each = among_right (places_below low) (slot.Place low ∷ []) (slot.Place i) (inl (ap slot.Place same))

among_classes : (count class : ℕ) → class < count → Among (classes_below count) (slot.Class class)
among_classes zero class less = absurd (omega (less, arith))
among_classes (suc count) class less = by_last (by_less class count less) (λ lower. among_classes count class lower)
  where
    by_last : (class < count) ⊎ (class ≡ count) → (class < count → Among (classes_below count) (slot.Class class))
        → Among (classes_below count ++ slot.Class count ∷ []) (slot.Class class)
    by_last (inl lower) each = among_left (classes_below count) (slot.Class count ∷ []) (slot.Class class) (each lower)
    by_last (inr same) each = among_right (classes_below count) (slot.Class count ∷ []) (slot.Class class) (inl (ap slot.Class same))

among_locals : (types : TypeTable) (first i : ℕ) (variables : List VariableDecl) (it : VariableDecl) → slice_get variables i ≡ Some it
    → is_pointer_slot types it ≡ true → Among (pointer_locals types first variables) (slot.Variable (name.Local (first + i)))
among_locals types first i [] it there is = absurd (none-some it there)
among_locals types first zero (one ∷ rest) it there is =
    among_left (slot_if (is_pointer_slot types one) (slot.Variable (name.Local first))) (pointer_locals types (suc first) rest)
    (slot.Variable (name.Local (first + 0)))
    (subst (λ n. Among (slot_if (is_pointer_slot types one) (slot.Variable (name.Local first))) (slot.Variable (name.Local n))) (at_first first)
    (among_slot (is_pointer_slot types one) (slot.Variable (name.Local first)) (ap (is_pointer_slot types) (same_Some one it there) ∙ is)))
  where
    at_first : (n : ℕ) → n ≡ n + 0
    at_first n = omega arith
among_locals types first (suc i) (one ∷ rest) it there is =
    among_right (slot_if (is_pointer_slot types one) (slot.Variable (name.Local first))) (pointer_locals types (suc first) rest)
    (slot.Variable (name.Local (first + suc i)))
    (subst (λ n. Among (pointer_locals types (suc first) rest) (slot.Variable (name.Local n))) (one_on first i)
    (among_locals types (suc first) i rest it there is))
  where
    one_on : (n k : ℕ) → suc n + k ≡ n + suc k
    one_on n k = omega arith

among_globals : (types : TypeTable) (first i : ℕ) (globals : List Global) (it : VariableDecl) → slice_get (variables_of globals) i ≡ Some it
    → is_pointer_slot types it ≡ true → Among (pointer_globals types first globals) (slot.Variable (name.Global (first + i)))
among_globals types first i [] it there is = absurd (none-some it there)
among_globals types first zero (one ∷ rest) it there is =
    among_left (slot_if (is_pointer_slot types one.variable) (slot.Variable (name.Global first))) (pointer_globals types (suc first) rest)
    (slot.Variable (name.Global (first + 0)))
    (subst (λ n. Among (slot_if (is_pointer_slot types one.variable) (slot.Variable (name.Global first))) (slot.Variable (name.Global n))) (at_first first)
    (among_slot (is_pointer_slot types one.variable) (slot.Variable (name.Global first))
    (ap (is_pointer_slot types) (same_Some one.variable it there) ∙ is)))
  where
    at_first : (n : ℕ) → n ≡ n + 0
    at_first n = omega arith
among_globals types first (suc i) (one ∷ rest) it there is =
    among_right (slot_if (is_pointer_slot types one.variable) (slot.Variable (name.Global first))) (pointer_globals types (suc first) rest)
    (slot.Variable (name.Global (first + suc i)))
    (subst (λ n. Among (pointer_globals types (suc first) rest) (slot.Variable (name.Global n))) (one_on first i)
    (among_globals types (suc first) i rest it there is))
  where
    one_on : (n k : ℕ) → suc n + k ≡ n + suc k
    one_on n k = omega arith

-- ---- variables

-- a slot that has a pointer is of a pointer type
is_of_pointer : (types : TypeTable) (it : VariableDecl) (p : Pointer) → FitsBinding types it (machines.slot (Some (pointer p)))
    → is_pointer_slot types it ≡ true
is_of_pointer types it p fits =
    ap (λ z. z && is_pointer types it.type_id) fits.0
    ∙ by_kind (is_pointer types it.type_id) (is_struct_row (row_of types it.type_id)) fits.1
  where
    by_kind : (z struct : Bool) → IsOfKind (kind.kind_by z struct) (pointer p) → z ≡ true
    by_kind true struct is = refl
    by_kind false true is = absurd is
    by_kind false false is = absurd is

pointer_there : (types : TypeTable) (variables : List VariableDecl) (bindings : List Binding) (i : ℕ) (p : Pointer) → FitBindings types variables bindings
    → value_of_slot (slice_get bindings i) ≡ Some (pointer p) → (it : VariableDecl) × (slice_get variables i ≡ Some it) × (is_pointer_slot types it ≡ true)
pointer_there types variables bindings i p fit is =
    by_both (slice_get variables i) (slice_get bindings i) refl is (binding_there types variables bindings i fit)
  where
    by_both : (declared : Option VariableDecl) (found : Option Binding) → slice_get variables i ≡ declared → value_of_slot found ≡ Some (pointer p)
        → FitsThere types declared found → (it : VariableDecl) × (slice_get variables i ≡ Some it) × (is_pointer_slot types it ≡ true)
    by_both None None there is fits = absurd (none-some (pointer p) is)
    by_both None (Some one) there is fits = absurd fits
    by_both (Some it) None there is fits = absurd fits
    by_both (Some it) (Some (object_at place)) there is fits = absurd (none-some (pointer p) is)
    by_both (Some it) (Some (machines.slot None)) there is fits = absurd (none-some (pointer p) is)
    by_both (Some it) (Some (machines.slot (Some v))) there is fits =
        (it, there, is_of_pointer types it p (subst (λ u. FitsBinding types it (machines.slot (Some u))) (same_Some v (pointer p) is) fits))

module _ (scope : Scope) (classes base : ℕ) where
  pub restorable_place : (i : ℕ) → i < base → Among (restorable scope classes base) (slot.Place i)
  restorable_place i low =
      among_right (pointer_globals scope.types 0 scope.globals)
      (pointer_locals scope.types 0 scope.variables ++ (places_below base ++ classes_below classes)) (slot.Place i)
      (among_right (pointer_locals scope.types 0 scope.variables) (places_below base ++ classes_below classes) (slot.Place i)
      (among_left (places_below base) (classes_below classes) (slot.Place i) (among_places base i low)))

  pub restorable_class : (class : ℕ) → class < classes → Among (restorable scope classes base) (slot.Class class)
  restorable_class class low =
      among_right (pointer_globals scope.types 0 scope.globals)
      (pointer_locals scope.types 0 scope.variables ++ (places_below base ++ classes_below classes)) (slot.Class class)
      (among_right (pointer_locals scope.types 0 scope.variables) (places_below base ++ classes_below classes) (slot.Class class)
      (among_right (places_below base) (classes_below classes) (slot.Class class) (among_classes classes class low)))

  -- variables have values of their kinds
  pub record FitKinds (machine : Machine) : Type 0 where
    pub locals : FitBindings scope.types scope.variables machine.locals
    pub globals : FitBindings scope.types (variables_of scope.globals) machine.globals

  pub restorable_variable : (machine : Machine) → FitKinds machine → (x : Variable) (p : Pointer) → value_of machine x ≡ Some (pointer p)
      → Among (restorable scope classes base) (slot.Variable x)
  restorable_variable machine fit (name.Global g) p is =
      among_left (pointer_globals scope.types 0 scope.globals)
      (pointer_locals scope.types 0 scope.variables ++ (places_below base ++ classes_below classes)) (slot.Variable (name.Global g))
      (by_there (pointer_there scope.types (variables_of scope.globals) machine.globals g p fit.globals is))
    where
      at_zero : (n : ℕ) → 0 + n ≡ n
      at_zero n = omega arith

      by_there : (it : VariableDecl) × (slice_get (variables_of scope.globals) g ≡ Some it) × (is_pointer_slot scope.types it ≡ true)
          → Among (pointer_globals scope.types 0 scope.globals) (slot.Variable (name.Global g))
      by_there it =
          subst (λ n. Among (pointer_globals scope.types 0 scope.globals) (slot.Variable (name.Global n))) (at_zero g)
          (among_globals scope.types 0 g scope.globals it.0 it.1 it.2)
  restorable_variable machine fit (name.Local i) p is =
      among_right (pointer_globals scope.types 0 scope.globals)
      (pointer_locals scope.types 0 scope.variables ++ (places_below base ++ classes_below classes)) (slot.Variable (name.Local i))
      (among_left (pointer_locals scope.types 0 scope.variables) (places_below base ++ classes_below classes) (slot.Variable (name.Local i))
      (by_there (pointer_there scope.types scope.variables machine.locals i p fit.locals is)))
    where
      at_zero : (n : ℕ) → 0 + n ≡ n
      at_zero n = omega arith

      by_there : (it : VariableDecl) × (slice_get scope.variables i ≡ Some it) × (is_pointer_slot scope.types it ≡ true)
          → Among (pointer_locals scope.types 0 scope.variables) (slot.Variable (name.Local i))
      by_there it =
          subst (λ n. Among (pointer_locals scope.types 0 scope.variables) (slot.Variable (name.Local n))) (at_zero i)
          (among_locals scope.types 0 i scope.variables it.0 it.1 it.2)
