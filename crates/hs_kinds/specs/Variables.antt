-- Slots and calls: what a slot holds is of the kind of its type, and a call begins and ends with variables that are so.
use Rattle.std.proofs.Common.{◌≡◌, ℕ, zero, suc, pos, Bool, true, false, List, [], ◌∷◌, length, map, take, slice_get, Option, Some, None, refl, ap, sym, subst, if◌then◌else◌}
use Rattle.hs_code.specs.Stacks.{Kind, kind_of, slot_kind, variable_of_global}
use Rattle.hs_heap.specs.declared.cell.Pointer.TheVariants.{Fixed}
use Rattle.hs_kinds.specs.Kinds.{IsOfKind, AreOfKinds, FitBindings, FitsThere, binding_there, Takes, set_fits}
use Rattle.hs_kinds.specs.Operations.{DoneTo, IsSo, then_to, stored_to, IfHeld}
use Rattle.hs_meaning.specs.Accesses.{stored}
use Rattle.hs_meaning.specs.Classes.{class_of_type}
use Rattle.hs_meaning.specs.Frames.{has_frame, in_frame, given_to, given_all, opened_if, opened, without_objects}
use Rattle.hs_meaning.specs.Machine.{Machine, Binding, slot, object_at, done, value_of_slot, with_object, ended_object}
use Rattle.hs_meaning.specs.Objects.{bindings, objects_for, variables_of}
use Rattle.hs_meaning.specs.Settings.{Setting, access_of_type}
use Rattle.hs_meaning.specs.Values.{Value}
use Rattle.hs_tree.specs.Classes.{is_slot}
use Rattle.hs_tree.specs.Fitting.{types_of}
use Rattle.hs_tree.specs.declared.globals.Global.{Global}
use Rattle.hs_tree.specs.declared.head.VariableDecl.{VariableDecl}
use Rattle.hs_types.specs.TypeTables.{TypeTable}

-- the variable of a global
pub global_there : (globals : List Global) (place : ℕ) → slice_get (variables_of globals) place ≡ variable_of_global (slice_get globals place)
global_there [] place = refl
global_there (it ∷ globals) zero = refl
global_there (it ∷ globals) (suc place) = global_there globals place

module _ (types : TypeTable) where
  -- ---- slots

  -- a slot of that kind takes such a value
  pub takes_kind : (its : Option VariableDecl) (k : Kind) (value : Value) → slot_kind types its ≡ Some k → IsOfKind k value → Takes types its value
  takes_kind None k value is of = tt
  takes_kind (Some variable) k value is of = by_slot (is_slot types variable) refl is
    where
      kind_or : Option Kind → Kind
      kind_or None = k
      kind_or (Some a) = a

      by_slot : (b : Bool) → is_slot types variable ≡ b → (if b then Some (kind_of types variable.type_id) else None) ≡ Some k
          → Takes types (Some variable) value
      by_slot true so found = (so, subst (λ a. IsOfKind a value) (sym (ap kind_or found)) of)
      by_slot false so found = absurd cc

  -- what such a slot holds
  pub slot_held : (P : List Binding → List Binding → Type 0) (its : Option VariableDecl) (binding : Option Binding) (k : Kind)
      → slot_kind types its ≡ Some k → FitsThere types its binding → IfHeld P k (value_of_slot binding)
  slot_held P None binding k is fits = absurd cc
  slot_held P (Some variable) None k is fits = tt
  slot_held P (Some variable) (Some (slot None)) k is fits = tt
  slot_held P (Some variable) (Some (object_at place)) k is fits = tt
  slot_held P (Some variable) (Some (slot (Some value))) k is fits = by_slot (is_slot types variable) is
    where
      kind_or : Option Kind → Kind
      kind_or None = k
      kind_or (Some a) = a

      by_slot : (b : Bool) → (if b then Some (kind_of types variable.type_id) else None) ≡ Some k → IsOfKind k value
      by_slot true found = subst (λ a. IsOfKind a value) (ap kind_or found) fits.1
      by_slot false found = absurd cc

  -- ---- a call begins

  -- the variables of a call that begins
  new_fit : (next : ℕ) (variables : List VariableDecl) → FitBindings types variables (bindings types next variables)
  new_fit next [] = tt
  new_fit next (variable ∷ rest) = by_slot (is_slot types variable) refl (new_fit next rest) (new_fit (suc next) rest)
    where
      by_slot : (b : Bool) → is_slot types variable ≡ b → FitBindings types rest (bindings types next rest)
          → FitBindings types rest (bindings types (suc next) rest)
          → FitBindings types (variable ∷ rest)
          (if b then slot None ∷ bindings types next rest else object_at next ∷ bindings types (suc next) rest)
      by_slot true so first second = (so, first)
      by_slot false so first second = (so, second)

-- those variables are there from that place on
abbrev AllAt : ℕ → List VariableDecl → List VariableDecl → Type 0
AllAt place [] variables = Unit {0}
AllAt place (one ∷ rest) variables = (slice_get variables place ≡ Some one) × AllAt (suc place) rest variables

-- one place later
later_at : (place : ℕ) (rest : List VariableDecl) (one : VariableDecl) (variables : List VariableDecl) → AllAt place rest variables
    → AllAt (suc place) rest (one ∷ variables)
later_at place [] one variables all = tt
later_at place (it ∷ rest) one variables all = (all.0, later_at (suc place) rest one variables all.1)

-- the first of them
taken_at : (count : ℕ) (variables : List VariableDecl) → AllAt 0 (take count variables) variables
taken_at zero variables = tt
taken_at (suc count) [] = tt
taken_at (suc count) (one ∷ variables) = (refl, later_at 0 (take count variables) one variables (taken_at count variables))

module _ (setting : Setting) (G : List Binding → Type 0) (variables : List VariableDecl) where
  -- the variables of the program and of the called function
  abbrev Own : List Binding → List Binding → Type 0
  Own globals locals = G globals × FitBindings setting.types variables locals

  -- as a step asks for it
  abbrev pub Opens : Unit {0} → Machine → Type 0
  Opens it machine = IsSo Own machine

  -- a parameter takes its argument
  is_taken : (one : VariableDecl) (value : Value) (before : Option Value) (its : Option VariableDecl) → its ≡ Some one
      → FitsThere setting.types its (Some (slot before)) → IsOfKind (kind_of setting.types one.type_id) value → Takes setting.types its value
  is_taken one value before None is fits of = absurd cc
  is_taken one value None (Some its) is fits of = (fits, subst (λ v. IsOfKind (kind_of setting.types v.type_id) value) (sym (same its is)) of)
    where
      same : (a : VariableDecl) → Some a ≡ Some one → a ≡ one
      same a is = cc
  is_taken one value (Some v) (Some its) is fits of = (fits.0, subst (λ v. IsOfKind (kind_of setting.types v.type_id) value) (sym (same its is)) of)
    where
      same : (a : VariableDecl) → Some a ≡ Some one → a ≡ one
      same a is = cc

  -- one argument
  one_given : (place : ℕ) (one : VariableDecl) (value : Value) (binding : Option Binding) (machine : Machine)
      → slice_get variables place ≡ Some one → slice_get machine.locals place ≡ binding → IsOfKind (kind_of setting.types one.type_id) value
      → IsSo Own machine → DoneTo Opens (given_to setting place one.type_id value binding machine)
  one_given place one value None machine there is of so = tt
  one_given place one value (Some (slot before)) machine there is of so = (
    so.0,
    set_fits setting.types variables machine.locals place value so.1
        (is_taken one value before (slice_get variables place) there
        (subst (FitsThere setting.types (slice_get variables place)) is (binding_there setting.types variables machine.locals place so.1)) of),
  )
  one_given place one value (Some (object_at object)) machine there is of so =
      then_to Own (λ it after. IsOfKind (kind_of setting.types one.type_id) it × IsSo Own after) Opens
      (stored (access_of_type setting one.type_id (class_of_type setting.same one.type_id)) (Fixed object (pos 0)) value machine)
      (λ it after. done tt after)
      (stored_to Own (access_of_type setting one.type_id (class_of_type setting.same one.type_id)) (Fixed object (pos 0)) value
      (kind_of setting.types one.type_id) machine of so) (λ it after is. is.1)

  -- all arguments
  all_given : (place : ℕ) (parameters : List VariableDecl) (values : List Value) (machine : Machine) → AllAt place parameters variables
      → AreOfKinds (map (kind_of setting.types) (types_of parameters)) values → IsSo Own machine
      → DoneTo Opens (given_all setting place parameters values machine)
  all_given place [] values machine there are so = so
  all_given place (one ∷ rest) [] machine there are so = tt
  all_given place (one ∷ rest) (value ∷ values) machine there are so =
      then_to Own Opens Opens (given_to setting place one.type_id value (slice_get machine.locals place) machine)
      (λ it after. given_all setting (suc place) rest values after)
      (one_given place one value (slice_get machine.locals place) machine there.0 refl are.0 so)
      (λ it after is. all_given (suc place) rest values after there.1 are.1 is)

  -- if there is room
  opened_in : (b : Bool) (parameters : ℕ) (values : List Value) (machine : Machine) → G machine.globals
      → AreOfKinds (map (kind_of setting.types) (types_of (take parameters variables))) values
      → DoneTo Opens (opened_if b setting parameters variables values machine)
  opened_in false parameters values machine so are = tt
  opened_in true parameters values machine so are =
      all_given 0 (take parameters variables) values
      (in_frame (bindings setting.types (length machine.objects) variables) (objects_for setting.types variables) machine)
      (taken_at parameters variables) are (so, new_fit setting.types (length machine.objects) variables)

  -- a call begins with variables that fit
  pub opened_to : (parameters : ℕ) (values : List Value) (machine : Machine) → G machine.globals
      → AreOfKinds (map (kind_of setting.types) (types_of (take parameters variables))) values
      → DoneTo Opens (opened setting parameters variables values machine)
  opened_to parameters values machine so are = opened_in (has_frame (objects_for setting.types variables) machine) parameters values machine so are

-- ---- a call ends

-- where a call ends, the globals stay
pub ended_globals : (G : List Binding → Type 0) (locals : List Binding) (machine : Machine) → G machine.globals
    → G (without_objects locals machine).globals
ended_globals G [] machine so = so
ended_globals G (slot value ∷ rest) machine so = ended_globals G rest machine so
ended_globals G (object_at place ∷ rest) machine so = ended_globals G rest (with_object place ended_object machine) so
