-- A call begins with slots and objects as its variables are declared, and ends with those of the caller (own).
--     bindings_as_declared       what variables without values are
--     opened_keeps               the machine at the start of a call
--     closed_globals             the variables of the program at its end
use Rattle.std.proofs.Common.{◌≡◌, ℕ, zero, suc, pos, Bool, true, false, List, [], ◌∷◌, length, take, slice_get, Option, Some, None, refl, sym, ap, ◌∙◌, if◌then◌else◌}
use Rattle.hs_heap.specs.declared.cell.Pointer.TheVariants.{Fixed}
use Rattle.hs_lowering.specs.Laws.Variables.{SameSlots, bare, is_slot_binding, slots_of_same, set_keeps_slots, KeepsVariables, stored_keeps}
use Rattle.hs_meaning.specs.Accesses.{stored}
use Rattle.hs_meaning.specs.Classes.{is_slot_declared, class_of_type}
use Rattle.hs_meaning.specs.Frames.{has_frame, in_frame, given_to, given_all, opened_if, opened, without_objects, closed}
use Rattle.hs_meaning.specs.Machine.{Machine, Binding, slot, object_at, Done, done, stopped, and_then, binding_of, with_object, ended_object}
use Rattle.hs_meaning.specs.Objects.{bindings, objects_for}
use Rattle.hs_meaning.specs.Settings.{Setting, access_of_type}
use Rattle.hs_meaning.specs.Values.{Value}
use Rattle.hs_tree.specs.Classes.{is_slot}
use Rattle.hs_tree.specs.declared.head.Variable.TheVariants as name
use Rattle.hs_tree.specs.declared.head.VariableDecl.{VariableDecl}
use Rattle.hs_types.specs.TypeTables.{TypeTable}
use Rattle.hs_types.specs.declared.row.TypeId.{TypeId}

-- a variable is a slot if it is declared so
pub bindings_as_declared : (types : TypeTable) (next : ℕ) (variables : List VariableDecl) (place : ℕ)
    → is_slot_binding (slice_get (bindings types next variables) place) ≡ is_slot_declared types (slice_get variables place)
bindings_as_declared types next [] place = refl
bindings_as_declared types next (variable ∷ rest) place =
    by (is_slot types variable) refl place (λ n at. bindings_as_declared types n rest at)
  where
    by : (b : Bool) → is_slot types variable ≡ b → (place : ℕ)
        → ((n at : ℕ) → is_slot_binding (slice_get (bindings types n rest) at) ≡ is_slot_declared types (slice_get rest at))
        → is_slot_binding (slice_get (if b then slot None ∷ bindings types next rest else object_at next ∷ bindings types (suc next) rest) place)
        ≡ is_slot_declared types (slice_get (variable ∷ rest) place)
    by true is zero others = sym is
    by true is (suc at) others = others next at
    by false is zero others = sym is
    by false is (suc at) others = others (suc next) at

-- ---- the start of a call

-- variables stay what they are
abbrev pub KeepsSlots : {A : Type 0} → Machine → Done A → Type 0
KeepsSlots before (done it after) = SameSlots before after
KeepsSlots before (stopped why after) = Unit {0}

same_itself : (machine : Machine) → SameSlots machine machine
same_itself machine its = refl

keeps_then : {A B : Type 0} → (machine : Machine) (its : Done A) (next : A → Machine → Done B) → KeepsSlots machine its
    → ((it : A) (after : Machine) → KeepsSlots after (next it after)) → KeepsSlots machine (and_then its next)
keeps_then {B = B} machine (done it after) next is each = by (next it after) (each it after)
  where
    by : (r : Done B) → KeepsSlots after r → KeepsSlots machine r
    by (done other later) so = λ its. so its ∙ is its
    by (stopped why later) so = tt
keeps_then machine (stopped why after) next is each = tt

of_variables : {A : Type 0} → (machine : Machine) (its : Done A) → KeepsVariables machine its → KeepsSlots machine its
of_variables machine (done it after) is = slots_of_same machine after is
of_variables machine (stopped why after) is = tt

given_keeps : (setting : Setting) (place : ℕ) (id : TypeId) (value : Value) (binding : Option Binding) (machine : Machine)
    → slice_get machine.locals place ≡ binding → KeepsSlots machine (given_to setting place id value binding machine)
given_keeps setting place id value None machine is = tt
given_keeps setting place id value (Some (slot before)) machine is =
    set_keeps_slots (name.Local place) value machine (ap is_slot_binding is)
given_keeps setting place id value (Some (object_at object)) machine is =
    keeps_then machine (stored (access_of_type setting id (class_of_type setting.same id)) (Fixed object (pos 0)) value machine)
    (λ it after. done tt after)
    (of_variables machine (stored (access_of_type setting id (class_of_type setting.same id)) (Fixed object (pos 0)) value machine)
    (stored_keeps (access_of_type setting id (class_of_type setting.same id)) (Fixed object (pos 0)) value machine)) (λ it after. same_itself after)

given_all_keeps : (setting : Setting) (place : ℕ) (variables : List VariableDecl) (values : List Value) (machine : Machine)
    → KeepsSlots machine (given_all setting place variables values machine)
given_all_keeps setting place [] values machine = same_itself machine
given_all_keeps setting place (variable ∷ rest) [] machine = tt
given_all_keeps setting place (variable ∷ rest) (value ∷ values) machine =
    keeps_then machine (given_to setting place variable.type_id value (slice_get machine.locals place) machine)
    (λ it after. given_all setting (suc place) rest values after)
    (given_keeps setting place variable.type_id value (slice_get machine.locals place) machine refl)
    (λ it after. given_all_keeps setting (suc place) rest values after)

-- the variables of the program stay what they are, and those of the function are as declared
abbrev pub Opens : Setting → List VariableDecl → Machine → Done (Unit {0}) → Type 0
Opens setting variables before (done it after) =
    ((place : ℕ) → bare (binding_of (name.Global place) after) ≡ bare (binding_of (name.Global place) before))
    × ((place : ℕ) → bare (binding_of (name.Local place) after) ≡ bare (slice_get (bindings setting.types (length before.objects) variables) place))
Opens setting variables before (stopped why after) = Unit {0}

pub opened_keeps : (setting : Setting) (parameters : ℕ) (variables : List VariableDecl) (values : List Value) (machine : Machine)
    → Opens setting variables machine (opened setting parameters variables values machine)
opened_keeps setting parameters variables values machine = by (has_frame (objects_for setting.types variables) machine)
  where
    inside : Machine
    inside = in_frame (bindings setting.types (length machine.objects) variables) (objects_for setting.types variables) machine

    from : (its : Done (Unit {0})) → KeepsSlots inside its → Opens setting variables machine its
    from (done it after) same = (λ place. same (name.Global place), λ place. same (name.Local place))
    from (stopped why after) same = tt

    by : (b : Bool) → Opens setting variables machine (opened_if b setting parameters variables values machine)
    by false = tt
    by true =
        from (given_all setting 0 (take parameters variables) values inside) (given_all_keeps setting 0 (take parameters variables) values inside)

-- ---- the end of a call

without_globals : (locals : List Binding) (machine : Machine) → (without_objects locals machine).globals ≡ machine.globals
without_globals [] machine = refl
without_globals (slot value ∷ rest) machine = without_globals rest machine
without_globals (object_at place ∷ rest) machine = without_globals rest (with_object place ended_object machine)

-- the variables of the program
pub closed_globals : (caller : List Binding) (machine : Machine) → (closed caller machine).globals ≡ machine.globals
closed_globals caller machine = without_globals machine.locals machine
