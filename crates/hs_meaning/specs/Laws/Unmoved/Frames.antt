-- Calls on a heap that never moves.
--     AreUnmovedBindings all          variables whose values are unmoved
--     opened_still, closed_still      a call begins, and ends
--     owned_still                     the variables of the function that runs
--     missing_still                   the value of a call that ends without one
use Rattle.std.proofs.Common.{ℕ, suc, pos, Bool, true, false, List, [], ◌∷◌, length, take, replicate, slice_get, slice_set, Option, Some, None, refl}
use Rattle.std.specs.List.{AllByRecursion}
use Rattle.hs_heap.specs.declared.cell.Cell.TheVariants.{Undefined}
use Rattle.hs_heap.specs.declared.cell.Pointer.TheVariants.{Fixed}
use Rattle.hs_meaning.specs.Accesses.{stored}
use Rattle.hs_meaning.specs.Classes.{class_of_type}
use Rattle.hs_meaning.specs.Frames.{has_frame, in_frame, given_to, given_all, opened_if, opened, without_objects, back_to, missing_by, missing_value}
use Rattle.hs_meaning.specs.Laws.Unmoved.{IsUnmovedCell, IsUnmoved, IsUnmovedBinding, IsUnmovedObject, IsStillMachine, IsStillDone}
use Rattle.hs_meaning.specs.Laws.Unmoved.Accesses.{with_object_still, stored_still}
use Rattle.hs_meaning.specs.Laws.Unmoved.Fine.{Anything, then_still}
use Rattle.hs_meaning.specs.Laws.Unmoved.Lists.{all_append, all_replicate, all_set, all_either}
use Rattle.hs_meaning.specs.Machine.{Machine, Object, Binding, slot, object_at, automatic, done, with_object, ended_object}
use Rattle.hs_meaning.specs.Objects.{bindings, objects_for}
use Rattle.hs_meaning.specs.Runs.{own_locals, closes}
use Rattle.hs_meaning.specs.Settings.{Setting, access_of_type}
use Rattle.hs_meaning.specs.Values.{Value}
use Rattle.hs_tree.specs.Classes.{is_slot}
use Rattle.hs_tree.specs.Kinds.{is_pointer, is_struct_row}
use Rattle.hs_tree.specs.declared.head.VariableDecl.{VariableDecl}
use Rattle.hs_types.specs.TypeTables.{TypeTable, row_of, size_of}
use Rattle.hs_types.specs.declared.row.TypeId.{TypeId}

-- variables whose values are unmoved
abbrev pub AreUnmovedBindings : List Binding → Type 0
AreUnmovedBindings all = AllByRecursion IsUnmovedBinding all

-- ---- new variables

bindings_unmoved : (types : TypeTable) (next : ℕ) (variables : List VariableDecl) → AreUnmovedBindings (bindings types next variables)
bindings_unmoved types next [] = tt
bindings_unmoved types next (variable ∷ rest) =
    all_either IsUnmovedBinding (is_slot types variable) (slot None ∷ bindings types next rest) (object_at next ∷ bindings types (suc next) rest)
    (tt, bindings_unmoved types next rest) (tt, bindings_unmoved types (suc next) rest)

objects_unmoved : (types : TypeTable) (variables : List VariableDecl) → AllByRecursion IsUnmovedObject (objects_for types variables)
objects_unmoved types [] = tt
objects_unmoved types (variable ∷ rest) =
    all_either IsUnmovedObject (is_slot types variable) (objects_for types rest)
    (record { cells = replicate (size_of types variable.type_id) Undefined; storage = automatic } ∷ objects_for types rest)
    (objects_unmoved types rest) (all_replicate IsUnmovedCell (size_of types variable.type_id) Undefined tt, objects_unmoved types rest)

with_locals_still : (locals : List Binding) (machine : Machine) → AreUnmovedBindings locals → IsStillMachine machine
    → IsStillMachine (record machine { locals = locals })
with_locals_still locals machine are still = record { blocks = still.blocks; objects = still.objects; globals = still.globals; locals = are }

in_frame_still : (locals : List Binding) (new : List Object) (machine : Machine) → AreUnmovedBindings locals → AllByRecursion IsUnmovedObject new
    → IsStillMachine machine → IsStillMachine (in_frame locals new machine)
in_frame_still locals new machine are others still =
    record {
      blocks = still.blocks;
      objects = all_append IsUnmovedObject machine.objects new still.objects others;
      globals = still.globals;
      locals = are;
    }

-- ---- a call begins

given_still : (setting : Setting) (place : ℕ) (id : TypeId) (value : Value) (binding : Option Binding) (machine : Machine)
    → IsUnmoved value → IsStillMachine machine → IsStillDone Anything (given_to setting place id value binding machine)
given_still setting place id value None machine is still = λ is. is
given_still setting place id value (Some (slot before)) machine is still = (
  tt,
  with_locals_still (slice_set machine.locals place (slot (Some value))) machine
      (all_set IsUnmovedBinding machine.locals place (slot (Some value)) still.locals is) still,
)
given_still setting place id value (Some (object_at object)) machine is still =
    then_still IsUnmoved Anything (stored (access_of_type setting id (class_of_type setting.same id)) (Fixed object (pos 0)) value machine)
    (λ it after. done tt after)
    (stored_still (access_of_type setting id (class_of_type setting.same id)) (Fixed object (pos 0)) value machine refl is still)
    (λ it after so kept. (tt, kept))

all_given_still : (setting : Setting) (place : ℕ) (parameters : List VariableDecl) (values : List Value) (machine : Machine)
    → AllByRecursion IsUnmoved values → IsStillMachine machine → IsStillDone Anything (given_all setting place parameters values machine)
all_given_still setting place [] values machine are still = (tt, still)
all_given_still setting place (variable ∷ rest) [] machine are still = λ is. is
all_given_still setting place (variable ∷ rest) (value ∷ values) machine are still =
    then_still Anything Anything (given_to setting place variable.type_id value (slice_get machine.locals place) machine)
    (λ it after. given_all setting (suc place) rest values after)
    (given_still setting place variable.type_id value (slice_get machine.locals place) machine are.0 still)
    (λ it after so kept. all_given_still setting (suc place) rest values after are.1 kept)

opened_if_still : (b : Bool) (setting : Setting) (parameters : ℕ) (variables : List VariableDecl) (values : List Value) (machine : Machine)
    → AllByRecursion IsUnmoved values → IsStillMachine machine → IsStillDone Anything (opened_if b setting parameters variables values machine)
opened_if_still false setting parameters variables values machine are still = λ is. is
opened_if_still true setting parameters variables values machine are still =
    all_given_still setting 0 (take parameters variables) values
    (in_frame (bindings setting.types (length machine.objects) variables) (objects_for setting.types variables) machine) are
    (in_frame_still (bindings setting.types (length machine.objects) variables) (objects_for setting.types variables) machine
    (bindings_unmoved setting.types (length machine.objects) variables) (objects_unmoved setting.types variables) still)

-- the call begins
pub opened_still : (setting : Setting) (parameters : ℕ) (variables : List VariableDecl) (values : List Value) (machine : Machine)
    → AllByRecursion IsUnmoved values → IsStillMachine machine → IsStillDone Anything (opened setting parameters variables values machine)
opened_still setting parameters variables values machine are still =
    opened_if_still (has_frame (objects_for setting.types variables) machine) setting parameters variables values machine are still

-- ---- a call ends

without_objects_still : (locals : List Binding) (machine : Machine) → IsStillMachine machine → IsStillMachine (without_objects locals machine)
without_objects_still [] machine still = still
without_objects_still (slot value ∷ rest) machine still = without_objects_still rest machine still
without_objects_still (object_at place ∷ rest) machine still =
    without_objects_still rest (with_object place ended_object machine)
    (with_object_still place ended_object machine tt still)

back_to_still : (caller : List Binding) (machine : Machine) → AreUnmovedBindings caller → IsStillMachine machine
    → IsStillMachine (back_to caller machine)
back_to_still caller machine are still = record { blocks = still.blocks; objects = still.objects; globals = still.globals; locals = are }

-- the call ends
pub closed_still : (caller : List Binding) (machine : Machine) → AreUnmovedBindings caller → IsStillMachine machine
    → IsStillDone Anything (closes caller machine)
closed_still caller machine are still = (
  tt,
  back_to_still caller (without_objects machine.locals machine) are (without_objects_still machine.locals machine still),
)

-- the variables of the function that runs
pub owned_still : (machine : Machine) → IsStillMachine machine → IsStillDone AreUnmovedBindings (own_locals machine)
owned_still machine still = (still.locals, still)

missing_by_still : (pointer is_struct : Bool) (machine : Machine) → IsStillMachine machine → IsStillDone IsUnmoved (missing_by pointer is_struct machine)
missing_by_still true is_struct machine still = (refl, still)
missing_by_still false true machine still = λ is. is
missing_by_still false false machine still = (tt, still)

-- a function that ends without a value
pub missing_still : (setting : Setting) (id : TypeId) (machine : Machine) → IsStillMachine machine
    → IsStillDone IsUnmoved (missing_value setting id machine)
missing_still setting id machine still =
    missing_by_still (is_pointer setting.types id) (is_struct_row (row_of setting.types id)) machine still
