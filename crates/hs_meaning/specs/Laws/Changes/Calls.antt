-- What a run does to the machine, other than operations and decisions.
--     used_keeps, variable_keeps, address_keeps, returned_keeps      what expressions and calls ask of the machine
--     owned_keeps, opened_keeps, closed_keeps, missing_keeps         how calls begin and end
use Rattle.std.proofs.Common.{ℕ, suc, pos, Bool, true, false, List, [], ◌∷◌, length, take, slice_get, Option, Some, None}
use Rattle.hs_heap.specs.declared.cell.Pointer.TheVariants.{Fixed}
use Rattle.hs_meaning.specs.Accesses.{stored}
use Rattle.hs_meaning.specs.Classes.{class_of_type}
use Rattle.hs_meaning.specs.Evaluation.{Flow, onward, breaks, continues, returned, Location, in_slot, at_address, located, variable_at, address_of, returned_value}
use Rattle.hs_meaning.specs.Frames.{has_frame, in_frame, given_to, given_all, opened_if, opened, without_objects, missing_by, missing_value}
use Rattle.hs_meaning.specs.Laws.Changes.{Change, Stays, Keeps, same_stay, keeps_after, by_stop_keeps, and_then_keeps}
use Rattle.hs_meaning.specs.Laws.Changes.Accesses.{stored_keeps}
use Rattle.hs_meaning.specs.Machine.{Machine, Binding, slot, object_at, done, binding_of, with_object, ended_object}
use Rattle.hs_meaning.specs.Objects.{bindings, objects_for}
use Rattle.hs_meaning.specs.Runs.{own_locals, closes}
use Rattle.hs_meaning.specs.Settings.{Setting, access_of_type}
use Rattle.hs_meaning.specs.Steps.{number_used}
use Rattle.hs_meaning.specs.Values.{Value, bits_in, number_stop}
use Rattle.hs_tree.specs.Kinds.{is_pointer, is_struct_row}
use Rattle.hs_tree.specs.declared.head.Variable.{Variable}
use Rattle.hs_tree.specs.declared.head.VariableDecl.{VariableDecl}
use Rattle.hs_types.specs.TypeTables.{row_of}
use Rattle.hs_types.specs.declared.row.TypeId.{TypeId}

module _ (R : Change) where
  -- ---- what expressions ask

  -- a value that is used as a number
  pub used_keeps : (value : Value) (machine : Machine) → Keeps R machine (number_used value machine)
  used_keeps value machine = by_stop_keeps R (number_stop value) (bits_in value) machine machine (same_stay R machine)

  located_keeps : (variable : Variable) (binding : Option Binding) (machine : Machine) → Keeps R machine (located variable binding machine)
  located_keeps variable None machine = same_stay R machine
  located_keeps variable (Some (slot value)) machine = same_stay R machine
  located_keeps variable (Some (object_at place)) machine = same_stay R machine

  -- where a variable is
  pub variable_keeps : (variable : Variable) (machine : Machine) → Keeps R machine (variable_at variable machine)
  variable_keeps variable machine = located_keeps variable (binding_of variable machine) machine

  -- the address of an object
  pub address_keeps : (its : Location) (machine : Machine) → Keeps R machine (address_of its machine)
  address_keeps (in_slot variable) machine = same_stay R machine
  address_keeps (at_address its) machine = same_stay R machine

  -- the value that a function returned
  pub returned_keeps : (flow : Flow) (machine : Machine) → Keeps R machine (returned_value flow machine)
  returned_keeps (returned value at) machine = same_stay R machine
  returned_keeps onward machine = same_stay R machine
  returned_keeps breaks machine = same_stay R machine
  returned_keeps continues machine = same_stay R machine

  -- ---- a call begins

  given_keeps : (setting : Setting) (place : ℕ) (id : TypeId) (value : Value) (binding : Option Binding) (machine : Machine)
      → Keeps R machine (given_to setting place id value binding machine)
  given_keeps setting place id value None machine = same_stay R machine
  given_keeps setting place id value (Some (slot before)) machine = same_stay R machine
  given_keeps setting place id value (Some (object_at object)) machine =
      and_then_keeps R machine (stored (access_of_type setting id (class_of_type setting.same id)) (Fixed object (pos 0)) value machine)
      (λ it after. done tt after)
      (stored_keeps R (access_of_type setting id (class_of_type setting.same id)) (Fixed object (pos 0)) value machine)
      (λ it after. same_stay R after)

  all_given_keeps : (setting : Setting) (place : ℕ) (parameters : List VariableDecl) (values : List Value) (machine : Machine)
      → Keeps R machine (given_all setting place parameters values machine)
  all_given_keeps setting place [] values machine = same_stay R machine
  all_given_keeps setting place (variable ∷ rest) [] machine = same_stay R machine
  all_given_keeps setting place (variable ∷ rest) (value ∷ values) machine =
      and_then_keeps R machine (given_to setting place variable.type_id value (slice_get machine.locals place) machine)
      (λ it after. given_all setting (suc place) rest values after)
      (given_keeps setting place variable.type_id value (slice_get machine.locals place) machine)
      (λ it after. all_given_keeps setting (suc place) rest values after)

  opened_if_keeps : (b : Bool) (setting : Setting) (parameters : ℕ) (variables : List VariableDecl) (values : List Value) (machine : Machine)
      → Keeps R machine (opened_if b setting parameters variables values machine)
  opened_if_keeps false setting parameters variables values machine = same_stay R machine
  opened_if_keeps true setting parameters variables values machine = in_its_frame (bindings setting.types (length machine.objects) variables)
    where
      in_its_frame : (locals : List Binding) → Keeps R machine
          (given_all setting 0 (take parameters variables) values (in_frame locals (objects_for setting.types variables) machine))
      in_its_frame locals =
          keeps_after R machine (in_frame locals (objects_for setting.types variables) machine)
          (given_all setting 0 (take parameters variables) values (in_frame locals (objects_for setting.types variables) machine)) (same_stay R machine)
          (all_given_keeps setting 0 (take parameters variables) values (in_frame locals (objects_for setting.types variables) machine))

  -- the call begins, or there is no frame for it
  pub opened_keeps : (setting : Setting) (parameters : ℕ) (variables : List VariableDecl) (values : List Value) (machine : Machine)
      → Keeps R machine (opened setting parameters variables values machine)
  opened_keeps setting parameters variables values machine =
      opened_if_keeps (has_frame (objects_for setting.types variables) machine) setting parameters variables values machine

  -- ---- a call ends

  without_objects_stays : (locals : List Binding) (machine : Machine) → Stays R machine (without_objects locals machine)
  without_objects_stays [] machine = same_stay R machine
  without_objects_stays (slot value ∷ rest) machine = without_objects_stays rest machine
  without_objects_stays (object_at place ∷ rest) machine = without_objects_stays rest (with_object place ended_object machine)

  -- the call ends
  pub closed_keeps : (caller : List Binding) (machine : Machine) → Keeps R machine (closes caller machine)
  closed_keeps caller machine = without_objects_stays machine.locals machine

  -- the variables of the function that runs
  pub owned_keeps : (machine : Machine) → Keeps R machine (own_locals machine)
  owned_keeps machine = same_stay R machine

  missing_by_keeps : (pointer is_struct : Bool) (machine : Machine) → Keeps R machine (missing_by pointer is_struct machine)
  missing_by_keeps true is_struct machine = same_stay R machine
  missing_by_keeps false true machine = same_stay R machine
  missing_by_keeps false false machine = same_stay R machine

  -- a function that ends without a value
  pub missing_keeps : (setting : Setting) (id : TypeId) (machine : Machine) → Keeps R machine (missing_value setting id machine)
  missing_keeps setting id machine = missing_by_keeps (is_pointer setting.types id) (is_struct_row (row_of setting.types id)) machine
