-- All operations on a heap that never moves.
--     operated                 what an operation comes to
use Rattle.std.proofs.Common.{pos, ◌==◌, Bool, true, false, ◌&&◌, List, [], ◌∷◌, slice_get, Option, Some, None}
use Rattle.std.specs.List.{AllByRecursion}
use Rattle.hs_meaning.specs.Laws.Unmoved.{IsUnmoved, IsUnmovedBinding, IsStillMachine, IsStillDone}
use Rattle.hs_meaning.specs.Laws.Unmoved.Accesses.{loaded_still, stored_still}
use Rattle.hs_meaning.specs.Laws.Unmoved.Fine.{IsFine, AreFine, if_fine, number_fine, pointer_fine, unless_still}
use Rattle.hs_meaning.specs.Laws.Unmoved.Lists.{IfThere, all_set, there}
use Rattle.hs_meaning.specs.Laws.Unmoved.Plain.{plain_still}
use Rattle.hs_meaning.specs.Laws.Unmoved.Pointers.{compare_fine, difference_fine, moved_fine, moved_unmoved}
use Rattle.hs_meaning.specs.Laws.Unmoved.Roles.{role_fine, role_value_unmoved, role_still}
use Rattle.hs_meaning.specs.Laws.Unmoved.Values.{pointer_in_unmoved, or_nothing_unmoved}
use Rattle.hs_meaning.specs.Machine.{Machine, Binding, slot, object_at, binding_of, value_of_slot, with_value}
use Rattle.hs_meaning.specs.Numbers.{divides}
use Rattle.hs_meaning.specs.Operations.{Operation, get, set, load, store, convert, sign, not_, arithmetic, comparison, is_nil, compare, difference, offset, step, routine, slot_stop, convert_stop, converted_value, step_stops, stepped, operation_stops, operation_value, operation_machine, as_kind, by_role, is_plain, called_by, called_as, called, operate}
use Rattle.hs_meaning.specs.Pointers.{stride_bytes}
use Rattle.hs_meaning.specs.Roles.{role_stops, role_value, role_machine}
use Rattle.hs_meaning.specs.Settings.{Setting}
use Rattle.hs_meaning.specs.Values.{Value, number, pointer, state, structure, bits_in, pointer_in}
use Rattle.hs_meaning.specs.declared.outcome.Stop.TheVariants as stop
use Rattle.hs_table.specs.declared.role.Role.{Role}
use Rattle.hs_table.specs.declared.routine.Routine.{Routine}
use Rattle.hs_tree.specs.Kinds.{number_kind}
use Rattle.hs_tree.specs.declared.function.BoundRoutine.{BoundRoutine}
use Rattle.hs_tree.specs.declared.function.Prototype.{Prototype}
use Rattle.hs_tree.specs.declared.head.Variable.{Variable}
use Rattle.hs_tree.specs.declared.head.Variable.TheVariants as name
use Rattle.hs_tree.specs.declared.operators.Stride.{Stride}
use Rattle.hs_types.specs.TypeTables.{TypeTable}
use Rattle.hs_types.specs.declared.integer.Integer.{Integer}

-- ---- variables

binding_there : (variable : Variable) (machine : Machine) → IsStillMachine machine → IfThere IsUnmovedBinding (binding_of variable machine)
binding_there (name.Global place) machine still = there IsUnmovedBinding machine.globals place still.globals
binding_there (name.Local place) machine still = there IsUnmovedBinding machine.locals place still.locals

slot_unmoved : (value : Option Value) → IsUnmovedBinding (slot value) → IfThere IsUnmoved value
slot_unmoved None is = tt
slot_unmoved (Some value) is = is

value_of_slot_unmoved : (binding : Option Binding) → IfThere IsUnmovedBinding binding → IfThere IsUnmoved (value_of_slot binding)
value_of_slot_unmoved None is = tt
value_of_slot_unmoved (Some (slot value)) is = slot_unmoved value is
value_of_slot_unmoved (Some (object_at place)) is = tt

with_value_still : (variable : Variable) (value : Value) (machine : Machine) → IsUnmoved value → IsStillMachine machine
    → IsStillMachine (with_value variable value machine)
with_value_still (name.Global place) value machine is still =
    record {
      blocks = still.blocks;
      objects = still.objects;
      globals = all_set IsUnmovedBinding machine.globals place (slot (Some value)) still.globals is;
      locals = still.locals;
    }
with_value_still (name.Local place) value machine is still =
    record {
      blocks = still.blocks;
      objects = still.objects;
      globals = still.globals;
      locals = all_set IsUnmovedBinding machine.locals place (slot (Some value)) still.locals is;
    }

-- ---- why they stop

slot_fine : (value : Option Value) → IsFine (slot_stop value)
slot_fine None = λ is. is
slot_fine (Some value) = tt

convert_fine : (value : Value) → IsFine (convert_stop value)
convert_fine (number bits) = tt
convert_fine (pointer its) = λ is. is
convert_fine (state byte) = tt
convert_fine (structure cells) = λ is. is

step_fine : (stride : Stride) (its by : Value) → AreFine (step_stops stride its by)
step_fine stride its by = (number_fine by, (pointer_fine its, (moved_fine (stride_bytes stride (bits_in by)) (pointer_in its), tt)))

operation_fine : (its : Operation) (values : List Value) (machine : Machine) → AllByRecursion IsUnmoved values → IsStillMachine machine
    → AreFine (operation_stops its values machine)
operation_fine (get variable) [] machine are still = (slot_fine (value_of_slot (binding_of variable machine)), tt)
operation_fine (set variable) (value ∷ []) machine are still = tt
operation_fine (convert kind) (value ∷ []) machine are still = (convert_fine value, tt)
operation_fine (sign operator) (value ∷ []) machine are still = (number_fine value, tt)
operation_fine not_ (value ∷ []) machine are still = (number_fine value, tt)
operation_fine (arithmetic operator kind) (a ∷ b ∷ []) machine are still =
    (number_fine a, (number_fine b, (if_fine (divides operator && (bits_in b == 0)) stop.Divide (λ is. is), tt)))
operation_fine (comparison operator kind) (a ∷ b ∷ []) machine are still = (number_fine a, (number_fine b, tt))
operation_fine is_nil (its ∷ []) machine are still = (pointer_fine its, tt)
operation_fine (compare operator) (a ∷ b ∷ []) machine are still = (
  pointer_fine a,
  (
    pointer_fine b,
    compare_fine operator (pointer_in a) (pointer_in b) machine (pointer_in_unmoved a are.0) (pointer_in_unmoved b are.1.0) still,
  ),
)
operation_fine (difference size) (a ∷ b ∷ []) machine are still = (
  pointer_fine a,
  (
    pointer_fine b,
    difference_fine (pointer_in a) (pointer_in b) machine (pointer_in_unmoved a are.0) (pointer_in_unmoved b are.1.0) still,
  ),
)
operation_fine (offset bytes) (its ∷ []) machine are still = (pointer_fine its, (moved_fine (pos bytes) (pointer_in its), tt))
operation_fine (step stride true) (its ∷ by ∷ []) machine are still = step_fine stride its by
operation_fine (step stride false) (by ∷ its ∷ []) machine are still = step_fine stride its by
operation_fine its values machine are still = (λ is. is, tt)

-- ---- what they give

converted_unmoved : (kind : Integer) (value : Value) → IsUnmoved value → IsUnmoved (converted_value kind value)
converted_unmoved kind (number bits) is = tt
converted_unmoved kind (pointer its) is = is
converted_unmoved kind (state byte) is = tt
converted_unmoved kind (structure cells) is = is

stepped_unmoved : (stride : Stride) (its by : Value) → IsUnmoved its → IsUnmoved (stepped stride its by)
stepped_unmoved stride its by is = moved_unmoved (stride_bytes stride (bits_in by)) (pointer_in its) (pointer_in_unmoved its is)

value_unmoved : (its : Operation) (values : List Value) (machine : Machine) → AllByRecursion IsUnmoved values → IsStillMachine machine
    → IsUnmoved (operation_value its values machine)
value_unmoved (get variable) [] machine are still =
    or_nothing_unmoved (value_of_slot (binding_of variable machine))
    (value_of_slot_unmoved (binding_of variable machine) (binding_there variable machine still))
value_unmoved (set variable) (value ∷ []) machine are still = are.0
value_unmoved (convert kind) (value ∷ []) machine are still = converted_unmoved kind value are.0
value_unmoved (sign operator) (value ∷ []) machine are still = tt
value_unmoved not_ (value ∷ []) machine are still = tt
value_unmoved (arithmetic operator kind) (a ∷ b ∷ []) machine are still = tt
value_unmoved (comparison operator kind) (a ∷ b ∷ []) machine are still = tt
value_unmoved is_nil (its ∷ []) machine are still = tt
value_unmoved (compare operator) (a ∷ b ∷ []) machine are still = tt
value_unmoved (difference size) (a ∷ b ∷ []) machine are still = tt
value_unmoved (offset bytes) (its ∷ []) machine are still = moved_unmoved (pos bytes) (pointer_in its) (pointer_in_unmoved its are.0)
value_unmoved (step stride true) (its ∷ by ∷ []) machine are still = stepped_unmoved stride its by are.0
value_unmoved (step stride false) (by ∷ its ∷ []) machine are still = stepped_unmoved stride its by are.1.0
value_unmoved its values machine are still = tt

machine_still : (its : Operation) (values : List Value) (machine : Machine) → AllByRecursion IsUnmoved values → IsStillMachine machine
    → IsStillMachine (operation_machine its values machine)
machine_still (set variable) (value ∷ []) machine are still = with_value_still variable value machine are.0 still
machine_still its values machine are still = still

-- ---- routines

as_kind_unmoved : (kind : Option Integer) (value : Value) → IsUnmoved value → IsUnmoved (as_kind kind value)
as_kind_unmoved None (number bits) is = tt
as_kind_unmoved (Some kind) (number bits) is = tt
as_kind_unmoved kind (pointer its) is = is
as_kind_unmoved kind (state byte) is = tt
as_kind_unmoved kind (structure cells) is = is

by_role_still : (types : TypeTable) (its : Role) (prototype : Prototype) (values : List Value) (machine : Machine)
    → AllByRecursion IsUnmoved values → IsStillMachine machine → IsStillDone IsUnmoved (by_role types its prototype values machine)
by_role_still types its prototype values machine are still =
    unless_still IsUnmoved (role_stops its values machine) (as_kind (number_kind types prototype.result) (role_value its values machine))
    (role_machine its values machine) machine (role_fine its values machine are still)
    (as_kind_unmoved (number_kind types prototype.result) (role_value its values machine) (role_value_unmoved its values machine))
    (role_still its values machine still)

called_by_still : (b : Bool) (types : TypeTable) (its : Routine) (prototype : Prototype) (values : List Value) (machine : Machine)
    → AllByRecursion IsUnmoved values → IsStillMachine machine → IsStillDone IsUnmoved (called_by b types its prototype values machine)
called_by_still true types its prototype values machine are still = plain_still types its prototype values machine are still
called_by_still false types its prototype values machine are still = by_role_still types its.role prototype values machine are still

called_as_still : (types : TypeTable) (its : Routine) (prototype : Option Prototype) (values : List Value) (machine : Machine)
    → AllByRecursion IsUnmoved values → IsStillMachine machine → IsStillDone IsUnmoved (called_as types its prototype values machine)
called_as_still types its None values machine are still = λ is. is
called_as_still types its (Some prototype) values machine are still =
    called_by_still (is_plain its.role) types its prototype values machine are still

called_still : (types : TypeTable) (its : Option BoundRoutine) (values : List Value) (machine : Machine) → AllByRecursion IsUnmoved values
    → IsStillMachine machine → IsStillDone IsUnmoved (called types its values machine)
called_still types None values machine are still = λ is. is
called_still types (Some it) values machine are still = called_as_still types it.routine it.prototype values machine are still

-- ---- all operations

-- an operation on unmoved values gives an unmoved value and keeps the machine still, or stops, and not for a misuse
pub operated : (setting : Setting) (its : Operation) (values : List Value) (machine : Machine) → AllByRecursion IsUnmoved values
    → IsStillMachine machine → IsStillDone IsUnmoved (operate setting its values machine)
operated setting (load access) (pointer its ∷ []) machine are still = loaded_still access its machine are.0 still
operated setting (store access) (pointer its ∷ value ∷ []) machine are still = stored_still access its value machine are.0 are.1.0 still
operated setting (routine place) values machine are still = called_still setting.types (slice_get setting.routines place) values machine are still
operated setting its values machine are still =
    unless_still IsUnmoved (operation_stops its values machine) (operation_value its values machine) (operation_machine its values machine) machine
    (operation_fine its values machine are still) (value_unmoved its values machine are still) (machine_still its values machine are still)
