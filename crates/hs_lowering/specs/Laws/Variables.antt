-- What operations leave of the variables (own): only Set changes one, and a slot stays a slot.
--     SameVariables before after           the variables have what they had
--     KeepsVariables before its            so they have after an operation, if it does not stop
--     operate_keeps                        each operation but Set
--     is_slot_at name machine              the variable is a slot there
--     SameSlots before after               what is a slot stays one, and what is an object stays that object
--     set_keeps_slots                      Set, of a slot
use Rattle.std.proofs.Common.{◌≡◌, ℤ, ℕ, zero, suc, ◌==◌, Bool, true, false, ◌&&◌, List, [], ◌∷◌, ◌++◌, map, take, slice_get, slice_set, Option, Some, None, Result, Ok, Err, refl, ap, ◌∙◌, if◌then◌else◌}
use Rattle.hs_heap.specs.Blocks.{Block, master_of, emptied, disposed, resized, with_lock, with_purge_bit, with_state, reallocated, has_life}
use Rattle.hs_heap.specs.Memory.{block_at, has_room}
use Rattle.hs_heap.specs.declared.cell.Cell.{Cell}
use Rattle.hs_heap.specs.declared.cell.Cell.TheVariants.{Byte}
use Rattle.hs_heap.specs.declared.cell.Pointer.{Pointer}
use Rattle.hs_heap.specs.declared.cell.Pointer.TheVariants.{Nil, Fixed, Handle, Spot}
use Rattle.hs_heap.specs.declared.cell.Spot as spot
use Rattle.hs_heap.specs.declared.stop.HeapStop.{HeapStop}
use Rattle.hs_meaning.specs.Accesses.{by_stop, unless_stopped, use_stops, cells_at, put_in_object, put_in_block, with_cells_at, master_pointer, master_in, cells_loaded, loaded, stored}
use Rattle.hs_meaning.specs.Handles.{with_result, changed_in, changed_by, is_granted, asked, has_room_after, reshaped_in, reshaped_by, if_granted, any_life, makes_block, makes_object, with_block, with_object_if, disposed_object, size_for}
use Rattle.hs_meaning.specs.Machine.{Machine, Binding, slot, object_at, Done, done, stopped, binding_of, with_value, has_room_for}
use Rattle.hs_meaning.specs.Operations.{Operation, set, load, store, routine, operation_stops, operation_value, operation_machine, as_kind, is_plain, called_by, called_as, called, operate}
use Rattle.hs_meaning.specs.Plain.{argument_stops, line_of, answers, bytes_of_words, words_for, argument, pointed_size, fill_size, fill_stops, filled, next_word, one_word_less, made_size, made_block, made_object, points_to_pointer, new_value, pointer_result, result_by, result_of, then_unless, with_line, after_line, plain}
use Rattle.hs_meaning.specs.Roles.{role_stops, role_value, role_machine, state_in}
use Rattle.hs_meaning.specs.Settings.{Setting}
use Rattle.hs_meaning.specs.Stops.{Stops, first_stop, heap_stop}
use Rattle.hs_meaning.specs.Values.{Value, pointer, pointer_in, Access, of_pointer, length_of, cells_for, store_stop, value_in, load_stops}
use Rattle.hs_meaning.specs.declared.outcome.Stop.{Stop}
use Rattle.hs_table.specs.declared.role.Role.{Role}
use Rattle.hs_table.specs.declared.role.Role.TheVariants.{NewHandle, DisposeHandle, GetSize, SetSize, Lock, Unlock, Purge, NoPurge, GetState, SetState, Empty, Realloc, NewPtr, DisposePtr, BlockMove, Getchar, Putchar}
use Rattle.hs_table.specs.declared.routine.Routine.{Routine}
use Rattle.hs_tree.specs.Kinds.{number_kind, pointed, size_at}
use Rattle.hs_tree.specs.declared.function.BoundRoutine.{BoundRoutine}
use Rattle.hs_tree.specs.declared.function.Prototype.{Prototype}
use Rattle.hs_tree.specs.declared.head.Variable.{Variable}
use Rattle.hs_tree.specs.declared.head.Variable.TheVariants as name
use Rattle.hs_types.specs.TypeTables.{TypeTable}
use Rattle.hs_types.specs.declared.integer.Integer.{Integer}
use Rattle.hs_types.specs.declared.row.TypeId.{TypeId}

-- ---- the same variables

-- those of the program and those of the function
abbrev pub SameVariables : Machine → Machine → Type 0
SameVariables before after = (after.globals ≡ before.globals) × (after.locals ≡ before.locals)

-- an operation that does not stop
abbrev pub KeepsVariables : {A : Type 0} → Machine → Done A → Type 0
KeepsVariables before (done it after) = SameVariables before after
KeepsVariables before (stopped why after) = Unit {0}

-- whatever else changes
pub same_variables : (machine : Machine) → SameVariables machine machine
same_variables machine = (refl, refl)

same_then : (first second third : Machine) → SameVariables first second → SameVariables second third → SameVariables first third
same_then first second third is so = (so.0 ∙ is.0, so.1 ∙ is.1)

either_same : (before : Machine) (b : Bool) (first second : Machine) → SameVariables before first → SameVariables before second
    → SameVariables before (if b then first else second)
either_same before true first second is so = is
either_same before false first second is so = so

module _ {A : Type 0} where
  keeps_after : (before machine : Machine) (its : Done A) → SameVariables before machine → KeepsVariables machine its → KeepsVariables before its
  keeps_after before machine (done it after) is so = same_then before machine after is so
  keeps_after before machine (stopped why after) is so = tt

  either_keeps : (before : Machine) (b : Bool) (first second : Done A) → KeepsVariables before first → KeepsVariables before second
      → KeepsVariables before (if b then first else second)
  either_keeps before true first second is so = is
  either_keeps before false first second is so = so

  -- what is given unless there is a stop
  pub by_stop_keeps : (why : Option Stop) (it : A) (after before : Machine) → SameVariables before after
      → KeepsVariables before (by_stop why it after before)
  by_stop_keeps None it after before is = is
  by_stop_keeps (Some why) it after before is = tt

  unless_keeps : (stops : Stops) (it : A) (after before : Machine) → SameVariables before after
      → KeepsVariables before (unless_stopped stops it after before)
  unless_keeps stops it after before is = by_stop_keeps (first_stop stops) it after before is

  then_unless_keeps : (why : Option Stop) (machine : Machine) (rest : Done A) → KeepsVariables machine rest
      → KeepsVariables machine (then_unless why machine rest)
  then_unless_keeps None machine rest is = is
  then_unless_keeps (Some why) machine rest is = tt

-- ---- loads and stores

put_in_object_same : (place : ℕ) (at : ℤ) (cells : List Cell) (machine : Machine) (its : Option _)
    → SameVariables machine (put_in_object place at cells machine its)
put_in_object_same place at cells machine None = same_variables machine
put_in_object_same place at cells machine (Some its) = same_variables machine

put_in_block_same : (its : spot.Spot) (cells : List Cell) (machine : Machine) (block : Option Block)
    → SameVariables machine (put_in_block its cells machine block)
put_in_block_same its cells machine None = same_variables machine
put_in_block_same its cells machine (Some block) = same_variables machine

with_cells_same : (its : Pointer) (cells : List Cell) (machine : Machine) → SameVariables machine (with_cells_at its cells machine)
with_cells_same Nil cells machine = same_variables machine
with_cells_same (Handle block) cells machine = same_variables machine
with_cells_same (Fixed object at) cells machine = put_in_object_same object at cells machine (slice_get machine.objects object)
with_cells_same (Spot its) cells machine = put_in_block_same its cells machine (block_at machine.blocks its.block)

master_keeps : (place : ℕ) (machine : Machine) (block : Option Block) → KeepsVariables machine (master_in place machine block)
master_keeps place machine None = tt
master_keeps place machine (Some block) =
    unless_keeps (heap_stop (master_of place block) ∷ []) (pointer (master_pointer (master_of place block))) machine machine
    (same_variables machine)

cells_loaded_keeps : (access : Access) (its : Pointer) (machine : Machine) → KeepsVariables machine (cells_loaded access its machine)
cells_loaded_keeps access its machine =
    unless_keeps (use_stops its (length_of access) machine ++ load_stops access (cells_at its (length_of access) machine))
    (value_in access (cells_at its (length_of access) machine)) machine machine (same_variables machine)

loaded_keeps : (access : Access) (its : Pointer) (machine : Machine) → KeepsVariables machine (loaded access its machine)
loaded_keeps (of_pointer class) (Handle place) machine = master_keeps place machine (block_at machine.blocks place)
loaded_keeps access its machine = cells_loaded_keeps access its machine

-- a store
pub stored_keeps : (access : Access) (its : Pointer) (value : Value) (machine : Machine) → KeepsVariables machine (stored access its value machine)
stored_keeps access its value machine =
    unless_keeps (store_stop access value ∷ use_stops its (length_of access) machine) value (with_cells_at its (cells_for access value) machine) machine
    (with_cells_same its (cells_for access value) machine)

-- ---- plain routines

filled_same : (target : Option Value) (size : ℕ) (machine : Machine) → SameVariables machine (filled target size machine)
filled_same None size machine = same_variables machine
filled_same (Some value) size machine =
    with_cells_same (pointer_in value) (map Byte (take size (bytes_of_words (answers (words_for size) machine.words)))) machine

made_block_same : (b : Bool) (size : ℕ) (machine : Machine) → SameVariables machine (made_block b size machine)
made_block_same true size machine = same_variables machine
made_block_same false size machine = same_variables machine

made_object_same : (b : Bool) (size : ℕ) (machine : Machine) → SameVariables machine (made_object b size machine)
made_object_same true size machine = same_variables machine
made_object_same false size machine = same_variables machine

new_value_keeps : (handles : Bool) (size : ℕ) (is_zero : Bool) (machine : Machine) → KeepsVariables machine (new_value handles size is_zero machine)
new_value_keeps handles size true machine = same_variables machine
new_value_keeps true size false machine = made_block_same (has_room machine.blocks size) size machine
new_value_keeps false size false machine = made_object_same (has_room_for size machine) size machine

pointer_result_keeps : (types : TypeTable) (size : ℕ) (target : Option TypeId) (is_zero : Bool) (machine : Machine)
    → KeepsVariables machine (pointer_result types size target is_zero machine)
pointer_result_keeps types size target is_zero machine =
    either_keeps machine (points_to_pointer types target) (new_value true (made_size size (pointed_size types target)) is_zero machine)
    (new_value false (made_size size (size_at types target)) is_zero machine)
    (new_value_keeps true (made_size size (pointed_size types target)) is_zero machine)
    (new_value_keeps false (made_size size (size_at types target)) is_zero machine)

result_keeps : (types : TypeTable) (size : ℕ) (kind : Option Integer) (target : Option TypeId) (machine : Machine)
    → KeepsVariables machine (result_by types size kind target machine)
result_keeps types size (Some kind) target machine = same_variables machine
result_keeps types size None (Some target) machine =
    keeps_after machine (one_word_less machine) (pointer_result types size (Some target) (next_word machine.words == 0) (one_word_less machine))
    (same_variables machine) (pointer_result_keeps types size (Some target) (next_word machine.words == 0) (one_word_less machine))
result_keeps types size None None machine = same_variables machine

after_line_keeps : (types : TypeTable) (its : Routine) (prototype : Prototype) (values : List Value) (machine : Machine)
    → KeepsVariables machine (after_line types its prototype values machine)
after_line_keeps types its prototype values machine = by_size (fill_size types its.fills prototype.parameters)
  where
    by_size : (size : ℕ) → KeepsVariables machine (then_unless (first_stop (fill_stops (argument its.fills values) size machine)) machine
        (result_of types its.size prototype.result (filled (argument its.fills values) size machine)))
    by_size size =
        then_unless_keeps (first_stop (fill_stops (argument its.fills values) size machine)) machine
        (result_of types its.size prototype.result (filled (argument its.fills values) size machine))
        (keeps_after machine (filled (argument its.fills values) size machine)
        (result_of types its.size prototype.result (filled (argument its.fills values) size machine))
        (filled_same (argument its.fills values) size machine)
        (result_keeps types its.size (number_kind types prototype.result) (pointed types prototype.result)
        (filled (argument its.fills values) size machine)))

plain_keeps : (types : TypeTable) (its : Routine) (prototype : Prototype) (values : List Value) (machine : Machine)
    → KeepsVariables machine (plain types its prototype values machine)
plain_keeps types its prototype values machine =
    then_unless_keeps (first_stop (argument_stops its.fills values machine)) machine
    (after_line types its prototype values (with_line (line_of its.name types prototype.parameters values) machine))
    (keeps_after machine (with_line (line_of its.name types prototype.parameters values) machine)
    (after_line types its prototype values (with_line (line_of its.name types prototype.parameters values) machine)) (same_variables machine)
    (after_line_keeps types its prototype values (with_line (line_of its.name types prototype.parameters values) machine)))

-- ---- routines of other roles

result_same : (place : ℕ) (result : Result Block HeapStop) (machine : Machine) → SameVariables machine (with_result place result machine)
result_same place (Ok after) machine = same_variables machine
result_same place (Err why) machine = same_variables machine

changed_in_same : (role : Block → Result Block HeapStop) (place : ℕ) (block : Option Block) (machine : Machine)
    → SameVariables machine (changed_in role place block machine)
changed_in_same role place None machine = same_variables machine
changed_in_same role place (Some before) machine = result_same place (role before) machine

changed_same : (role : Block → Result Block HeapStop) (its : Pointer) (machine : Machine) → SameVariables machine (changed_by role its machine)
changed_same role Nil machine = same_variables machine
changed_same role (Fixed object at) machine = same_variables machine
changed_same role (Spot its) machine = same_variables machine
changed_same role (Handle block) machine = changed_in_same role block (block_at machine.blocks block) machine

reshaped_in_same : (lives : Block → Bool) (role : Block → Result Block HeapStop) (place : ℕ) (block : Option Block) (machine : Machine)
    → SameVariables machine (reshaped_in lives role place block machine)
reshaped_in_same lives role place None machine = same_variables machine
reshaped_in_same lives role place (Some before) machine =
    either_same machine (lives before && has_room_after place (role before) machine) (with_result place (role before) machine) machine
    (result_same place (role before) machine) (same_variables machine)

reshaped_same : (lives : Block → Bool) (role : Block → Result Block HeapStop) (its : Pointer) (machine : Machine)
    → SameVariables machine (reshaped_by lives role its machine)
reshaped_same lives role Nil machine = same_variables machine
reshaped_same lives role (Fixed object at) machine = same_variables machine
reshaped_same lives role (Spot its) machine = same_variables machine
reshaped_same lives role (Handle block) machine = reshaped_in_same lives role block (block_at machine.blocks block) machine

granted_same : (value : Value) (change : Machine → Machine) (machine : Machine) → ((before : Machine) → SameVariables before (change before))
    → SameVariables machine (if_granted value change machine)
granted_same value change machine each =
    either_same machine (is_granted value machine) (change (asked machine)) (asked machine) (each (asked machine)) (same_variables machine)

with_block_same : (b : Bool) (size : ℕ) (machine : Machine) → SameVariables machine (with_block b size machine)
with_block_same true size machine = same_variables machine
with_block_same false size machine = same_variables machine

with_object_same : (b : Bool) (size : ℕ) (machine : Machine) → SameVariables machine (with_object_if b size machine)
with_object_same true size machine = same_variables machine
with_object_same false size machine = same_variables machine

disposed_object_same : (its : Pointer) (machine : Machine) → SameVariables machine (disposed_object its machine)
disposed_object_same Nil machine = same_variables machine
disposed_object_same (Fixed object at) machine = same_variables machine
disposed_object_same (Handle block) machine = same_variables machine
disposed_object_same (Spot its) machine = same_variables machine

role_same : (its : Role) (values : List Value) (machine : Machine) → SameVariables machine (role_machine its values machine)
role_same NewHandle (size ∷ []) machine = with_block_same (makes_block size machine) (size_for size) (asked machine)
role_same DisposeHandle (its ∷ []) machine = changed_same disposed (pointer_in its) machine
role_same GetSize (its ∷ []) machine = same_variables machine
role_same SetSize (its ∷ size ∷ []) machine =
    granted_same size (reshaped_by any_life (resized (size_for size)) (pointer_in its)) machine
    (λ before. reshaped_same any_life (resized (size_for size)) (pointer_in its) before)
role_same Lock (its ∷ []) machine = changed_same (with_lock true) (pointer_in its) machine
role_same Unlock (its ∷ []) machine = changed_same (with_lock false) (pointer_in its) machine
role_same Purge (its ∷ []) machine = changed_same (with_purge_bit true) (pointer_in its) machine
role_same NoPurge (its ∷ []) machine = changed_same (with_purge_bit false) (pointer_in its) machine
role_same GetState (its ∷ []) machine = same_variables machine
role_same SetState (its ∷ byte ∷ []) machine = changed_same (with_state (state_in byte)) (pointer_in its) machine
role_same Empty (its ∷ []) machine = changed_same emptied (pointer_in its) machine
role_same Realloc (its ∷ size ∷ []) machine =
    granted_same size (reshaped_by has_life (reallocated (size_for size)) (pointer_in its)) machine
    (λ before. reshaped_same has_life (reallocated (size_for size)) (pointer_in its) before)
role_same NewPtr (size ∷ []) machine = with_object_same (makes_object size machine) (size_for size) (asked machine)
role_same DisposePtr (its ∷ []) machine = disposed_object_same (pointer_in its) machine
role_same BlockMove (from ∷ to ∷ count ∷ []) machine =
    with_cells_same (pointer_in to) (cells_at (pointer_in from) (size_for count) machine) machine
role_same Getchar [] machine = same_variables machine
role_same Putchar (byte ∷ []) machine = same_variables machine
role_same its values machine = same_variables machine

called_by_keeps : (b : Bool) (types : TypeTable) (its : Routine) (prototype : Prototype) (values : List Value) (machine : Machine)
    → KeepsVariables machine (called_by b types its prototype values machine)
called_by_keeps true types its prototype values machine = plain_keeps types its prototype values machine
called_by_keeps false types its prototype values machine =
    unless_keeps (role_stops its.role values machine) (as_kind (number_kind types prototype.result) (role_value its.role values machine))
    (role_machine its.role values machine) machine (role_same its.role values machine)

called_as_keeps : (types : TypeTable) (its : Routine) (prototype : Option Prototype) (values : List Value) (machine : Machine)
    → KeepsVariables machine (called_as types its prototype values machine)
called_as_keeps types its None values machine = tt
called_as_keeps types its (Some prototype) values machine = called_by_keeps (is_plain its.role) types its prototype values machine

called_keeps : (types : TypeTable) (its : Option BoundRoutine) (values : List Value) (machine : Machine)
    → KeepsVariables machine (called types its values machine)
called_keeps types None values machine = tt
called_keeps types (Some it) values machine = called_as_keeps types it.routine it.prototype values machine

-- ---- all operations but Set

-- it gives a value to a slot
abbrev pub is_set : Operation → Bool
is_set (set variable) = true
is_set _ = false

machine_same : (its : Operation) (values : List Value) (machine : Machine) → is_set its ≡ false → SameVariables machine (operation_machine its values machine)
machine_same (set variable) values machine is = absurd cc
machine_same its values machine is = same_variables machine

-- no other operation changes a variable
pub operate_keeps : (setting : Setting) (its : Operation) (values : List Value) (machine : Machine) → is_set its ≡ false
    → KeepsVariables machine (operate setting its values machine)
operate_keeps setting (load access) (pointer its ∷ []) machine is = loaded_keeps access its machine
operate_keeps setting (store access) (pointer its ∷ value ∷ []) machine is = stored_keeps access its value machine
operate_keeps setting (routine place) values machine is = called_keeps setting.types (slice_get setting.routines place) values machine
operate_keeps setting its values machine is =
    unless_keeps (operation_stops its values machine) (operation_value its values machine) (operation_machine its values machine) machine
    (machine_same its values machine is)

-- ---- slots

-- of a variable that is there
abbrev pub is_slot_binding : Option Binding → Bool
is_slot_binding None = false
is_slot_binding (Some (slot value)) = true
is_slot_binding (Some (object_at place)) = false

-- the variable is a slot there
abbrev pub is_slot_at : Variable → Machine → Bool
is_slot_at its machine = is_slot_binding (binding_of its machine)

-- without the value of a slot
abbrev pub bare : Option Binding → Option Binding
bare None = None
bare (Some (slot value)) = Some (slot None)
bare (Some (object_at place)) = Some (object_at place)

pub bare_slot : (its : Option Binding) → is_slot_binding (bare its) ≡ is_slot_binding its
bare_slot None = refl
bare_slot (Some (slot value)) = refl
bare_slot (Some (object_at place)) = refl

pub bare_object : (its : Option Binding) (place : ℕ) → bare its ≡ Some (object_at place) → its ≡ Some (object_at place)
bare_object None place is = is
bare_object (Some (slot value)) place is = absurd cc
bare_object (Some (object_at other)) place is = is

-- of all variables
abbrev pub SameSlots : Machine → Machine → Type 0
SameSlots before after = (its : Variable) → bare (binding_of its after) ≡ bare (binding_of its before)

-- the same variables are the same slots
pub slots_of_same : (before after : Machine) → SameVariables before after → SameSlots before after
slots_of_same before after is (name.Global place) = ap (λ all. bare (slice_get all place)) is.0
slots_of_same before after is (name.Local place) = ap (λ all. bare (slice_get all place)) is.1

-- a slot that is given a value is one still
set_slot : (all : List Binding) (place : ℕ) (value : Value) → is_slot_binding (slice_get all place) ≡ true → (other : ℕ)
    → bare (slice_get (slice_set all place (slot (Some value))) other) ≡ bare (slice_get all other)
set_slot [] place value is other = refl
set_slot (slot before ∷ rest) zero value is zero = refl
set_slot (object_at object ∷ rest) zero value is zero = absurd cc
set_slot (first ∷ rest) zero value is (suc other) = refl
set_slot (first ∷ rest) (suc place) value is zero = refl
set_slot (first ∷ rest) (suc place) value is (suc other) = set_slot rest place value is other

-- Set, of a slot
pub set_keeps_slots : (its : Variable) (value : Value) (machine : Machine) → is_slot_at its machine ≡ true
    → SameSlots machine (with_value its value machine)
set_keeps_slots (name.Global place) value machine is (name.Global other) = set_slot machine.globals place value is other
set_keeps_slots (name.Global place) value machine is (name.Local other) = refl
set_keeps_slots (name.Local place) value machine is (name.Global other) = refl
set_keeps_slots (name.Local place) value machine is (name.Local other) = set_slot machine.locals place value is other
