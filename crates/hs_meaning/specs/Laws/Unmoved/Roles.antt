-- Roles of routines on a heap that never moves.
--     role_fine, role_value_unmoved, role_still      why one stops, what it gives, and the machine after it
use Rattle.std.proofs.Common.{ℕ, ◌%◌, true, false, not, List, [], ◌∷◌, Result}
use Rattle.std.specs.List.{AllByRecursion}
use Rattle.hs_heap.specs.Blocks.{Block, emptied, disposed, size_of, resized, with_lock, with_purge_bit, state_of, with_state, reallocated, has_life}
use Rattle.hs_heap.specs.declared.cell.Pointer.{Pointer}
use Rattle.hs_heap.specs.declared.stop.HeapStop.{HeapStop}
use Rattle.hs_meaning.specs.Accesses.{use_stops, cells_at}
use Rattle.hs_meaning.specs.Handles.{reshaped_by, any_life, asked, makes_block, makes_object, is_size, size_for}
use Rattle.hs_meaning.specs.Laws.Unmoved.{IsUnmovedPointer, IsUnmoved, IsStillMachine}
use Rattle.hs_meaning.specs.Laws.Unmoved.Accesses.{use_stops_fine, cells_at_unmoved, with_cells_at_still}
use Rattle.hs_meaning.specs.Laws.Unmoved.Blocks as blocks
use Rattle.hs_meaning.specs.Laws.Unmoved.Blocks.{IsFineRole}
use Rattle.hs_meaning.specs.Laws.Unmoved.Fine.{IsFine, AreFine, if_fine, number_fine, pointer_fine}
use Rattle.hs_meaning.specs.Laws.Unmoved.Handles.{handle_fine, changed_still, asked_still, reshaped_still, granted_still, handle_if_unmoved, object_if_unmoved, with_block_still, with_object_if_still, dispose_fine, disposed_still}
use Rattle.hs_meaning.specs.Laws.Unmoved.Lists.{all_append}
use Rattle.hs_meaning.specs.Laws.Unmoved.Values.{pointer_in_unmoved}
use Rattle.hs_meaning.specs.Machine.{Machine}
use Rattle.hs_meaning.specs.Numbers.{signed}
use Rattle.hs_meaning.specs.Roles.{is_handle, state_stop, state_in, later, put, handle_stops, move_stops, role_stops, role_value, role_machine}
use Rattle.hs_meaning.specs.Values.{Value, number, pointer, state, structure, bits_in, pointer_in}
use Rattle.hs_meaning.specs.declared.outcome.Stop.TheVariants as stop
use Rattle.hs_table.specs.declared.role.Role.{Role}
use Rattle.hs_table.specs.declared.role.Role.TheVariants.{NewHandle, DisposeHandle, GetSize, SetSize, Lock, Unlock, Purge, NoPurge, GetState, SetState, Empty, Realloc, NewPtr, DisposePtr, BlockMove, Getchar, Putchar}

-- ---- why they stop

state_fine : (value : Value) → IsFine (state_stop value)
state_fine (number bits) = λ is. is
state_fine (pointer its) = λ is. is
state_fine (state byte) = tt
state_fine (structure cells) = λ is. is

handles_fine : {A : Type 0} → (role : Block → Result A HeapStop) (value : Value) (machine : Machine) → IsFineRole role → IsStillMachine machine
    → AreFine (handle_stops role value machine)
handles_fine role value machine fine still = (pointer_fine value, (handle_fine role (pointer_in value) machine fine still, tt))

moves_fine : (from to : Pointer) (count : Value) (machine : Machine) → IsUnmovedPointer from → IsUnmovedPointer to → IsStillMachine machine
    → AreFine (move_stops from to count machine)
moves_fine from to count machine is so still = (
  number_fine count,
  (
    if_fine (is_handle from) stop.BadPointer (λ is. is),
    (
      if_fine (is_handle to) stop.BadPointer (λ is. is),
      (
        if_fine (not (is_size (signed (bits_in count)))) stop.Range (λ is. is),
        all_append IsFine (use_stops from (size_for count) machine) (use_stops to (size_for count) machine)
            (use_stops_fine from (size_for count) machine is still) (use_stops_fine to (size_for count) machine so still),
      ),
    ),
  ),
)

-- why a routine stops
pub role_fine : (its : Role) (values : List Value) (machine : Machine) → AllByRecursion IsUnmoved values → IsStillMachine machine
    → AreFine (role_stops its values machine)
role_fine NewHandle (size ∷ []) machine are still = (number_fine size, tt)
role_fine DisposeHandle (its ∷ []) machine are still = handles_fine disposed its machine blocks.disposed_fine still
role_fine GetSize (its ∷ []) machine are still = handles_fine size_of its machine blocks.size_of_fine still
role_fine SetSize (its ∷ size ∷ []) machine are still =
    (number_fine size, handles_fine (resized (size_for size)) its machine (blocks.resized_fine (size_for size)) still)
role_fine Lock (its ∷ []) machine are still = handles_fine (with_lock true) its machine (blocks.with_lock_fine true) still
role_fine Unlock (its ∷ []) machine are still = handles_fine (with_lock false) its machine (blocks.with_lock_fine false) still
role_fine Purge (its ∷ []) machine are still = handles_fine (with_purge_bit true) its machine (blocks.with_purge_bit_fine true) still
role_fine NoPurge (its ∷ []) machine are still = handles_fine (with_purge_bit false) its machine (blocks.with_purge_bit_fine false) still
role_fine GetState (its ∷ []) machine are still = handles_fine state_of its machine blocks.state_of_fine still
role_fine SetState (its ∷ byte ∷ []) machine are still =
    (state_fine byte, handles_fine (with_state (state_in byte)) its machine (blocks.with_state_fine (state_in byte)) still)
role_fine Empty (its ∷ []) machine are still = handles_fine emptied its machine blocks.emptied_fine still
role_fine Realloc (its ∷ size ∷ []) machine are still =
    (number_fine size, handles_fine (reallocated (size_for size)) its machine (blocks.reallocated_fine (size_for size)) still)
role_fine NewPtr (size ∷ []) machine are still = (number_fine size, tt)
role_fine DisposePtr (its ∷ []) machine are still = (pointer_fine its, (dispose_fine (pointer_in its) machine, tt))
role_fine BlockMove (from ∷ to ∷ count ∷ []) machine are still =
    moves_fine (pointer_in from) (pointer_in to) count machine (pointer_in_unmoved from are.0) (pointer_in_unmoved to are.1.0) still
role_fine Getchar [] machine are still = tt
role_fine Putchar (byte ∷ []) machine are still = (number_fine byte, tt)
role_fine its values machine are still = (λ is. is, tt)

-- ---- what they do

-- what a routine gives
pub role_value_unmoved : (its : Role) (values : List Value) (machine : Machine) → IsUnmoved (role_value its values machine)
role_value_unmoved NewHandle (size ∷ []) machine = handle_if_unmoved (makes_block size machine) machine
role_value_unmoved GetSize (its ∷ []) machine = tt
role_value_unmoved GetState (its ∷ []) machine = tt
role_value_unmoved NewPtr (size ∷ []) machine = object_if_unmoved (makes_object size machine) machine
role_value_unmoved Getchar [] machine = tt
role_value_unmoved Putchar (byte ∷ []) machine = tt
role_value_unmoved its values machine = tt

later_still : (machine : Machine) → IsStillMachine machine → IsStillMachine (record machine { bytes = later machine.bytes })
later_still machine still = record { blocks = still.blocks; objects = still.objects; globals = still.globals; locals = still.locals }

put_still : (byte : ℕ) (machine : Machine) → IsStillMachine machine → IsStillMachine (put byte machine)
put_still byte machine still = record { blocks = still.blocks; objects = still.objects; globals = still.globals; locals = still.locals }

-- the machine after a routine
pub role_still : (its : Role) (values : List Value) (machine : Machine) → IsStillMachine machine → IsStillMachine (role_machine its values machine)
role_still NewHandle (size ∷ []) machine still =
    with_block_still (makes_block size machine) (size_for size) (asked machine) (asked_still machine still)
role_still DisposeHandle (its ∷ []) machine still = changed_still disposed (pointer_in its) machine blocks.disposed_keeps still
role_still GetSize (its ∷ []) machine still = still
role_still SetSize (its ∷ size ∷ []) machine still =
    granted_still size (reshaped_by any_life (resized (size_for size)) (pointer_in its)) machine
    (λ before is. reshaped_still any_life (resized (size_for size)) (pointer_in its) before (blocks.resized_keeps (size_for size)) is) still
role_still Lock (its ∷ []) machine still = changed_still (with_lock true) (pointer_in its) machine (blocks.with_lock_keeps true) still
role_still Unlock (its ∷ []) machine still = changed_still (with_lock false) (pointer_in its) machine (blocks.with_lock_keeps false) still
role_still Purge (its ∷ []) machine still = changed_still (with_purge_bit true) (pointer_in its) machine (blocks.with_purge_bit_keeps true) still
role_still NoPurge (its ∷ []) machine still = changed_still (with_purge_bit false) (pointer_in its) machine (blocks.with_purge_bit_keeps false) still
role_still GetState (its ∷ []) machine still = still
role_still SetState (its ∷ byte ∷ []) machine still =
    changed_still (with_state (state_in byte)) (pointer_in its) machine (blocks.with_state_keeps (state_in byte)) still
role_still Empty (its ∷ []) machine still = changed_still emptied (pointer_in its) machine blocks.emptied_keeps still
role_still Realloc (its ∷ size ∷ []) machine still =
    granted_still size (reshaped_by has_life (reallocated (size_for size)) (pointer_in its)) machine
    (λ before is. reshaped_still has_life (reallocated (size_for size)) (pointer_in its) before (blocks.reallocated_keeps (size_for size)) is) still
role_still NewPtr (size ∷ []) machine still =
    with_object_if_still (makes_object size machine) (size_for size) (asked machine) (asked_still machine still)
role_still DisposePtr (its ∷ []) machine still = disposed_still (pointer_in its) machine still
role_still BlockMove (from ∷ to ∷ count ∷ []) machine still =
    with_cells_at_still (pointer_in to) (cells_at (pointer_in from) (size_for count) machine) machine
    (cells_at_unmoved (pointer_in from) (size_for count) machine still) still
role_still Getchar [] machine still = later_still machine still
role_still Putchar (byte ∷ []) machine still = put_still (bits_in byte % 256) machine still
role_still its values machine still = still
