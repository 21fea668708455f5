-- The roles of routines on the still machine.
--     role_stops_still, role_value_still, role_machine_still
use Rattle.std.proofs.Common.{◌≡◌, ◌%◌, Bool, true, false, List, [], ◌∷◌, map, Result, refl, ap, ◌∙◌}
use Rattle.hs_heap.specs.Blocks.{Block, emptied, disposed, size_of, resized, with_lock, with_purge_bit, state_of, with_state, reallocated, has_life}
use Rattle.hs_heap.specs.declared.cell.Pointer.{Pointer}
use Rattle.hs_heap.specs.declared.cell.Pointer.TheVariants.{Nil, Fixed, Handle, Spot}
use Rattle.hs_heap.specs.declared.stop.HeapStop.{HeapStop}
use Rattle.hs_meaning.specs.Accesses.{cells_at}
use Rattle.hs_meaning.specs.Handles.{changed_by, if_granted, asked, reshaped_by, any_life, makes_block, makes_object, handle_if, object_if, with_block, with_object_if, size_for}
use Rattle.hs_meaning.specs.Machine.{Machine}
use Rattle.hs_meaning.specs.Roles.{is_handle, state_stop, state_in, put, handle_stops, move_stops, role_stops, role_value, role_machine}
use Rattle.hs_meaning.specs.Values.{Value, number, pointer, state, structure, pointer_in, number_stop, pointer_stop, unmoved}
use Rattle.hs_still.specs.Accesses.{cells_at_still, with_cells_at_still}
use Rattle.hs_still.specs.Blocks.{IsStill, same_number, lock_still, purge_still, state_still, emptied_still, disposed_role_still, resized_still, reallocated_still, size_of_still, state_of_still}
use Rattle.hs_still.specs.Cells.{bits_still, pointer_still, number_stop_still, pointer_stop_still}
use Rattle.hs_still.specs.Handles.{handle_stop_still, changed_by_still, answer_by_still, size_for_still, if_granted_still, reshaped_by_still, unpurged_asked, makes_block_still, makes_object_still, handle_if_still, object_if_still, with_block_still, with_object_if_still, dispose_stop_still, disposed_object_still}
use Rattle.hs_still.specs.Machines.{still_value, still_block, still_machine}
use Rattle.hs_still.specs.Tests.{RoleUses}
use Rattle.hs_still.specs.Uses.{Current, Unpurged, use_stops_still}
use Rattle.hs_table.specs.declared.role.Role.{Role}
use Rattle.hs_table.specs.declared.role.Role.TheVariants.{NewHandle, DisposeHandle, GetSize, SetSize, Lock, Unlock, Purge, NoPurge, GetState, SetState, Empty, Realloc, NewPtr, DisposePtr, BlockMove, Getchar, Putchar}

-- ---- operands

is_handle_still : (its : Pointer) → is_handle (unmoved its) ≡ is_handle its
is_handle_still Nil = refl
is_handle_still (Fixed object at) = refl
is_handle_still (Handle block) = refl
is_handle_still (Spot its) = refl

state_stop_still : (value : Value) → state_stop (still_value value) ≡ state_stop value
state_stop_still (number bits) = refl
state_stop_still (pointer its) = refl
state_stop_still (state byte) = refl
state_stop_still (structure cells) = refl

state_in_still : (value : Value) → state_in (still_value value) ≡ state_in value
state_in_still (number bits) = refl
state_in_still (pointer its) = refl
state_in_still (state byte) = refl
state_in_still (structure cells) = refl

handle_stops_still : {A : Type 0} → (f : A → A) (role : Block → Result A HeapStop) → IsStill f role → (value : Value) (machine : Machine)
    → Unpurged (pointer_in value) machine → handle_stops role (still_value value) (still_machine machine) ≡ handle_stops role value machine
handle_stops_still f role is value machine used =
    rw (pointer_stop_still value, pointer_still value)
    (ap (λ why. pointer_stop value ∷ why ∷ []) (handle_stop_still f role is (pointer_in value) machine used))

move_stops_still : (from to : Pointer) (count : Value) (machine : Machine) → Current from machine → Current to machine
    → move_stops (unmoved from) (unmoved to) (still_value count) (still_machine machine) ≡ move_stops from to count machine
move_stops_still from to count machine first second =
    rw (
      number_stop_still count,
      is_handle_still from,
      is_handle_still to,
      bits_still count,
      use_stops_still from (size_for count) machine first,
      use_stops_still to (size_for count) machine second,
    ) refl

-- ---- why they stop

-- why a routine stops
pub role_stops_still : (role : Role) (values : List Value) (machine : Machine) → RoleUses role values machine
    → role_stops role (map still_value values) (still_machine machine) ≡ role_stops role values machine
role_stops_still NewHandle (size ∷ []) machine used = ap (λ why. why ∷ []) (number_stop_still size)
role_stops_still DisposeHandle (its ∷ []) machine used = handle_stops_still still_block disposed disposed_role_still its machine used
role_stops_still GetSize (its ∷ []) machine used = handle_stops_still same_number size_of size_of_still its machine used
role_stops_still SetSize (its ∷ size ∷ []) machine used =
    ap (λ n. number_stop (still_value size) ∷ handle_stops (resized n) (still_value its) (still_machine machine)) (size_for_still size)
    ∙ ap (λ why. why ∷ handle_stops (resized (size_for size)) (still_value its) (still_machine machine)) (number_stop_still size)
    ∙ ap (λ ss. number_stop size ∷ ss) (handle_stops_still still_block (resized (size_for size)) (resized_still (size_for size)) its machine used)
role_stops_still Lock (its ∷ []) machine used = handle_stops_still still_block (with_lock true) (lock_still true) its machine used
role_stops_still Unlock (its ∷ []) machine used = handle_stops_still still_block (with_lock false) (lock_still false) its machine used
role_stops_still Purge (its ∷ []) machine used = handle_stops_still still_block (with_purge_bit true) (purge_still true) its machine used
role_stops_still NoPurge (its ∷ []) machine used = handle_stops_still still_block (with_purge_bit false) (purge_still false) its machine used
role_stops_still GetState (its ∷ []) machine used = handle_stops_still same_number state_of state_of_still its machine used
role_stops_still SetState (its ∷ byte ∷ []) machine used =
    ap (λ n. state_stop (still_value byte) ∷ handle_stops (with_state n) (still_value its) (still_machine machine)) (state_in_still byte)
    ∙ ap (λ why. why ∷ handle_stops (with_state (state_in byte)) (still_value its) (still_machine machine)) (state_stop_still byte)
    ∙ ap (λ ss. state_stop byte ∷ ss) (handle_stops_still still_block (with_state (state_in byte)) (state_still (state_in byte)) its machine used)
role_stops_still Empty (its ∷ []) machine used = handle_stops_still still_block emptied emptied_still its machine used
role_stops_still Realloc (its ∷ size ∷ []) machine used =
    ap (λ n. number_stop (still_value size) ∷ handle_stops (reallocated n) (still_value its) (still_machine machine)) (size_for_still size)
    ∙ ap (λ why. why ∷ handle_stops (reallocated (size_for size)) (still_value its) (still_machine machine)) (number_stop_still size)
    ∙ ap (λ ss. number_stop size ∷ ss) (handle_stops_still still_block (reallocated (size_for size)) (reallocated_still (size_for size)) its machine used)
role_stops_still NewPtr (size ∷ []) machine used = ap (λ why. why ∷ []) (number_stop_still size)
role_stops_still DisposePtr (its ∷ []) machine used =
    rw (pointer_stop_still its, pointer_still its) (ap (λ why. pointer_stop its ∷ why ∷ []) (dispose_stop_still (pointer_in its) machine))
role_stops_still BlockMove (from ∷ to ∷ count ∷ []) machine used =
    rw (pointer_still from, pointer_still to) (move_stops_still (pointer_in from) (pointer_in to) count machine used.0 used.1)
role_stops_still Getchar [] machine used = refl
role_stops_still Putchar (byte ∷ []) machine used = ap (λ why. why ∷ []) (number_stop_still byte)
role_stops_still role values machine used = refl

-- ---- what they give

-- what a routine gives
pub role_value_still : (role : Role) (values : List Value) (machine : Machine) → RoleUses role values machine
    → role_value role (map still_value values) (still_machine machine) ≡ still_value (role_value role values machine)
role_value_still NewHandle (size ∷ []) machine used =
    ap (λ b. handle_if b (still_machine machine)) (makes_block_still size machine) ∙ handle_if_still (makes_block size machine) machine
role_value_still GetSize (its ∷ []) machine used =
    rw (pointer_still its) (ap number (answer_by_still size_of size_of_still (pointer_in its) machine used))
role_value_still GetState (its ∷ []) machine used =
    rw (pointer_still its) (ap state (answer_by_still state_of state_of_still (pointer_in its) machine used))
role_value_still NewPtr (size ∷ []) machine used =
    ap (λ b. object_if b (still_machine machine)) (makes_object_still size machine) ∙ object_if_still (makes_object size machine) machine
role_value_still Getchar [] machine used = refl
role_value_still Putchar (byte ∷ []) machine used = ap (λ bits. number (bits % 256)) (bits_still byte)
role_value_still role values machine used = refl

-- ---- the machine after them

module _ (role : Block → Result Block HeapStop) (is : IsStill still_block role) (value : Value) (machine : Machine)
    (used : Unpurged (pointer_in value) machine) where
  changes_still : changed_by role (pointer_in (still_value value)) (still_machine machine) ≡ still_machine (changed_by role (pointer_in value) machine)
  changes_still = rw (pointer_still value) (changed_by_still role is (pointer_in value) machine used)

module _ (lives : Block → Bool) (alike : (block : Block) → lives (still_block block) ≡ lives block) (role : Block → Result Block HeapStop)
    (is : IsStill still_block role) (value : Value) (machine : Machine) (used : Unpurged (pointer_in value) machine) where
  reshapes_still : reshaped_by lives role (pointer_in (still_value value)) (still_machine (asked machine))
      ≡ still_machine (reshaped_by lives role (pointer_in value) (asked machine))
  reshapes_still =
      rw (pointer_still value)
      (reshaped_by_still lives alike role is (pointer_in value) (asked machine) (unpurged_asked (pointer_in value) machine used))

-- the machine after a routine
pub role_machine_still : (role : Role) (values : List Value) (machine : Machine) → RoleUses role values machine
    → role_machine role (map still_value values) (still_machine machine) ≡ still_machine (role_machine role values machine)
role_machine_still NewHandle (size ∷ []) machine used =
    ap (λ b. with_block b (size_for (still_value size)) (asked (still_machine machine))) (makes_block_still size machine)
    ∙ ap (λ n. with_block (makes_block size machine) n (still_machine (asked machine))) (size_for_still size)
    ∙ with_block_still (makes_block size machine) (size_for size) (asked machine)
role_machine_still DisposeHandle (its ∷ []) machine used = changes_still disposed disposed_role_still its machine used
role_machine_still GetSize (its ∷ []) machine used = refl
role_machine_still SetSize (its ∷ size ∷ []) machine used =
    ap (λ n. if_granted (still_value size) (reshaped_by any_life (resized n) (pointer_in (still_value its))) (still_machine machine)) (size_for_still size)
    ∙ if_granted_still size (reshaped_by any_life (resized (size_for size)) (pointer_in its))
    (reshaped_by any_life (resized (size_for size)) (pointer_in (still_value its))) machine
    (reshapes_still any_life (λ block. refl) (resized (size_for size)) (resized_still (size_for size)) its machine used)
role_machine_still Lock (its ∷ []) machine used = changes_still (with_lock true) (lock_still true) its machine used
role_machine_still Unlock (its ∷ []) machine used = changes_still (with_lock false) (lock_still false) its machine used
role_machine_still Purge (its ∷ []) machine used = changes_still (with_purge_bit true) (purge_still true) its machine used
role_machine_still NoPurge (its ∷ []) machine used = changes_still (with_purge_bit false) (purge_still false) its machine used
role_machine_still GetState (its ∷ []) machine used = refl
role_machine_still SetState (its ∷ byte ∷ []) machine used =
    ap (λ n. changed_by (with_state n) (pointer_in (still_value its)) (still_machine machine)) (state_in_still byte)
    ∙ changes_still (with_state (state_in byte)) (state_still (state_in byte)) its machine used
role_machine_still Empty (its ∷ []) machine used = changes_still emptied emptied_still its machine used
role_machine_still Realloc (its ∷ size ∷ []) machine used =
    ap (λ n. if_granted (still_value size) (reshaped_by has_life (reallocated n) (pointer_in (still_value its))) (still_machine machine)) (size_for_still size)
    ∙ if_granted_still size (reshaped_by has_life (reallocated (size_for size)) (pointer_in its))
    (reshaped_by has_life (reallocated (size_for size)) (pointer_in (still_value its))) machine
    (reshapes_still has_life (λ block. refl) (reallocated (size_for size)) (reallocated_still (size_for size)) its machine used)
role_machine_still NewPtr (size ∷ []) machine used =
    ap (λ b. with_object_if b (size_for (still_value size)) (asked (still_machine machine))) (makes_object_still size machine)
    ∙ ap (λ n. with_object_if (makes_object size machine) n (still_machine (asked machine))) (size_for_still size)
    ∙ with_object_if_still (makes_object size machine) (size_for size) (asked machine)
role_machine_still DisposePtr (its ∷ []) machine used = rw (pointer_still its) (disposed_object_still (pointer_in its) machine)
role_machine_still BlockMove (from ∷ to ∷ count ∷ []) machine used =
    rw (pointer_still from, pointer_still to, size_for_still count, cells_at_still (pointer_in from) (size_for count) machine)
    (with_cells_at_still (pointer_in to) (cells_at (pointer_in from) (size_for count) machine) machine)
role_machine_still Getchar [] machine used = refl
role_machine_still Putchar (byte ∷ []) machine used = ap (λ bits. put (bits % 256) (still_machine machine)) (bits_still byte)
role_machine_still role values machine used = refl
