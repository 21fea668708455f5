-- Routines of every role but the plain one, if the relation speaks of the role.
--     role_stays                 the machine after one
use Rattle.std.proofs.Common.{◌≡◌, ◌%◌, ℕ, Bool, true, false, ◌&&◌, List, [], ◌∷◌, Option, Some, None, Result, Ok, Err, refl}
use Rattle.hs_heap.specs.Blocks.{Block, new_block, disposed, emptied, resized, with_lock, with_purge_bit, with_state, reallocated, has_life}
use Rattle.hs_heap.specs.Memory.{block_at}
use Rattle.hs_heap.specs.declared.cell.Pointer.{Pointer}
use Rattle.hs_heap.specs.declared.cell.Pointer.TheVariants.{Nil, Fixed, Handle, Spot}
use Rattle.hs_heap.specs.declared.stop.HeapStop.{HeapStop}
use Rattle.hs_meaning.specs.Accesses.{cells_at}
use Rattle.hs_meaning.specs.Handles.{with_result, changed_in, changed_by, is_granted, asked, has_room_after, reshaped_in, reshaped_by, if_granted, any_life, makes_block, makes_object, with_block, with_object_if, disposed_object, size_for}
use Rattle.hs_meaning.specs.Laws.Changes.{Change, Left, Leaves, Stays, same_stay, added_stay, put_stays, either_stays}
use Rattle.hs_meaning.specs.Laws.Changes.Accesses.{with_cells_at_stays}
use Rattle.hs_meaning.specs.Machine.{Machine}
use Rattle.hs_meaning.specs.Roles.{state_in, role_machine}
use Rattle.hs_meaning.specs.Values.{Value, pointer_in, bits_in}
use Rattle.hs_table.specs.declared.role.Role.{Role}
use Rattle.hs_table.specs.declared.role.Role.TheVariants.{NewHandle, DisposeHandle, GetSize, SetSize, Lock, Unlock, Purge, NoPurge, GetState, SetState, Empty, Realloc, NewPtr, DisposePtr, BlockMove, Getchar, Putchar}

module _ (R : Change) where
  -- ---- blocks, by their handles

  result_stays : (place : ℕ) (before : Block) (result : Result Block HeapStop) (machine : Machine) → block_at machine.blocks place ≡ Some before
      → Left R.keeps before result → Stays R machine (with_result place result machine)
  result_stays place before (Ok after) machine is same = put_stays R machine place before after is same
  result_stays place before (Err why) machine is same = same_stay R machine

  changed_in_stays : (role : Block → Result Block HeapStop) (place : ℕ) (block : Option Block) (machine : Machine) → Leaves R.keeps role
      → block_at machine.blocks place ≡ block → Stays R machine (changed_in role place block machine)
  changed_in_stays role place None machine keeps is = same_stay R machine
  changed_in_stays role place (Some before) machine keeps is = result_stays place before (role before) machine is (keeps before)

  changed_stays : (role : Block → Result Block HeapStop) (its : Pointer) (machine : Machine) → Leaves R.keeps role
      → Stays R machine (changed_by role its machine)
  changed_stays role Nil machine keeps = same_stay R machine
  changed_stays role (Fixed object at) machine keeps = same_stay R machine
  changed_stays role (Spot its) machine keeps = same_stay R machine
  changed_stays role (Handle block) machine keeps = changed_in_stays role block (block_at machine.blocks block) machine keeps refl

  reshaped_in_stays : (lives : Block → Bool) (role : Block → Result Block HeapStop) (place : ℕ) (block : Option Block) (machine : Machine)
      → Leaves R.keeps role → block_at machine.blocks place ≡ block → Stays R machine (reshaped_in lives role place block machine)
  reshaped_in_stays lives role place None machine keeps is = same_stay R machine
  reshaped_in_stays lives role place (Some before) machine keeps is =
      either_stays R machine (lives before && has_room_after place (role before) machine) (with_result place (role before) machine) machine
      (result_stays place before (role before) machine is (keeps before)) (same_stay R machine)

  reshaped_stays : (lives : Block → Bool) (role : Block → Result Block HeapStop) (its : Pointer) (machine : Machine) → Leaves R.keeps role
      → Stays R machine (reshaped_by lives role its machine)
  reshaped_stays lives role Nil machine keeps = same_stay R machine
  reshaped_stays lives role (Fixed object at) machine keeps = same_stay R machine
  reshaped_stays lives role (Spot its) machine keeps = same_stay R machine
  reshaped_stays lives role (Handle block) machine keeps = reshaped_in_stays lives role block (block_at machine.blocks block) machine keeps refl

  granted_stays : (value : Value) (change : Machine → Machine) (machine : Machine) → ((before : Machine) → Stays R before (change before))
      → Stays R machine (if_granted value change machine)
  granted_stays value change machine each =
      either_stays R machine (is_granted value machine) (change (asked machine)) (asked machine) (each (asked machine)) (same_stay R machine)

  -- ---- blocks and objects that are made

  with_block_stays : (b : Bool) (size : ℕ) (machine : Machine) → Stays R machine (with_block b size machine)
  with_block_stays true size machine = added_stay R machine (new_block size ∷ [])
  with_block_stays false size machine = same_stay R machine

  with_object_if_stays : (b : Bool) (size : ℕ) (machine : Machine) → Stays R machine (with_object_if b size machine)
  with_object_if_stays true size machine = same_stay R machine
  with_object_if_stays false size machine = same_stay R machine

  disposed_object_stays : (its : Pointer) (machine : Machine) → Stays R machine (disposed_object its machine)
  disposed_object_stays Nil machine = same_stay R machine
  disposed_object_stays (Fixed object at) machine = same_stay R machine
  disposed_object_stays (Handle block) machine = same_stay R machine
  disposed_object_stays (Spot its) machine = same_stay R machine

-- ---- the roles

-- the machine after a routine
pub role_stays : (R : Change) (its : Role) (values : List Value) (machine : Machine) → R.speaks_of its → Stays R machine (role_machine its values machine)
role_stays R NewHandle (size ∷ []) machine speaks = with_block_stays R (makes_block size machine) (size_for size) (asked machine)
role_stays R DisposeHandle (its ∷ []) machine speaks = changed_stays R disposed (pointer_in its) machine (R.disposes speaks)
role_stays R GetSize (its ∷ []) machine speaks = same_stay R machine
role_stays R SetSize (its ∷ size ∷ []) machine speaks =
    granted_stays R size (reshaped_by any_life (resized (size_for size)) (pointer_in its)) machine
    (λ before. reshaped_stays R any_life (resized (size_for size)) (pointer_in its) before (R.resizes speaks (size_for size)))
role_stays R Lock (its ∷ []) machine speaks = changed_stays R (with_lock true) (pointer_in its) machine (R.locks speaks)
role_stays R Unlock (its ∷ []) machine speaks = changed_stays R (with_lock false) (pointer_in its) machine (R.unlocks speaks)
role_stays R Purge (its ∷ []) machine speaks = changed_stays R (with_purge_bit true) (pointer_in its) machine (R.marks speaks)
role_stays R NoPurge (its ∷ []) machine speaks = changed_stays R (with_purge_bit false) (pointer_in its) machine (R.unmarks speaks)
role_stays R GetState (its ∷ []) machine speaks = same_stay R machine
role_stays R SetState (its ∷ byte ∷ []) machine speaks =
    changed_stays R (with_state (state_in byte)) (pointer_in its) machine (R.puts_back speaks (state_in byte))
role_stays R Empty (its ∷ []) machine speaks = changed_stays R emptied (pointer_in its) machine (R.empties speaks)
role_stays R Realloc (its ∷ size ∷ []) machine speaks =
    granted_stays R size (reshaped_by has_life (reallocated (size_for size)) (pointer_in its)) machine
    (λ before. reshaped_stays R has_life (reallocated (size_for size)) (pointer_in its) before (R.renews speaks (size_for size)))
role_stays R NewPtr (size ∷ []) machine speaks = with_object_if_stays R (makes_object size machine) (size_for size) (asked machine)
role_stays R DisposePtr (its ∷ []) machine speaks = disposed_object_stays R (pointer_in its) machine
role_stays R BlockMove (from ∷ to ∷ count ∷ []) machine speaks =
    with_cells_at_stays R (pointer_in to) (cells_at (pointer_in from) (size_for count) machine) machine
role_stays R Getchar [] machine speaks = same_stay R machine
role_stays R Putchar (byte ∷ []) machine speaks = R.written machine.blocks machine.output (bits_in byte % 256 ∷ [])
role_stays R its values machine speaks = same_stay R machine
