-- What routines do by handles, and to objects that they make, on a heap that never moves.
--     handle_fine                       why a role of the block of a handle stops
--     changed_still, reshaped_still     the machine after a role that changes the block
--     granted_still                     the machine with a change, if an allocation is granted
--     handle_if_unmoved, with_block_still, object_if_unmoved, with_object_if_still      blocks and objects that are made
--     dispose_fine, disposed_still      objects that are disposed
use Rattle.std.proofs.Common.{ℕ, Bool, true, false, not, ◌&&◌, List, [], ◌∷◌, ◌++◌, replicate, slice_get, Option, Some, None, Result, Ok, Err, refl, if◌then◌else◌}
use Rattle.hs_heap.specs.Blocks.{Block, new_block}
use Rattle.hs_heap.specs.Memory.{block_at}
use Rattle.hs_heap.specs.declared.cell.Cell.{Cell}
use Rattle.hs_heap.specs.declared.cell.Cell.TheVariants.{Undefined}
use Rattle.hs_heap.specs.declared.cell.Pointer.{Pointer}
use Rattle.hs_heap.specs.declared.cell.Pointer.TheVariants.{Nil, Fixed, Handle, Spot}
use Rattle.hs_heap.specs.declared.stop.HeapStop.{HeapStop}
use Rattle.hs_meaning.specs.Handles.{handle_stop_in, handle_stop, with_result, changed_in, changed_by, is_granted, asked, has_room_after, reshaped_in, reshaped_by, if_granted, handle_if, object_if, with_block, with_object_if, may_dispose, dispose_stop, disposed_object}
use Rattle.hs_meaning.specs.Laws.Unmoved.{IsUnmovedCell, AreUnmoved, IsUnmoved, IsUnmovedBlock, IsUnmovedObject, IsStillMachine}
use Rattle.hs_meaning.specs.Laws.Unmoved.Accesses.{with_blocks_still, with_objects_still, with_object_still, block_there, put_block_still}
use Rattle.hs_meaning.specs.Laws.Unmoved.Blocks.{IsFineRole, IsUnmovedResult, KeepsUnmoved, new_block_unmoved}
use Rattle.hs_meaning.specs.Laws.Unmoved.Fine.{IsFine, if_fine}
use Rattle.hs_meaning.specs.Laws.Unmoved.Lists.{IfThere, all_append, all_replicate}
use Rattle.hs_meaning.specs.Machine.{Machine, Storage, allocated, ended_object, new_object}
use Rattle.hs_meaning.specs.Values.{Value}
use Rattle.hs_meaning.specs.declared.outcome.Stop.TheVariants as stop

-- ---- blocks, by their handles

handle_fine_in : {A : Type 0} → (role : Block → Result A HeapStop) (block : Option Block) → IsFineRole role → IfThere IsUnmovedBlock block
    → IsFine (handle_stop_in role block)
handle_fine_in role None fine is = λ is. is
handle_fine_in role (Some block) fine is = fine block is

-- why a handle role stops
pub handle_fine : {A : Type 0} → (role : Block → Result A HeapStop) (its : Pointer) (machine : Machine) → IsFineRole role
    → IsStillMachine machine → IsFine (handle_stop role its machine)
handle_fine role Nil machine fine still = tt
handle_fine role (Fixed object at) machine fine still = λ is. is
handle_fine role (Spot its) machine fine still = λ is. is
handle_fine role (Handle block) machine fine still =
    handle_fine_in role (block_at machine.blocks block) fine (block_there machine.blocks block still.blocks)

result_still : (place : ℕ) (result : Result Block HeapStop) (machine : Machine) → IsUnmovedResult result → IsStillMachine machine
    → IsStillMachine (with_result place result machine)
result_still place (Ok after) machine is still = put_block_still machine place after is still
result_still place (Err why) machine is still = still

changed_in_still : (role : Block → Result Block HeapStop) (place : ℕ) (block : Option Block) (machine : Machine) → KeepsUnmoved role
    → IfThere IsUnmovedBlock block → IsStillMachine machine → IsStillMachine (changed_in role place block machine)
changed_in_still role place None machine keeps is still = still
changed_in_still role place (Some before) machine keeps is still = result_still place (role before) machine (keeps before is) still

-- the machine after a role that changes the block of a handle
pub changed_still : (role : Block → Result Block HeapStop) (its : Pointer) (machine : Machine) → KeepsUnmoved role → IsStillMachine machine
    → IsStillMachine (changed_by role its machine)
changed_still role Nil machine keeps still = still
changed_still role (Fixed object at) machine keeps still = still
changed_still role (Spot its) machine keeps still = still
changed_still role (Handle block) machine keeps still =
    changed_in_still role block (block_at machine.blocks block) machine keeps (block_there machine.blocks block still.blocks) still

-- ---- allocations

-- one of two machines
still_either : (b : Bool) (first second : Machine) → IsStillMachine first → IsStillMachine second → IsStillMachine (if b then first else second)
still_either true first second is so = is
still_either false first second is so = so

-- one more allocation was asked for
pub asked_still : (machine : Machine) → IsStillMachine machine → IsStillMachine (asked machine)
asked_still machine still = record { blocks = still.blocks; objects = still.objects; globals = still.globals; locals = still.locals }

reshaped_in_still : (lives : Block → Bool) (role : Block → Result Block HeapStop) (place : ℕ) (block : Option Block) (machine : Machine)
    → KeepsUnmoved role → IfThere IsUnmovedBlock block → IsStillMachine machine → IsStillMachine (reshaped_in lives role place block machine)
reshaped_in_still lives role place None machine keeps is still = still
reshaped_in_still lives role place (Some before) machine keeps is still =
    still_either (lives before && has_room_after place (role before) machine) (with_result place (role before) machine) machine
    (result_still place (role before) machine (keeps before is) still) still

-- the machine after a role that takes bytes
pub reshaped_still : (lives : Block → Bool) (role : Block → Result Block HeapStop) (its : Pointer) (machine : Machine) → KeepsUnmoved role
    → IsStillMachine machine → IsStillMachine (reshaped_by lives role its machine)
reshaped_still lives role Nil machine keeps still = still
reshaped_still lives role (Fixed object at) machine keeps still = still
reshaped_still lives role (Spot its) machine keeps still = still
reshaped_still lives role (Handle block) machine keeps still =
    reshaped_in_still lives role block (block_at machine.blocks block) machine keeps (block_there machine.blocks block still.blocks) still

-- the change, if the allocation is granted
pub granted_still : (value : Value) (change : Machine → Machine) (machine : Machine)
    → ((before : Machine) → IsStillMachine before → IsStillMachine (change before)) → IsStillMachine machine
    → IsStillMachine (if_granted value change machine)
granted_still value change machine each still =
    still_either (is_granted value machine) (change (asked machine)) (asked machine) (each (asked machine) (asked_still machine still))
    (asked_still machine still)

-- ---- blocks and objects that are made

-- a handle, or NIL
pub handle_if_unmoved : (b : Bool) (machine : Machine) → IsUnmoved (handle_if b machine)
handle_if_unmoved true machine = refl
handle_if_unmoved false machine = refl

-- the front of an object, or NIL
pub object_if_unmoved : (b : Bool) (machine : Machine) → IsUnmoved (object_if b machine)
object_if_unmoved true machine = refl
object_if_unmoved false machine = refl

-- one more block
pub more_blocks_still : (block : Block) (machine : Machine) → IsUnmovedBlock block → IsStillMachine machine
    → IsStillMachine (record machine { blocks = machine.blocks ++ block ∷ [] })
more_blocks_still block machine is still =
    with_blocks_still (machine.blocks ++ block ∷ []) machine (all_append IsUnmovedBlock machine.blocks (block ∷ []) still.blocks (is, tt)) still

-- one more object
pub new_object_still : (storage : Storage) (cells : List Cell) (machine : Machine) → AreUnmoved cells → IsStillMachine machine
    → IsStillMachine (new_object storage cells machine)
new_object_still storage cells machine are still =
    with_objects_still (machine.objects ++ record { cells = cells; storage = storage } ∷ []) machine
    (all_append IsUnmovedObject machine.objects (record { cells = cells; storage = storage } ∷ []) still.objects (are, tt)) still

-- the machine with a block that was made
pub with_block_still : (b : Bool) (size : ℕ) (machine : Machine) → IsStillMachine machine → IsStillMachine (with_block b size machine)
with_block_still true size machine still = more_blocks_still (new_block size) machine (new_block_unmoved size) still
with_block_still false size machine still = still

-- the machine with an object that was made
pub with_object_if_still : (b : Bool) (size : ℕ) (machine : Machine) → IsStillMachine machine → IsStillMachine (with_object_if b size machine)
with_object_if_still true size machine still =
    new_object_still allocated (replicate size Undefined) machine (all_replicate IsUnmovedCell size Undefined tt) still
with_object_if_still false size machine still = still

-- why an object is not disposed
pub dispose_fine : (its : Pointer) (machine : Machine) → IsFine (dispose_stop its machine)
dispose_fine Nil machine = tt
dispose_fine (Fixed object at) machine = if_fine (not (may_dispose at (slice_get machine.objects object))) stop.BadPointer (λ is. is)
dispose_fine (Handle block) machine = λ is. is
dispose_fine (Spot its) machine = λ is. is

-- the machine after it
pub disposed_still : (its : Pointer) (machine : Machine) → IsStillMachine machine → IsStillMachine (disposed_object its machine)
disposed_still Nil machine still = still
disposed_still (Fixed object at) machine still = with_object_still object ended_object machine tt still
disposed_still (Handle block) machine still = still
disposed_still (Spot its) machine still = still
