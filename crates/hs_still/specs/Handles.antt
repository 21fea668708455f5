-- What roles do by handles, and what they make, on the still machine.
--     handle_stop_still, changed_by_still, answer_by_still       the block of a handle that is not purged
--     granted_still, if_granted_still, reshaped_by_still         allocations
--     live_bytes_still, bytes_where_still                        bytes that are counted
--     handle_if_still, with_block_still, object_if_still, with_object_if_still      what is made
--     dispose_stop_still, disposed_object_still                  objects that are disposed
use Rattle.std.proofs.Common.{◌≡◌, ℤ, ℕ, pos, ◌+◌, ◌-◌, ◌==◌, nat_le, nat_lt, Bool, true, false, not, ◌&&◌, List, [], ◌∷◌, ◌++◌, map, length, replicate, slice_get, Option, Some, None, option_map, Result, Ok, Err, refl, sym, ap, ◌∙◌, if◌then◌else◌}
use Rattle.std.proofs.lemmas.List.{length-map, map-append}
use Rattle.std.proofs.lemmas.Option.{slice_get-map}
use Rattle.std.specs.List.{fold, list_any}
use Rattle.hs_heap.specs.Blocks.{Block, new_block}
use Rattle.hs_heap.specs.Memory.{block_at, put_block, live_bytes, has_room}
use Rattle.hs_heap.specs.declared.cell.Cell.{Cell}
use Rattle.hs_heap.specs.declared.cell.Cell.TheVariants.{Undefined}
use Rattle.hs_heap.specs.declared.cell.Pointer.{Pointer}
use Rattle.hs_heap.specs.declared.cell.Pointer.TheVariants.{Nil, Fixed, Handle, Spot}
use Rattle.hs_heap.specs.declared.stop.HeapStop.{HeapStop}
use Rattle.hs_meaning.specs.Handles.{handle_stop_in, handle_stop, with_result, changed_in, changed_by, answer_in, answer_of_block, answer_by, is_size, size_in, size_for, is_granted, asked, has_room_after, reshaped_in, reshaped_by, if_granted, makes_block, makes_object, handle_if, object_if, with_block, with_object_if, may_dispose, dispose_stop, disposed_object}
use Rattle.hs_meaning.specs.Machine.{Machine, Object, Storage, allocated, is_allocated, ended_object, bytes_if, bytes_where, has_room_for, with_blocks, new_object}
use Rattle.hs_meaning.specs.Numbers.{signed}
use Rattle.hs_meaning.specs.Stops.{stops_if, heap_stop}
use Rattle.hs_meaning.specs.Values.{Value, pointer, unmoved}
use Rattle.hs_meaning.specs.declared.outcome.Stop.TheVariants as stop
use Rattle.hs_still.specs.Accesses.{map_set, put_block_still, with_object_still}
use Rattle.hs_still.specs.Blocks.{still_result, IsStill, same_number, undefined_cells, new_block_still}
use Rattle.hs_still.specs.Cells.{bits_still}
use Rattle.hs_still.specs.Machines.{still_cell, still_cells, still_value, still_block, still_object, still_machine}
use Rattle.hs_still.specs.Uses.{UnpurgedIn, Unpurged, block_at_still}

-- ---- blocks, by their handles

module _ {A : Type 0} (f : A → A) (role : Block → Result A HeapStop) (is : IsStill f role) where
  heap_stop_still : (its : Result A HeapStop) → heap_stop (still_result f its) ≡ heap_stop its
  heap_stop_still (Ok it) = refl
  heap_stop_still (Err why) = refl

  handle_stop_in_still : (b : Option Block) → UnpurgedIn b → handle_stop_in role (option_map still_block b) ≡ handle_stop_in role b
  handle_stop_in_still None used = refl
  handle_stop_in_still (Some block) used = ap heap_stop (is block used) ∙ heap_stop_still (role block)

  -- why a role of a handle stops
  pub handle_stop_still : (its : Pointer) (machine : Machine) → Unpurged its machine
      → handle_stop role (unmoved its) (still_machine machine) ≡ handle_stop role its machine
  handle_stop_still Nil machine used = refl
  handle_stop_still (Fixed object at) machine used = refl
  handle_stop_still (Spot its) machine used = refl
  handle_stop_still (Handle n) machine used =
      ap (handle_stop_in role) (block_at_still machine.blocks n) ∙ handle_stop_in_still (block_at machine.blocks n) used

-- the heap with the block after the role
pub with_result_still : (n : ℕ) (its : Result Block HeapStop) (machine : Machine)
    → with_result n (still_result still_block its) (still_machine machine) ≡ still_machine (with_result n its machine)
with_result_still n (Ok block) machine = put_block_still n block machine
with_result_still n (Err why) machine = refl

module _ (role : Block → Result Block HeapStop) (is : IsStill still_block role) where
  changed_in_still : (n : ℕ) (b : Option Block) (machine : Machine) → UnpurgedIn b
      → changed_in role n (option_map still_block b) (still_machine machine) ≡ still_machine (changed_in role n b machine)
  changed_in_still n None machine used = refl
  changed_in_still n (Some block) machine used =
      ap (λ r. with_result n r (still_machine machine)) (is block used) ∙ with_result_still n (role block) machine

  -- the machine after a role that changes the block of a handle
  pub changed_by_still : (its : Pointer) (machine : Machine) → Unpurged its machine
      → changed_by role (unmoved its) (still_machine machine) ≡ still_machine (changed_by role its machine)
  changed_by_still Nil machine used = refl
  changed_by_still (Fixed object at) machine used = refl
  changed_by_still (Spot its) machine used = refl
  changed_by_still (Handle n) machine used =
      ap (λ b. changed_in role n b (still_machine machine)) (block_at_still machine.blocks n)
      ∙ changed_in_still n (block_at machine.blocks n) machine used

module _ (role : Block → Result ℕ HeapStop) (is : IsStill same_number role) where
  answer_in_still : (its : Result ℕ HeapStop) → answer_in (still_result same_number its) ≡ answer_in its
  answer_in_still (Ok answer) = refl
  answer_in_still (Err why) = refl

  answer_of_still : (b : Option Block) → UnpurgedIn b → answer_of_block role (option_map still_block b) ≡ answer_of_block role b
  answer_of_still None used = refl
  answer_of_still (Some block) used = ap answer_in (is block used) ∙ answer_in_still (role block)

  -- what a role answers
  pub answer_by_still : (its : Pointer) (machine : Machine) → Unpurged its machine
      → answer_by role (unmoved its) (still_machine machine) ≡ answer_by role its machine
  answer_by_still Nil machine used = refl
  answer_by_still (Fixed object at) machine used = refl
  answer_by_still (Spot its) machine used = refl
  answer_by_still (Handle n) machine used =
      ap (answer_of_block role) (block_at_still machine.blocks n) ∙ answer_of_still (block_at machine.blocks n) used

-- ---- bytes

bytes_from : (before : ℕ) (blocks : List Block)
    → fold (λ a x. a + length x.cells) before (map still_block blocks) ≡ fold (λ a x. a + length x.cells) before blocks
bytes_from before [] = refl
bytes_from before (block ∷ blocks) =
    ap (λ n. fold (λ a x. a + length x.cells) (before + n) (map still_block blocks)) (length-map block.cells still_cell)
    ∙ bytes_from (before + length block.cells) blocks

-- the bytes of all blocks
pub live_bytes_still : (blocks : List Block) → live_bytes (map still_block blocks) ≡ live_bytes blocks
live_bytes_still blocks = bytes_from 0 blocks

bytes_if_still : (b : Bool) (its : Object) → bytes_if b (still_object its) ≡ bytes_if b its
bytes_if_still true its = length-map its.cells still_cell
bytes_if_still false its = refl

-- the bytes of objects
pub bytes_where_still : (is : Storage → Bool) (objects : List Object) → bytes_where is (map still_object objects) ≡ bytes_where is objects
bytes_where_still is [] = refl
bytes_where_still is (its ∷ rest) =
    ap (λ n. n + bytes_where is (map still_object rest)) (bytes_if_still (is its.storage) its)
    ∙ ap (λ n. bytes_if (is its.storage) its + n) (bytes_where_still is rest)

-- room for one block more
pub has_room_still : (blocks : List Block) (size : ℕ) → has_room (map still_block blocks) size ≡ has_room blocks size
has_room_still blocks size =
    ap (λ n. nat_le (n + size) 16777216 && nat_lt (length (map still_block blocks)) 4294967295) (live_bytes_still blocks)
    ∙ ap (λ n. nat_le (live_bytes blocks + size) 16777216 && nat_lt n 4294967295) (length-map blocks still_block)

-- room for one object more
pub has_room_for_still : (size : ℕ) (machine : Machine) → has_room_for size (still_machine machine) ≡ has_room_for size machine
has_room_for_still size machine =
    ap (λ n. nat_le (n + size) 16777216 && nat_le (length (map still_object machine.objects) + 1) 4294967295)
    (bytes_where_still is_allocated machine.objects)
    ∙ ap (λ n. nat_le (bytes_where is_allocated machine.objects + size) 16777216 && nat_le (n + 1) 4294967295)
    (length-map machine.objects still_object)

-- ---- allocations

-- a size that is asked for
pub size_for_still : (value : Value) → size_for (still_value value) ≡ size_for value
size_for_still value = ap (λ bits. size_in (signed bits)) (bits_still value)

-- the next allocation is not refused
pub granted_still : (value : Value) (machine : Machine) → is_granted (still_value value) (still_machine machine) ≡ is_granted value machine
granted_still value machine =
    ap (λ bits. not (list_any (λ refused. refused == machine.allocations + 1) machine.refused) && is_size (signed bits)) (bits_still value)

-- a change, if the allocation is granted
pub if_granted_still : (value : Value) (change still : Machine → Machine) (machine : Machine)
    → still (still_machine (asked machine)) ≡ still_machine (change (asked machine))
    → if_granted (still_value value) still (still_machine machine) ≡ still_machine (if_granted value change machine)
if_granted_still value change still machine same =
    ap (λ z. if z then still (still_machine (asked machine)) else still_machine (asked machine)) (granted_still value machine)
    ∙ by_test (is_granted value machine)
  where
    by_test : (z : Bool) → (if z then still (still_machine (asked machine)) else still_machine (asked machine))
        ≡ still_machine (if z then change (asked machine) else asked machine)
    by_test true = same
    by_test false = refl

room_after_still : (n : ℕ) (its : Result Block HeapStop) (machine : Machine)
    → has_room_after n (still_result still_block its) (still_machine machine) ≡ has_room_after n its machine
room_after_still n (Ok block) machine =
    ap (λ blocks. nat_le (live_bytes blocks) 16777216) (map_set still_block machine.blocks (n - 1) block)
    ∙ ap (λ size. nat_le size 16777216) (live_bytes_still (put_block machine.blocks n block))
room_after_still n (Err why) machine = refl

module _ (lives : Block → Bool) (alike : (block : Block) → lives (still_block block) ≡ lives block) (role : Block → Result Block HeapStop)
    (is : IsStill still_block role) where
  reshaped_in_still : (n : ℕ) (b : Option Block) (machine : Machine) → UnpurgedIn b
      → reshaped_in lives role n (option_map still_block b) (still_machine machine) ≡ still_machine (reshaped_in lives role n b machine)
  reshaped_in_still n None machine used = refl
  reshaped_in_still n (Some block) machine used =
      ap (λ r. if lives (still_block block) && has_room_after n r (still_machine machine) then with_result n r (still_machine machine)
      else still_machine machine)
      (is block used)
      ∙ ap (λ z. if z && has_room_after n (still_result still_block (role block)) (still_machine machine)
      then with_result n (still_result still_block (role block)) (still_machine machine) else still_machine machine) (alike block)
      ∙ ap (λ z. if lives block && z then with_result n (still_result still_block (role block)) (still_machine machine) else still_machine machine)
      (room_after_still n (role block) machine)
      ∙ ap (λ m. if lives block && has_room_after n (role block) machine then m else still_machine machine) (with_result_still n (role block) machine)
      ∙ by_test (lives block && has_room_after n (role block) machine)
    where
      by_test : (z : Bool) → (if z then still_machine (with_result n (role block) machine) else still_machine machine)
          ≡ still_machine (if z then with_result n (role block) machine else machine)
      by_test true = refl
      by_test false = refl

  -- the machine after a role that takes bytes
  pub reshaped_by_still : (its : Pointer) (machine : Machine) → Unpurged its machine
      → reshaped_by lives role (unmoved its) (still_machine machine) ≡ still_machine (reshaped_by lives role its machine)
  reshaped_by_still Nil machine used = refl
  reshaped_by_still (Fixed object at) machine used = refl
  reshaped_by_still (Spot its) machine used = refl
  reshaped_by_still (Handle n) machine used =
      ap (λ b. reshaped_in lives role n b (still_machine machine)) (block_at_still machine.blocks n)
      ∙ reshaped_in_still n (block_at machine.blocks n) machine used

-- one allocation more asks nothing of a handle
pub unpurged_asked : (its : Pointer) (machine : Machine) → Unpurged its machine → Unpurged its (asked machine)
unpurged_asked Nil machine used = tt
unpurged_asked (Fixed object at) machine used = tt
unpurged_asked (Handle n) machine used = used
unpurged_asked (Spot its) machine used = tt

-- ---- what is made

-- a block is made
pub makes_block_still : (value : Value) (machine : Machine) → makes_block (still_value value) (still_machine machine) ≡ makes_block value machine
makes_block_still value machine =
    rw (granted_still value machine, size_for_still value, has_room_still machine.blocks (size_for value)) refl

-- an object is made
pub makes_object_still : (value : Value) (machine : Machine) → makes_object (still_value value) (still_machine machine) ≡ makes_object value machine
makes_object_still value machine =
    rw (granted_still value machine, size_for_still value, has_room_for_still (size_for value) machine) refl

-- its handle
pub handle_if_still : (b : Bool) (machine : Machine) → handle_if b (still_machine machine) ≡ still_value (handle_if b machine)
handle_if_still true machine = ap (λ n. pointer (Handle (n + 1))) (length-map machine.blocks still_block)
handle_if_still false machine = refl

-- its front
pub object_if_still : (b : Bool) (machine : Machine) → object_if b (still_machine machine) ≡ still_value (object_if b machine)
object_if_still true machine = ap (λ n. pointer (Fixed n (pos 0))) (length-map machine.objects still_object)
object_if_still false machine = refl

-- one block more
pub added_block_still : (block : Block) (machine : Machine)
    → with_blocks (map still_block machine.blocks ++ still_block block ∷ []) (still_machine machine)
    ≡ still_machine (with_blocks (machine.blocks ++ block ∷ []) machine)
added_block_still block machine = ap (λ blocks. with_blocks blocks (still_machine machine)) (sym (map-append still_block machine.blocks (block ∷ [])))

-- one object more
pub new_object_still : (storage : Storage) (cells : List Cell) (machine : Machine)
    → new_object storage (still_cells cells) (still_machine machine) ≡ still_machine (new_object storage cells machine)
new_object_still storage cells machine =
    ap (λ objects. record (still_machine machine) { objects = objects })
    (sym (map-append still_object machine.objects (record { cells = cells; storage = storage } ∷ [])))

-- a new block
pub with_block_still : (b : Bool) (size : ℕ) (machine : Machine) → with_block b size (still_machine machine) ≡ still_machine (with_block b size machine)
with_block_still true size machine =
    ap (λ block. with_blocks (map still_block machine.blocks ++ block ∷ []) (still_machine machine)) (sym (new_block_still size))
    ∙ added_block_still (new_block size) machine
with_block_still false size machine = refl

-- a new object
pub with_object_if_still : (b : Bool) (size : ℕ) (machine : Machine)
    → with_object_if b size (still_machine machine) ≡ still_machine (with_object_if b size machine)
with_object_if_still true size machine =
    ap (λ cells. new_object allocated cells (still_machine machine)) (sym (undefined_cells size))
    ∙ new_object_still allocated (replicate size Undefined) machine
with_object_if_still false size machine = refl

-- ---- objects that are disposed

may_dispose_still : (at : ℤ) (b : Option Object) → may_dispose at (option_map still_object b) ≡ may_dispose at b
may_dispose_still at None = refl
may_dispose_still at (Some its) = refl

-- why an object is not disposed
pub dispose_stop_still : (its : Pointer) (machine : Machine) → dispose_stop (unmoved its) (still_machine machine) ≡ dispose_stop its machine
dispose_stop_still Nil machine = refl
dispose_stop_still (Fixed object at) machine =
    ap (λ b. stops_if (not (may_dispose at b)) stop.BadPointer) (slice_get-map still_object machine.objects object)
    ∙ ap (λ z. stops_if (not z) stop.BadPointer) (may_dispose_still at (slice_get machine.objects object))
dispose_stop_still (Handle block) machine = refl
dispose_stop_still (Spot its) machine = refl

-- the object has ended
pub disposed_object_still : (its : Pointer) (machine : Machine)
    → disposed_object (unmoved its) (still_machine machine) ≡ still_machine (disposed_object its machine)
disposed_object_still Nil machine = refl
disposed_object_still (Fixed object at) machine = with_object_still object ended_object machine
disposed_object_still (Handle block) machine = refl
disposed_object_still (Spot its) machine = refl
