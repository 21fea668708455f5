-- Loads and stores on a heap that never moves.
--     with_blocks_still, with_object_still      the machine with other blocks, or another object
--     use_stops_fine                            why cells are not reached
--     cells_at_unmoved, with_cells_at_still     the cells, and the machine with other cells there
--     loaded_still, stored_still                a load, and a store
use Rattle.std.proofs.Common.{◌≡◌, ℤ, ℕ, zero, suc, pos, negsuc, ◌+◌, ◌-◌, ◌==◌, nat_le, Bool, true, false, not, List, [], ◌∷◌, ◌++◌, length, take, drop, slice_get, slice_set, Option, Some, None, Result, Ok, Err, refl, sym, ap, ◌∙◌, if◌then◌else◌, true≢false, eq-eqb}
use Rattle.std.specs.List.{AllByRecursion}
use Rattle.hs_heap.specs.Blocks.{Block, standing, by_standing, is_disposed, reach, range_at, place_for, master_of}
use Rattle.hs_heap.specs.Memory.{block_at, put_block}
use Rattle.hs_heap.specs.declared.cell.Cell.{Cell}
use Rattle.hs_heap.specs.declared.cell.Pointer.{Pointer}
use Rattle.hs_heap.specs.declared.cell.Pointer.TheVariants.{Nil, Fixed, Handle, Spot}
use Rattle.hs_heap.specs.declared.cell.Spot as spot
use Rattle.hs_heap.specs.declared.presence.Presence.{Presence}
use Rattle.hs_heap.specs.declared.presence.Presence.TheVariants.{Present, Emptied, Purged, Disposed}
use Rattle.hs_heap.specs.declared.stop.HeapStop.{HeapStop}
use Rattle.hs_heap.specs.declared.stop.HeapStop.TheVariants as heap
use Rattle.hs_meaning.specs.Accesses.{is_inside, start_at, object_stops, block_stops, use_stops, cells_from, with_cells_from, cells_of_object, cells_of_block, cells_at, put_in_object, put_in_block, with_cells_at, master_pointer, master_in, cells_loaded, loaded, stored}
use Rattle.hs_meaning.specs.Laws.Unmoved.{IsUnmovedPointer, IsUnmovedCell, AreUnmoved, IsUnmoved, IsUnpurged, IsUnmovedBlock, IsUnmovedObject, IsStillMachine, IsStillDone}
use Rattle.hs_meaning.specs.Laws.Unmoved.Fine.{IsFine, AreFine, if_fine, unless_still}
use Rattle.hs_meaning.specs.Laws.Unmoved.Lists.{IfThere, all_append, all_take, all_drop, all_set, there}
use Rattle.hs_meaning.specs.Laws.Unmoved.Values.{cells_for_unmoved, store_stop_fine, value_in_unmoved, load_stops_fine}
use Rattle.hs_meaning.specs.Machine.{Machine, Object, has_ended, with_blocks, with_object}
use Rattle.hs_meaning.specs.Stops.{heap_stop}
use Rattle.hs_meaning.specs.Values.{Value, pointer, Access, of_pointer, length_of, cells_for, store_stop, value_in, load_stops}
use Rattle.hs_meaning.specs.declared.outcome.Stop.TheVariants as stop

-- ---- parts of the machine

-- the machine with other blocks
pub with_blocks_still : (blocks : List Block) (machine : Machine) → AllByRecursion IsUnmovedBlock blocks → IsStillMachine machine
    → IsStillMachine (with_blocks blocks machine)
with_blocks_still blocks machine are still =
    record { blocks = are; objects = still.objects; globals = still.globals; locals = still.locals }

-- with other objects
pub with_objects_still : (objects : List Object) (machine : Machine) → AllByRecursion IsUnmovedObject objects → IsStillMachine machine
    → IsStillMachine (record machine { objects = objects })
with_objects_still objects machine are still =
    record { blocks = still.blocks; objects = are; globals = still.globals; locals = still.locals }

-- with another object at one place
pub with_object_still : (place : ℕ) (its : Object) (machine : Machine) → IsUnmovedObject its → IsStillMachine machine
    → IsStillMachine (with_object place its machine)
with_object_still place its machine is still =
    with_objects_still (slice_set machine.objects place its) machine (all_set IsUnmovedObject machine.objects place its still.objects is) still

-- the block of a number
pub block_there : (blocks : List Block) (place : ℕ) → AllByRecursion IsUnmovedBlock blocks → IfThere IsUnmovedBlock (block_at blocks place)
block_there blocks zero are = tt
block_there blocks (suc place) are = there IsUnmovedBlock blocks place are

-- another block of that number
pub put_block_still : (machine : Machine) (place : ℕ) (block : Block) → IsUnmovedBlock block → IsStillMachine machine
    → IsStillMachine (with_blocks (put_block machine.blocks place block) machine)
put_block_still machine place block is still =
    with_blocks_still (put_block machine.blocks place block) machine (all_set IsUnmovedBlock machine.blocks (place - 1) block still.blocks is) still

-- ---- where a use begins

object_stops_fine : (at : ℤ) (count : ℕ) (its : Option Object) → AreFine (object_stops at count its)
object_stops_fine at count None = (λ is. is, tt)
object_stops_fine at count (Some its) = (
  if_fine (has_ended its.storage) stop.Gone (λ is. is),
  (if_fine (not (is_inside at count (length its.cells))) stop.Range (λ is. is), tt),
)

-- two epochs that are 0 are equal
pub epochs_agree : (a b : ℕ) → a ≡ 0 → b ≡ 0 → not (a == b) ≡ false
epochs_agree a b first second = ap not (eq-eqb a b (first ∙ sym second))

range_fine : (at : ℤ) (count size : ℕ) → IsFine (heap_stop (range_at at count size))
range_fine (pos at) count size = by_test (nat_le (at + count) size)
  where
    by_test : (b : Bool) → IsFine (heap_stop (if b then Ok at else Err heap.Range))
    by_test true = tt
    by_test false = λ is. is
range_fine (negsuc at) count size = λ is. is

-- of the tests of a use, the one of the epoch says nothing
tests_fine : (disposed old stale : Bool) (rest : Result ℕ HeapStop) → stale ≡ false → IsFine (heap_stop rest)
    → IsFine (heap_stop (if disposed then Err heap.Disposed else if old then Err heap.Old else if stale then Err heap.Stale else rest))
tests_fine true old stale rest current fine = λ is. is
tests_fine false true stale rest current fine = λ is. is
tests_fine false false true rest current fine = absurd (true≢false current)
tests_fine false false false rest current fine = fine

place_fine : (its : spot.Spot) (count : ℕ) (block : Block) → its.epoch ≡ 0 → IsUnmovedBlock block → IsFine (heap_stop (place_for its count block))
place_fine its count block is unmoved =
    tests_fine (is_disposed block.presence) (not (its.life == block.life)) (not (its.epoch == block.epoch))
    (range_at its.offset count (reach block.presence block.cells)) (epochs_agree its.epoch block.epoch is unmoved.epoch)
    (range_fine its.offset count (reach block.presence block.cells))

block_stops_fine : (its : spot.Spot) (count : ℕ) (block : Option Block) → its.epoch ≡ 0 → IfThere IsUnmovedBlock block
    → AreFine (block_stops its count block)
block_stops_fine its count None is unmoved = (λ is. is, tt)
block_stops_fine its count (Some block) is unmoved = (place_fine its count block is unmoved, tt)

-- why so many cells are not reached
pub use_stops_fine : (its : Pointer) (count : ℕ) (machine : Machine) → IsUnmovedPointer its → IsStillMachine machine
    → AreFine (use_stops its count machine)
use_stops_fine Nil count machine is still = (λ is. is, tt)
use_stops_fine (Handle block) count machine is still = (λ is. is, tt)
use_stops_fine (Fixed object at) count machine is still = object_stops_fine at count (slice_get machine.objects object)
use_stops_fine (Spot its) count machine is still =
    block_stops_fine its count (block_at machine.blocks its.block) is (block_there machine.blocks its.block still.blocks)

-- ---- cells

cells_from_unmoved : (at : ℤ) (count : ℕ) (cells : List Cell) → AreUnmoved cells → AreUnmoved (cells_from at count cells)
cells_from_unmoved at count cells are =
    all_take IsUnmovedCell count (drop (start_at at) cells) (all_drop IsUnmovedCell (start_at at) cells are)

-- other cells from a byte on
pub with_cells_from_unmoved : (at : ℤ) (new cells : List Cell) → AreUnmoved new → AreUnmoved cells → AreUnmoved (with_cells_from at new cells)
with_cells_from_unmoved at new cells others are =
    all_append IsUnmovedCell (take (start_at at) cells ++ new) (drop (start_at at + length new) cells)
    (all_append IsUnmovedCell (take (start_at at) cells) new (all_take IsUnmovedCell (start_at at) cells are) others)
    (all_drop IsUnmovedCell (start_at at + length new) cells are)

cells_of_object_unmoved : (its : Option Object) → IfThere IsUnmovedObject its → AreUnmoved (cells_of_object its)
cells_of_object_unmoved None are = tt
cells_of_object_unmoved (Some its) are = are

cells_of_block_unmoved : (block : Option Block) → IfThere IsUnmovedBlock block → AreUnmoved (cells_of_block block)
cells_of_block_unmoved None is = tt
cells_of_block_unmoved (Some block) is = is.cells

-- what a pointer reaches
pub cells_at_unmoved : (its : Pointer) (count : ℕ) (machine : Machine) → IsStillMachine machine → AreUnmoved (cells_at its count machine)
cells_at_unmoved Nil count machine still = tt
cells_at_unmoved (Handle block) count machine still = tt
cells_at_unmoved (Fixed object at) count machine still =
    cells_from_unmoved at count (cells_of_object (slice_get machine.objects object))
    (cells_of_object_unmoved (slice_get machine.objects object) (there IsUnmovedObject machine.objects object still.objects))
cells_at_unmoved (Spot its) count machine still =
    cells_from_unmoved its.offset count (cells_of_block (block_at machine.blocks its.block))
    (cells_of_block_unmoved (block_at machine.blocks its.block) (block_there machine.blocks its.block still.blocks))

put_in_object_still : (place : ℕ) (at : ℤ) (cells : List Cell) (machine : Machine) (its : Option Object) → AreUnmoved cells
    → IsStillMachine machine → IfThere IsUnmovedObject its → IsStillMachine (put_in_object place at cells machine its)
put_in_object_still place at cells machine None are still is = still
put_in_object_still place at cells machine (Some its) are still is =
    with_object_still place (record its { cells = with_cells_from at cells its.cells }) machine
    (with_cells_from_unmoved at cells its.cells are is) still

put_in_block_still : (its : spot.Spot) (cells : List Cell) (machine : Machine) (block : Option Block) → AreUnmoved cells
    → IsStillMachine machine → IfThere IsUnmovedBlock block → IsStillMachine (put_in_block its cells machine block)
put_in_block_still its cells machine None are still is = still
put_in_block_still its cells machine (Some block) are still is =
    put_block_still machine its.block (record block { cells = with_cells_from its.offset cells block.cells })
    (record { epoch = is.epoch; presence = is.presence; cells = with_cells_from_unmoved its.offset cells block.cells are is.cells }) still

-- the machine with other cells there
pub with_cells_at_still : (its : Pointer) (cells : List Cell) (machine : Machine) → AreUnmoved cells → IsStillMachine machine
    → IsStillMachine (with_cells_at its cells machine)
with_cells_at_still Nil cells machine are still = still
with_cells_at_still (Handle block) cells machine are still = still
with_cells_at_still (Fixed object at) cells machine are still =
    put_in_object_still object at cells machine (slice_get machine.objects object) are still (there IsUnmovedObject machine.objects object still.objects)
with_cells_at_still (Spot its) cells machine are still =
    put_in_block_still its cells machine (block_at machine.blocks its.block) are still (block_there machine.blocks its.block still.blocks)

-- ---- loads and stores

-- what a role gives of a block that was not purged is no misuse
pub standing_fine : {A : Type 0} → (here gone : A) (presence : Presence) → IsUnpurged presence
    → IsFine (heap_stop (by_standing here gone (standing presence)))
standing_fine here gone Present is = tt
standing_fine here gone Emptied is = tt
standing_fine here gone Purged is = absurd is
standing_fine here gone Disposed is = λ is. is

master_unmoved : (its : spot.Spot) (stands : Result Bool HeapStop) → its.epoch ≡ 0
    → IsUnmovedPointer (master_pointer (by_standing (Some its) None stands))
master_unmoved its (Ok true) is = is
master_unmoved its (Ok false) is = refl
master_unmoved its (Err why) is = refl

master_still : (place : ℕ) (machine : Machine) (block : Option Block) → IsStillMachine machine → IfThere IsUnmovedBlock block
    → IsStillDone IsUnmoved (master_in place machine block)
master_still place machine None still is = λ is. is
master_still place machine (Some block) still is =
    unless_still IsUnmoved (heap_stop (master_of place block) ∷ []) (pointer (master_pointer (master_of place block))) machine machine
    (standing_fine (Some (record { block = place; life = block.life; epoch = block.epoch; offset = pos 0 })) None block.presence is.presence, tt)
    (master_unmoved (record { block = place; life = block.life; epoch = block.epoch; offset = pos 0 }) (standing block.presence) is.epoch) still

cells_loaded_still : (access : Access) (its : Pointer) (machine : Machine) → IsUnmovedPointer its → IsStillMachine machine
    → IsStillDone IsUnmoved (cells_loaded access its machine)
cells_loaded_still access its machine is still =
    unless_still IsUnmoved (use_stops its (length_of access) machine ++ load_stops access (cells_at its (length_of access) machine))
    (value_in access (cells_at its (length_of access) machine)) machine machine
    (all_append IsFine (use_stops its (length_of access) machine) (load_stops access (cells_at its (length_of access) machine))
    (use_stops_fine its (length_of access) machine is still) (load_stops_fine access (cells_at its (length_of access) machine)))
    (value_in_unmoved access (cells_at its (length_of access) machine) (cells_at_unmoved its (length_of access) machine still)) still

-- a load
pub loaded_still : (access : Access) (its : Pointer) (machine : Machine) → IsUnmovedPointer its → IsStillMachine machine
    → IsStillDone IsUnmoved (loaded access its machine)
loaded_still (of_pointer class) (Handle place) machine is still =
    master_still place machine (block_at machine.blocks place) still (block_there machine.blocks place still.blocks)
loaded_still access its machine is still = cells_loaded_still access its machine is still

-- a store
pub stored_still : (access : Access) (its : Pointer) (value : Value) (machine : Machine) → IsUnmovedPointer its → IsUnmoved value
    → IsStillMachine machine → IsStillDone IsUnmoved (stored access its value machine)
stored_still access its value machine is unmoved still =
    unless_still IsUnmoved (store_stop access value ∷ use_stops its (length_of access) machine) value
    (with_cells_at its (cells_for access value) machine) machine
    (store_stop_fine access value, use_stops_fine its (length_of access) machine is still) unmoved
    (with_cells_at_still its (cells_for access value) machine (cells_for_unmoved access value unmoved) still)
