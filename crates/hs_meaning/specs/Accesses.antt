-- Loads and stores through pointers (own; blocks: Inside Macintosh: Memory, narrowed).
--     use_stops its count machine         why so many cells are not reached through a pointer
--     cells_at its count machine          the cells
--     with_cells_at its cells machine     the machine with other cells there
--     loaded access its machine           what a load through a pointer gives, or why it stops
--     stored access its value machine     the machine after a store through a pointer, or why it stops
-- An access through a handle reads its master pointer if it is a load of a pointer, and is a BadLoad otherwise, whatever the state of the block.
use Rattle.std.specs.Prelude.{ℤ, ℕ, pos, negsuc, ◌+◌, nat_le, Bool, false, not, List, [], ◌∷◌, ◌++◌, length, take, drop, slice_get, Option, Some, None, Result, Ok, Err}
use Rattle.hs_heap.specs.Blocks.{Block, place_for, master_of}
use Rattle.hs_heap.specs.Memory.{block_at, put_block}
use Rattle.hs_heap.specs.declared.cell.Cell.{Cell}
use Rattle.hs_heap.specs.declared.cell.Pointer.{Pointer}
use Rattle.hs_heap.specs.declared.cell.Pointer.TheVariants.{Nil, Fixed, Handle, Spot}
use Rattle.hs_heap.specs.declared.cell.Spot as spot
use Rattle.hs_heap.specs.declared.stop.HeapStop.{HeapStop}
use Rattle.hs_meaning.specs.Machine.{Machine, Object, Done, done, stopped, has_ended, with_blocks, with_object}
use Rattle.hs_meaning.specs.Stops.{Stops, stops_if, first_stop, heap_stop}
use Rattle.hs_meaning.specs.Values.{Value, pointer, Access, of_pointer, length_of, cells_for, store_stop, value_in, load_stops}
use Rattle.hs_meaning.specs.declared.outcome.Stop.{Stop}
use Rattle.hs_meaning.specs.declared.outcome.Stop.TheVariants as stop

-- ---- where a use begins

-- so many cells from that byte on lie among those
abbrev pub is_inside : ℤ → ℕ → ℕ → Bool
is_inside (pos at) count size = nat_le (at + count) size
is_inside (negsuc at) count size = false

-- the byte, if it is not in front of the first one
abbrev pub start_at : ℤ → ℕ
start_at (pos at) = at
start_at (negsuc at) = 0

-- no pointer has the number of an object that was never made
abbrev pub object_stops : ℤ → ℕ → Option Object → Stops
object_stops at count None = Some stop.BadPointer ∷ []
object_stops at count (Some its) =
    stops_if (has_ended its.storage) stop.Gone ∷ stops_if (not (is_inside at count (length its.cells))) stop.Range ∷ []

-- nor that of a block; Disposed, Old, Stale and Range are tested in this order
abbrev pub block_stops : spot.Spot → ℕ → Option Block → Stops
block_stops its count None = Some stop.BadPointer ∷ []
block_stops its count (Some block) = heap_stop (place_for its count block) ∷ []

-- why so many cells are not reached
abbrev pub use_stops : Pointer → ℕ → Machine → Stops
use_stops Nil count machine = Some stop.Nil ∷ []
use_stops (Handle block) count machine = Some stop.BadLoad ∷ []
use_stops (Fixed object at) count machine = object_stops at count (slice_get machine.objects object)
use_stops (Spot its) count machine = block_stops its count (block_at machine.blocks its.block)

-- ---- cells

-- so many from that byte on
abbrev pub cells_from : ℤ → ℕ → List Cell → List Cell
cells_from at count cells = take count (drop (start_at at) cells)

-- those, with others from that byte on
abbrev pub with_cells_from : ℤ → List Cell → List Cell → List Cell
with_cells_from at new cells = take (start_at at) cells ++ new ++ drop (start_at at + length new) cells

-- of an object that is there
abbrev pub cells_of_object : Option Object → List Cell
cells_of_object None = []
cells_of_object (Some its) = its.cells

-- of a block that is there
abbrev pub cells_of_block : Option Block → List Cell
cells_of_block None = []
cells_of_block (Some block) = block.cells

-- what so many cells hold
abbrev pub cells_at : Pointer → ℕ → Machine → List Cell
cells_at Nil count machine = []
cells_at (Handle block) count machine = []
cells_at (Fixed object at) count machine = cells_from at count (cells_of_object (slice_get machine.objects object))
cells_at (Spot its) count machine = cells_from its.offset count (cells_of_block (block_at machine.blocks its.block))

-- the object with those cells
abbrev pub put_in_object : ℕ → ℤ → List Cell → Machine → Option Object → Machine
put_in_object number at cells machine None = machine
put_in_object number at cells machine (Some its) = with_object number (record its { cells = with_cells_from at cells its.cells }) machine

-- the block
abbrev pub put_in_block : spot.Spot → List Cell → Machine → Option Block → Machine
put_in_block its cells machine None = machine
put_in_block its cells machine (Some block) =
    with_blocks (put_block machine.blocks its.block (record block { cells = with_cells_from its.offset cells block.cells })) machine

-- with those cells from where the pointer reaches
abbrev pub with_cells_at : Pointer → List Cell → Machine → Machine
with_cells_at Nil cells machine = machine
with_cells_at (Handle block) cells machine = machine
with_cells_at (Fixed object at) cells machine = put_in_object object at cells machine (slice_get machine.objects object)
with_cells_at (Spot its) cells machine = put_in_block its cells machine (block_at machine.blocks its.block)

-- ---- loads and stores

-- what the operation gives, and the machine after it, unless it stops; a stop leaves the machine as it was
abbrev pub by_stop : {A : Type 0} → Option Stop → A → Machine → Machine → Done A
by_stop None it after before = done it after
by_stop (Some why) it after before = stopped why before

-- the same of a list of stops
abbrev pub unless_stopped : {A : Type 0} → Stops → A → Machine → Machine → Done A
unless_stopped stops it after before = by_stop (first_stop stops) it after before

-- the place of the block now, or NIL
abbrev pub master_pointer : Result (Option spot.Spot) HeapStop → Pointer
master_pointer (Ok (Some its)) = Spot its
master_pointer (Ok None) = Nil
master_pointer (Err why) = Nil

-- of the block of that number
abbrev pub master_in : ℕ → Machine → Option Block → Done Value
master_in number machine None = stopped stop.BadPointer machine
master_in number machine (Some block) =
    unless_stopped (heap_stop (master_of number block) ∷ []) (pointer (master_pointer (master_of number block))) machine machine

-- a load that reaches cells: first where they are, then what they hold
abbrev pub cells_loaded : Access → Pointer → Machine → Done Value
cells_loaded access its machine =
    unless_stopped (use_stops its (length_of access) machine ++ load_stops access (cells_at its (length_of access) machine))
    (value_in access (cells_at its (length_of access) machine)) machine machine

-- a load
abbrev pub loaded : Access → Pointer → Machine → Done Value
loaded (of_pointer class) (Handle number) machine = master_in number machine (block_at machine.blocks number)
loaded access its machine = cells_loaded access its machine

-- a store: a state byte that does not fit comes before the pointer
abbrev pub stored : Access → Pointer → Value → Machine → Done Value
stored access its value machine =
    unless_stopped (store_stop access value ∷ use_stops its (length_of access) machine) value (with_cells_at its (cells_for access value) machine) machine
