-- What a straight program does to the heap: the roles of hs_heap, on the block of a number, with the stops of the machine.
--     stop_of why                  the stop of the machine for a stop of the heap
--     load_char heap spot          the char that a pointer reaches, or the stop
--     store_byte heap spot byte    the heap with that byte there, or the stop
--     master heap number           what the master pointer of a handle holds, or the stop
--     set_lock on heap number      the heap after HLock or HUnlock, or the stop
use Rattle.std.specs.Prelude.{ℕ, Bool, List, [], ◌∷◌, Option, Some, None, Result, Ok, Err}
use Rattle.hs_heap.specs.Blocks.{Block, with_lock, master_of, loaded, stored}
use Rattle.hs_heap.specs.Memory.{block_at, put_block}
use Rattle.hs_heap.specs.declared.cell.Cell.{Cell}
use Rattle.hs_heap.specs.declared.cell.Cell.TheVariants as cell
use Rattle.hs_heap.specs.declared.cell.Spot.{Spot}
use Rattle.hs_heap.specs.declared.stop.HeapStop.{HeapStop}
use Rattle.hs_heap.specs.declared.stop.HeapStop.TheVariants as heap_stop
use Rattle.hs_meaning.specs.Straight.Value.{Value, nil, spot, char_of}
use Rattle.hs_meaning.specs.declared.outcome.Stop.{Stop}
use Rattle.hs_meaning.specs.declared.outcome.Stop.TheVariants as stop

-- a stop of the heap is the stop of that name
abbrev pub stop_of : HeapStop → Stop
stop_of heap_stop.Disposed = stop.Disposed
stop_of heap_stop.Old = stop.Old
stop_of heap_stop.Stale = stop.Stale
stop_of heap_stop.Purged = stop.Purged
stop_of heap_stop.Range = stop.Range

-- What a char object in that cell holds. A straight program stores bytes only.
abbrev pub char_in : Cell → Result Value Stop
char_in (cell.Byte byte) = Ok (char_of byte)
char_in cell.Undefined = Err stop.Undefined
char_in (cell.State byte) = Err stop.BadLoad
char_in (cell.Part part pointer class) = Err stop.BadLoad

-- the char in the one cell that was loaded
abbrev pub loaded_char : Result (List Cell) HeapStop → Result Value Stop
loaded_char (Ok []) = Err stop.Range
loaded_char (Ok (first ∷ cells)) = char_in first
loaded_char (Err why) = Err (stop_of why)

-- no pointer has the number of a block that was never made
abbrev pub load_if : Spot → Option Block → Result Value Stop
load_if s None = Err stop.BadPointer
load_if s (Some block) = loaded_char (loaded s 1 block)

-- a load of a char through a pointer into a block
abbrev pub load_char : List Block → Spot → Result Value Stop
load_char heap s = load_if s (block_at heap s.block)

-- the heap with the block after a role, or the stop
abbrev pub put_result : List Block → ℕ → Result Block HeapStop → Result (List Block) Stop
put_result heap number (Ok block) = Ok (put_block heap number block)
put_result heap number (Err why) = Err (stop_of why)

-- no pointer has the number of a block that was never made
abbrev pub store_if : List Block → Spot → ℕ → Option Block → Result (List Block) Stop
store_if heap s byte None = Err stop.BadPointer
store_if heap s byte (Some block) = put_result heap s.block (stored s (cell.Byte byte ∷ []) block)

-- a store of a byte through a pointer into a block
abbrev pub store_byte : List Block → Spot → ℕ → Result (List Block) Stop
store_byte heap s byte = store_if heap s byte (block_at heap s.block)

-- a master pointer, as a value
abbrev pub master_value : Result (Option Spot) HeapStop → Result Value Stop
master_value (Ok (Some s)) = Ok (spot s)
master_value (Ok None) = Ok nil
master_value (Err why) = Err (stop_of why)

-- no handle has the number of a block that was never made
abbrev pub master_if : ℕ → Option Block → Result Value Stop
master_if number None = Err stop.BadHandle
master_if number (Some block) = master_value (master_of number block)

-- the master pointer of the block of that number
abbrev pub master : List Block → ℕ → Result Value Stop
master heap number = master_if number (block_at heap number)

-- no handle has the number of a block that was never made
abbrev pub lock_if : Bool → List Block → ℕ → Option Block → Result (List Block) Stop
lock_if on heap number None = Err stop.BadHandle
lock_if on heap number (Some block) = put_result heap number (with_lock on block)

-- the heap after an HLock or HUnlock of the block of that number
abbrev pub set_lock : Bool → List Block → ℕ → Result (List Block) Stop
set_lock on heap number = lock_if on heap number (block_at heap number)
