-- A relocatable block of the heap, and what each role of a routine does to it (Inside Macintosh: Memory, narrowed).
--     Block                           what is known of a block
--     new_block size                  one that was just made
--     with_lock, with_purge_bit, with_state, emptied, disposed      changes of a block, or the stop
--     resized, reallocated            changes that take memory
--     size_of, state_of, master_of, cells_of      what is answered of it, or the stop
--     if_current refuse current s block     what a pointer into it is refused for, if it is not current
--     place_for s count block         where a use through a pointer begins, or the stop; loaded, stored, what it reads and leaves
--     IsInRange block                 its life and its bytes are within their limits
--     StaysDisposed old new           a disposed block stays disposed
use Rattle.std.specs.Prelude.{◌≡◌, ◌≤◌, nat_le, nat_lt, ◌&&◌, ◌||◌, ◌%◌, ◌==◌, ◌-◌, ℤ, ℕ, pos, negsuc, ◌+◌, take, drop, ◌++◌, Bool, true, false, not, List, [], length, replicate, Option, Some, None, Result, Ok, Err, if◌then◌else◌}
use Rattle.hs_heap.specs.declared.cell.Cell.{Cell}
use Rattle.hs_heap.specs.declared.cell.Cell.TheVariants.{Undefined}
use Rattle.hs_heap.specs.declared.cell.Spot.{Spot}
use Rattle.hs_heap.specs.declared.presence.Presence.{Presence}
use Rattle.hs_heap.specs.declared.presence.Presence.TheVariants.{Present, Emptied, Purged, Disposed}
use Rattle.hs_heap.specs.declared.stop.HeapEnd.{HeapEnd}
use Rattle.hs_heap.specs.declared.stop.HeapEnd.TheVariants.{Stopped, Full, NoMemory}
use Rattle.hs_heap.specs.declared.stop.HeapStop.{HeapStop}
use Rattle.hs_heap.specs.declared.stop.HeapStop.TheVariants as stop

-- The cells of a purged block stay with it, and no call reaches them.
pub record Block : Type 0 where
  pub cells : List Cell
  pub life : ℕ
  pub epoch : ℕ
  pub locked : Bool
  pub purgeable : Bool
  pub presence : Presence

-- NewHandle: cells without values, unlocked and unpurgeable ("Allocating Relocatable Blocks"). Life and epoch are own.
abbrev pub new_block : ℕ → Block
new_block size = record { cells = replicate size Undefined; life = 0; epoch = 0; locked = false; purgeable = false; presence = Present }

-- A role is for a block that is present, and does nothing to one that the program emptied. One that was purged or disposed stops it (own).
abbrev pub standing : Presence → Result Bool HeapStop
standing Present = Ok true
standing Emptied = Ok false
standing Purged = Err stop.Purged
standing Disposed = Err stop.Disposed

-- with what it gives of a present block, and of an emptied one
abbrev pub by_standing : {A : Type 0} → A → A → Result Bool HeapStop → Result A HeapStop
by_standing here gone (Ok true) = Ok here
by_standing here gone (Ok false) = Ok gone
by_standing here gone (Err why) = Err why

-- the block after a change of a present one
abbrev pub changed : (Block → Block) → Block → Result Block HeapStop
changed change block = by_standing (change block) block (standing block.presence)

-- HLock and HUnlock set and clear one attribute, and count nothing ("Setting the Properties of Relocatable Blocks").
abbrev pub with_lock : Bool → Block → Result Block HeapStop
with_lock on = changed (λ block. record block { locked = on })

-- HPurge and HNoPurge, likewise
abbrev pub with_purge_bit : Bool → Block → Result Block HeapStop
with_purge_bit on = changed (λ block. record block { purgeable = on })

-- HSetState puts both attributes back.
abbrev pub with_bits : Bool → Bool → Block → Result Block HeapStop
with_bits locked purgeable = changed (λ block. record block { locked = locked; purgeable = purgeable })

-- the attributes by their bits: bit 7 is the lock
abbrev pub with_state : ℕ → Block → Result Block HeapStop
with_state byte = with_bits (nat_le 128 byte) (nat_le 64 (byte % 128))

-- EmptyHandle: a locked block stays; another loses its cells, and pointers into it are of an old life ("Purging Relocatable Blocks").
abbrev pub without_cells : Block → Block
without_cells block = if block.locked then block else record block { cells = []; life = block.life + 1; presence = Emptied }

-- the last life that a block can have (own)
abbrev pub last_life : ℕ
last_life = 4294967295

-- The block after EmptyHandle. A block of the last life is not emptied, because no pointer could be told from those of its next life (own).
abbrev pub emptied : Block → Result Block HeapStop
emptied block = if block.life == last_life then changed (λ block. block) block else changed without_cells block

-- DisposeHandle ends the block, also one that was emptied, and also a locked one ("Releasing Relocatable Blocks").
abbrev pub ended : Block → Block
ended block = record block { cells = []; presence = Disposed }

-- the block after it
abbrev pub disposed : Block → Result Block HeapStop
disposed block = by_standing (ended block) (ended block) (standing block.presence)

-- GetHandleSize: how many cells; none of an emptied block
abbrev pub size_of : Block → Result ℕ HeapStop
size_of block = by_standing (length block.cells) 0 (standing block.presence)

-- one bit of a byte
abbrev pub bit : ℕ → Bool → ℕ
bit worth true = worth
bit worth false = 0

-- HGetState: bit 7 is the lock and bit 6 is set if the block may be purged; no bits of an emptied block
abbrev pub state_of : Block → Result ℕ HeapStop
state_of block = by_standing (bit 128 block.locked + bit 64 block.purgeable) 0 (standing block.presence)

-- what the master pointer of the block's handle holds: the place of the block now, and NIL once the program emptied it
abbrev pub master_of : ℕ → Block → Result (Option Spot) HeapStop
master_of number block =
    by_standing (Some (record { block = number; life = block.life; epoch = block.epoch; offset = pos 0 })) None (standing block.presence)

-- the cells of a block that a call can reach
abbrev pub cells_of : Block → Result (List Cell) HeapStop
cells_of block = by_standing block.cells [] (standing block.presence)

-- SetHandleSize cuts the block, or adds cells without values ("Manipulating Blocks of Memory").
abbrev pub resized : ℕ → Block → Result Block HeapStop
resized size = changed (λ block. record block { cells = take size block.cells ++ replicate (size - length block.cells) Undefined })

-- nothing is asked of its life
abbrev pub always : Block → Bool
always block = true

-- ReallocateHandle gives an unlocked block new cells, also one that was emptied: they have no values, and it is unlocked and unpurgeable.
abbrev pub renewed : ℕ → Block → Block
renewed size block =
    record { cells = replicate size Undefined; life = block.life + 1; epoch = block.epoch; locked = false; purgeable = false; presence = Present }

-- the block after it; a locked one stays
abbrev pub reallocated : ℕ → Block → Result Block HeapStop
reallocated size block =
    if block.locked then changed (λ block. block) block else by_standing (renewed size block) (renewed size block) (standing block.presence)

-- its life can be raised, if it is to be
abbrev pub has_life : Block → Bool
has_life block = block.locked || nat_lt block.life last_life

-- it was disposed
abbrev pub is_disposed : Presence → Bool
is_disposed Disposed = true
is_disposed Present = false
is_disposed Emptied = false
is_disposed Purged = false

-- one that was disposed still is
abbrev pub StaysDisposed : Block → Block → Type 0
StaysDisposed old new = is_disposed new.presence ≡ false → is_disposed old.presence ≡ false

-- how many cells a pointer can reach: none of a block that was purged
abbrev pub reach : Presence → List Cell → ℕ
reach Present cells = length cells
reach Emptied cells = length cells
reach Purged cells = 0
reach Disposed cells = length cells

-- where a number of cells begins, if all of them lie among that many
abbrev pub range_at : ℤ → ℕ → ℕ → Result ℕ HeapStop
range_at (pos at) count size = if nat_le (at + count) size then Ok at else Err stop.Range
range_at (negsuc at) count size = Err stop.Range

-- A pointer into a block is tested for a disposed block, an old life and an old epoch, in this order (own). If a test applies, it is refused for
-- that, and otherwise it is current.
abbrev pub if_current : {A : Type 0} → (HeapStop → A) → A → Spot → Block → A
if_current refuse current s block =
    if is_disposed block.presence then refuse stop.Disposed
    else if not (s.life == block.life) then refuse stop.Old
    else if not (s.epoch == block.epoch) then refuse stop.Stale
    else current

-- a use of that many cells through a pointer: the pointer is tested first, and then its range
abbrev pub place_for : Spot → ℕ → Block → Result ℕ HeapStop
place_for s count block = if_current Err (range_at s.offset count (reach block.presence block.cells)) s block

-- where two uses begin; the first is tested first
abbrev pub places_of : Result ℕ HeapStop → Result ℕ HeapStop → Result (ℕ × ℕ) HeapStop
places_of (Ok here) (Ok there) = Ok (here, there)
places_of (Ok here) (Err why) = Err why
places_of (Err why) second = Err why

-- where that many cells begin that two pointers reach
abbrev pub both_places : Spot → Spot → ℕ → Block → Block → Result (ℕ × ℕ) HeapStop
both_places from to count a b = places_of (place_for from count a) (place_for to count b)

-- the cells from that place on
abbrev pub loaded_at : ℕ → Block → Result ℕ HeapStop → Result (List Cell) HeapStop
loaded_at count block (Ok at) = Ok (take count (drop at block.cells))
loaded_at count block (Err why) = Err why

-- the cells that a pointer reads
abbrev pub loaded : Spot → ℕ → Block → Result (List Cell) HeapStop
loaded s count block = loaded_at count block (place_for s count block)

-- the block with those cells from that place on
abbrev pub with_cells : ℕ → List Cell → Block → Block
with_cells at cells block = record block { cells = take at block.cells ++ cells ++ drop (at + length cells) block.cells }

-- the same, or the stop
abbrev pub stored_at : List Cell → Block → Result ℕ HeapStop → Result Block HeapStop
stored_at cells block (Ok at) = Ok (with_cells at cells block)
stored_at cells block (Err why) = Err why

-- the block after a store through a pointer
abbrev pub stored : Spot → List Cell → Block → Result Block HeapStop
stored s cells block = stored_at cells block (place_for s (length cells) block)

-- the block after a store of cells that were loaded, or the stop of the load
abbrev pub moved : Spot → Result (List Cell) HeapStop → Block → Result Block HeapStop
moved s (Ok cells) block = stored s cells block
moved s (Err why) block = Err why

-- The cells were copied, or nothing was changed.
abbrev pub IsCopied : Result (List Cell) HeapStop → List Cell → List Cell → Result Unit HeapStop → Type 0
IsCopied (Ok cells) old new (Ok _) = new ≡ cells
IsCopied (Ok cells) old new (Err why) = ⊥
IsCopied (Err wanted) old new (Ok _) = ⊥
IsCopied (Err wanted) old new (Err why) = (why ≡ wanted) × (new ≡ old)

-- A block has at most 16777216 bytes, and its life is one that a pointer can have.
pub record IsInRange (block : Block) : Type 0 where
  pub bytes : length block.cells ≤ 16777216
  pub life : block.life ≤ last_life

-- A role that takes memory acted on the block, or stopped; or what it makes is more than there is room for, or its life has ended, or there
-- is no memory. Only the first changes anything.
abbrev pub RoleReshapes : Bool → Result Block HeapStop → ℕ → Block → Block → Result Unit HeapEnd → Type 0
RoleReshapes lives (Ok block) room old new (Ok _) = (lives ≡ true) × (length block.cells ≤ room) × (new ≡ block)
RoleReshapes lives (Ok block) room old new (Err Full) = ((lives && nat_le (length block.cells) room) ≡ false) × (new ≡ old)
RoleReshapes lives (Ok block) room old new (Err NoMemory) = (lives ≡ true) × (length block.cells ≤ room) × (new ≡ old)
RoleReshapes lives (Ok block) room old new (Err (Stopped why)) = ⊥
RoleReshapes lives (Err wanted) room old new (Ok _) = ⊥
RoleReshapes lives (Err wanted) room old new (Err Full) = ⊥
RoleReshapes lives (Err wanted) room old new (Err NoMemory) = ⊥
RoleReshapes lives (Err wanted) room old new (Err (Stopped why)) = (why ≡ wanted) × (new ≡ old)

-- SetHandleSize, with room for that many cells
abbrev pub Resizes : ℕ → ℕ → Block → Block → Result Unit HeapEnd → Type 0
Resizes size room old new result = RoleReshapes true (resized size old) room old new result

-- the same of ReallocateHandle
abbrev pub Reallocates : ℕ → ℕ → Block → Block → Result Unit HeapEnd → Type 0
Reallocates size room old new result = RoleReshapes (has_life old) (reallocated size old) room old new result

-- A role acted on the block as its definition says, or stopped and changed nothing.
abbrev pub RoleActs : Result Block HeapStop → Block → Block → Result Unit HeapStop → Type 0
RoleActs (Ok block) old new (Ok _) = new ≡ block
RoleActs (Ok block) old new (Err why) = ⊥
RoleActs (Err wanted) old new (Ok _) = ⊥
RoleActs (Err wanted) old new (Err why) = (why ≡ wanted) × (new ≡ old)
