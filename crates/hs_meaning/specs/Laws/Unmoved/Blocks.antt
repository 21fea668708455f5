-- Roles of blocks, on blocks that were never moved.
--     IsFineRole role, KeepsUnmoved role        it stops for no misuse; what it leaves is unmoved
--     disposed_fine, .., disposed_keeps, ..     each role
use Rattle.std.proofs.Common.{ℕ, ◌+◌, ◌-◌, ◌%◌, ◌==◌, nat_le, Bool, true, false, [], ◌++◌, length, take, replicate, Result, Ok, Err, refl, if◌then◌else◌}
use Rattle.hs_heap.specs.Blocks.{Block, last_life, new_block, standing, by_standing, changed, with_lock, with_purge_bit, with_bits, with_state, without_cells, emptied, ended, disposed, bit, size_of, state_of, resized, renewed, reallocated}
use Rattle.hs_heap.specs.declared.cell.Cell.TheVariants.{Undefined, Byte}
use Rattle.hs_heap.specs.declared.presence.Presence.TheVariants.{Emptied}
use Rattle.hs_heap.specs.declared.stop.HeapStop.{HeapStop}
use Rattle.hs_meaning.specs.Laws.Unmoved.{IsUnmovedCell, IsUnmovedBlock}
use Rattle.hs_meaning.specs.Laws.Unmoved.Accesses.{standing_fine}
use Rattle.hs_meaning.specs.Laws.Unmoved.Fine.{IsFine}
use Rattle.hs_meaning.specs.Laws.Unmoved.Lists.{all_append, all_take, all_replicate}
use Rattle.hs_meaning.specs.Stops.{heap_stop}

-- it stops for no misuse
abbrev pub IsFineRole : {A : Type 0} → (Block → Result A HeapStop) → Type 0
IsFineRole role = (block : Block) → IsUnmovedBlock block → IsFine (heap_stop (role block))

-- what a role leaves
abbrev pub IsUnmovedResult : Result Block HeapStop → Type 0
IsUnmovedResult (Ok block) = IsUnmovedBlock block
IsUnmovedResult (Err why) = Unit {0}

-- is unmoved
abbrev pub KeepsUnmoved : (Block → Result Block HeapStop) → Type 0
KeepsUnmoved role = (block : Block) → IsUnmovedBlock block → IsUnmovedResult (role block)

-- ---- by what stands

kept_by : (here gone : Block) (stands : Result Bool HeapStop) → IsUnmovedBlock here → IsUnmovedBlock gone
    → IsUnmovedResult (by_standing here gone stands)
kept_by here gone (Ok true) first second = first
kept_by here gone (Ok false) first second = second
kept_by here gone (Err why) first second = tt

changed_fine : (change : Block → Block) → IsFineRole (changed change)
changed_fine change block is = standing_fine (change block) block block.presence is.presence

changed_keeps : (change : Block → Block) → ((block : Block) → IsUnmovedBlock block → IsUnmovedBlock (change block)) → KeepsUnmoved (changed change)
changed_keeps change each block is = kept_by (change block) block (standing block.presence) (each block is) is

-- one of two results, by a test
fine_either : {A : Type 0} → (b : Bool) (first second : Result A HeapStop) → IsFine (heap_stop first) → IsFine (heap_stop second)
    → IsFine (heap_stop (if b then first else second))
fine_either true first second is so = is
fine_either false first second is so = so

kept_either : (b : Bool) (first second : Result Block HeapStop) → IsUnmovedResult first → IsUnmovedResult second
    → IsUnmovedResult (if b then first else second)
kept_either true first second is so = is
kept_either false first second is so = so

-- ---- attributes

-- HLock and HUnlock
pub with_lock_fine : (on : Bool) → IsFineRole (with_lock on)
with_lock_fine on = changed_fine (λ block. record block { locked = on })

-- and the block after them
pub with_lock_keeps : (on : Bool) → KeepsUnmoved (with_lock on)
with_lock_keeps on =
    changed_keeps (λ block. record block { locked = on }) (λ block is. record { epoch = is.epoch; presence = is.presence; cells = is.cells })

-- HPurge and HNoPurge
pub with_purge_bit_fine : (on : Bool) → IsFineRole (with_purge_bit on)
with_purge_bit_fine on = changed_fine (λ block. record block { purgeable = on })

-- and the block after them
pub with_purge_bit_keeps : (on : Bool) → KeepsUnmoved (with_purge_bit on)
with_purge_bit_keeps on =
    changed_keeps (λ block. record block { purgeable = on }) (λ block is. record { epoch = is.epoch; presence = is.presence; cells = is.cells })

with_bits_fine : (locked purgeable : Bool) → IsFineRole (with_bits locked purgeable)
with_bits_fine locked purgeable = changed_fine (λ block. record block { locked = locked; purgeable = purgeable })

with_bits_keeps : (locked purgeable : Bool) → KeepsUnmoved (with_bits locked purgeable)
with_bits_keeps locked purgeable =
    changed_keeps (λ block. record block { locked = locked; purgeable = purgeable })
    (λ block is. record { epoch = is.epoch; presence = is.presence; cells = is.cells })

-- HSetState
pub with_state_fine : (byte : ℕ) → IsFineRole (with_state byte)
with_state_fine byte = with_bits_fine (nat_le 128 byte) (nat_le 64 (byte % 128))

-- and the block after it
pub with_state_keeps : (byte : ℕ) → KeepsUnmoved (with_state byte)
with_state_keeps byte = with_bits_keeps (nat_le 128 byte) (nat_le 64 (byte % 128))

-- HGetState
pub state_of_fine : IsFineRole state_of
state_of_fine block is = standing_fine (bit 128 block.locked + bit 64 block.purgeable) 0 block.presence is.presence

-- ---- cells

-- without cells: the epoch stays
emptied_block : (block : Block) → IsUnmovedBlock block → IsUnmovedBlock (record block { cells = []; life = block.life + 1; presence = Emptied })
emptied_block block is = record { epoch = is.epoch; presence = tt; cells = tt }

without_cells_unmoved : (block : Block) → IsUnmovedBlock block → IsUnmovedBlock (without_cells block)
without_cells_unmoved block is = by_lock block.locked
  where
    by_lock : (locked : Bool) → IsUnmovedBlock (if locked then block else record block { cells = []; life = block.life + 1; presence = Emptied })
    by_lock true = is
    by_lock false = emptied_block block is

-- EmptyHandle
pub emptied_fine : IsFineRole emptied
emptied_fine block is =
    fine_either (block.life == last_life) (changed (λ block. block) block) (changed without_cells block) (changed_fine (λ block. block) block is)
    (changed_fine without_cells block is)

-- and the block after it
pub emptied_keeps : KeepsUnmoved emptied
emptied_keeps block is =
    kept_either (block.life == last_life) (changed (λ block. block) block) (changed without_cells block) (changed_keeps (λ block. block) (λ block is. is) block is)
    (changed_keeps without_cells without_cells_unmoved block is)

ended_unmoved : (block : Block) → IsUnmovedBlock block → IsUnmovedBlock (ended block)
ended_unmoved block is = record { epoch = is.epoch; presence = tt; cells = tt }

-- DisposeHandle
pub disposed_fine : IsFineRole disposed
disposed_fine block is = standing_fine (ended block) (ended block) block.presence is.presence

-- and the block after it
pub disposed_keeps : KeepsUnmoved disposed
disposed_keeps block is = kept_by (ended block) (ended block) (standing block.presence) (ended_unmoved block is) (ended_unmoved block is)

-- GetHandleSize
pub size_of_fine : IsFineRole size_of
size_of_fine block is = standing_fine (length block.cells) 0 block.presence is.presence

-- ---- sizes

-- SetHandleSize
pub resized_fine : (size : ℕ) → IsFineRole (resized size)
resized_fine size =
    changed_fine (λ block. record block { cells = take size block.cells ++ replicate (size - length block.cells) Undefined })

-- and the block after it
pub resized_keeps : (size : ℕ) → KeepsUnmoved (resized size)
resized_keeps size =
    changed_keeps (λ block. record block { cells = take size block.cells ++ replicate (size - length block.cells) Undefined })
    (λ block is. record {
      epoch = is.epoch;
      presence = is.presence;
      cells =
          all_append IsUnmovedCell (take size block.cells) (replicate (size - length block.cells) Undefined)
          (all_take IsUnmovedCell size block.cells is.cells) (all_replicate IsUnmovedCell (size - length block.cells) Undefined tt);
    })

renewed_unmoved : (size : ℕ) (block : Block) → IsUnmovedBlock block → IsUnmovedBlock (renewed size block)
renewed_unmoved size block is = record { epoch = is.epoch; presence = tt; cells = all_replicate IsUnmovedCell size Undefined tt }

-- ReallocateHandle
pub reallocated_fine : (size : ℕ) → IsFineRole (reallocated size)
reallocated_fine size block is =
    fine_either block.locked (changed (λ block. block) block) (by_standing (renewed size block) (renewed size block) (standing block.presence))
    (changed_fine (λ block. block) block is) (standing_fine (renewed size block) (renewed size block) block.presence is.presence)

-- and the block after it: a new life, and the epoch that it had
pub reallocated_keeps : (size : ℕ) → KeepsUnmoved (reallocated size)
reallocated_keeps size block is =
    kept_either block.locked (changed (λ block. block) block) (by_standing (renewed size block) (renewed size block) (standing block.presence))
    (changed_keeps (λ block. block) (λ block is. is) block is)
    (kept_by (renewed size block) (renewed size block) (standing block.presence) (renewed_unmoved size block is) (renewed_unmoved size block is))

-- ---- new blocks

-- a block of equal cells that was just made
pub new_block_unmoved : (size : ℕ) → IsUnmovedBlock (new_block size)
new_block_unmoved size = record { epoch = refl; presence = tt; cells = all_replicate IsUnmovedCell size Undefined tt }

-- or of bytes that are 0
pub zero_block_unmoved : (size : ℕ) → IsUnmovedBlock (record (new_block size) { cells = replicate size (Byte 0) })
zero_block_unmoved size = record { epoch = refl; presence = tt; cells = all_replicate IsUnmovedCell size (Byte 0) tt }
