-- The shift: what a decision of the schedule does to the heap (Inside Macintosh: Memory, "Properties of Relocatable Blocks"; epochs are own).
-- A block that is named to move, present and unlocked is moved if the routine moves or purges: its epoch rises.
-- A block that is named to purge, present, unlocked and purgeable is purged if the routine purges: its epoch rises.
-- All other entries of a decision count for nothing, so every list of decisions is a schedule.
--     is_named which number                     the decision names the block of that number
--     is_present, is_loose                      a block that has its cells; one that may move
--     is_moved, is_purged, is_changed           what happens to a block
--     shifted powers decision number block      the block of that number after the decision
--     shift powers decision blocks              the blocks after it
--     after_shift powers decision heap          the heap after it
--     OthersStay, LockedStay, EpochsRise        what a shift leaves as it was, and by how much epochs rise
use Rattle.std.specs.Prelude.{◌≡◌, ◌≤◌, ℕ, suc, ◌+◌, ◌==◌, Bool, true, false, not, ◌&&◌, ◌||◌, List, [], ◌∷◌, slice_get, Some, if◌then◌else◌}
use Rattle.std.specs.List.{list_any}
use Rattle.hs_heap.specs.Blocks.{Block}
use Rattle.hs_heap.specs.Memory.{Memory}
use Rattle.hs_heap.specs.declared.decision.Decision.{Decision}
use Rattle.hs_heap.specs.declared.decision.Which.{Which}
use Rattle.hs_heap.specs.declared.decision.Which.TheVariants.{All, These}
use Rattle.hs_heap.specs.declared.presence.Presence.{Presence}
use Rattle.hs_heap.specs.declared.presence.Presence.TheVariants.{Present, Emptied, Purged, Disposed}

-- the decision names the block
abbrev pub is_named : Which → ℕ → Bool
is_named All block = true
is_named (These numbers) block = list_any (λ number. number == block) numbers

-- what the table says of a routine
pub record Powers : Type 0 where
  pub moves : Bool
  pub purges : Bool

-- it has its cells
abbrev pub is_present : Presence → Bool
is_present Present = true
is_present Emptied = false
is_present Purged = false
is_present Disposed = false

-- the block has its cells and no lock
abbrev pub is_loose : Block → Bool
is_loose block = is_present block.presence && not block.locked

-- The decision moves the block. A routine that purges counts as one that moves.
abbrev pub is_moved : Powers → Decision → ℕ → Block → Bool
is_moved powers decision number block = (powers.moves || powers.purges) && is_named decision.moves number && is_loose block

-- the decision purges the block
abbrev pub is_purged : Powers → Decision → ℕ → Block → Bool
is_purged powers decision number block = powers.purges && is_named decision.purges number && is_loose block && block.purgeable

-- one of the two
abbrev pub is_changed : Powers → Decision → ℕ → Block → Bool
is_changed powers decision number block = is_moved powers decision number block || is_purged powers decision number block

-- one block after the decision; its epoch rises once, also if it is named twice
abbrev pub shifted : Powers → Decision → ℕ → Block → Block
shifted powers decision number block =
    if is_purged powers decision number block then record block { epoch = block.epoch + 1; presence = Purged }
    else if is_moved powers decision number block then record block { epoch = block.epoch + 1 }
    else block

-- the blocks from that number on, after the decision
abbrev pub shift_from : Powers → Decision → ℕ → List Block → List Block
shift_from powers decision number [] = []
shift_from powers decision number (block ∷ blocks) = shifted powers decision number block ∷ shift_from powers decision (suc number) blocks

-- the blocks after the decision: they are numbered from 1
abbrev pub shift : Powers → Decision → List Block → List Block
shift powers decision blocks = shift_from powers decision 1 blocks

-- the heap after the decision, which counts also if it changes nothing
abbrev pub after_shift : Powers → Decision → Memory → Memory
after_shift powers decision heap = record { blocks = shift powers decision heap.blocks; shifts = heap.shifts + 1 }

-- a block that is not changed by the definition is as it was; its number is one more than its place
abbrev pub OthersStay : Powers → Decision → List Block → List Block → Type 0
OthersStay powers decision old new =
    (place : ℕ) (block : Block) → slice_get old place ≡ Some block → is_changed powers decision (suc place) block ≡ false
    → slice_get new place ≡ Some block

-- a locked block is neither moved nor purged
abbrev pub LockedStay : List Block → List Block → Type 0
LockedStay old new = (place : ℕ) (block : Block) → slice_get old place ≡ Some block → block.locked ≡ true → slice_get new place ≡ Some block

-- an epoch rises by at most one
abbrev pub EpochsRise : List Block → List Block → Type 0
EpochsRise old new =
    (place : ℕ) (before after : Block) → slice_get old place ≡ Some before → slice_get new place ≡ Some after
    → (before.epoch ≤ after.epoch) × (after.epoch ≤ before.epoch + 1)
