-- Nothing but a decision of the schedule changes an epoch.
--     epochs_of blocks               the epochs of the blocks, in their order
--     epochs                         the change: each block keeps its epoch, and blocks may be added
use Rattle.std.proofs.Common.{◌≡◌, ℕ, zero, suc, ◌+◌, ◌-◌, ◌%◌, ◌==◌, nat_le, Bool, true, false, List, [], ◌∷◌, ◌++◌, length, map, take, replicate, slice_get, slice_set, Option, Some, None, is_none, refl, sym, ap, ◌∙◌, append_assoc, append-nil, if◌then◌else◌, true≢false}
use Rattle.std.proofs.lemmas.List.{map-append}
use Rattle.hs_heap.specs.Blocks.{Block, last_life, standing, by_standing, changed, with_lock, with_purge_bit, with_bits, with_state, without_cells, emptied, ended, disposed, resized, renewed, reallocated}
use Rattle.hs_heap.specs.Memory.{block_at, put_block}
use Rattle.hs_heap.specs.declared.cell.Cell.TheVariants.{Undefined}
use Rattle.hs_heap.specs.declared.presence.Presence.TheVariants.{Emptied}
use Rattle.hs_meaning.specs.Laws.Changes.{Change, Leaves, standing_left, changed_left, either_left}
use native.Mathlib.Numerals.{unary_clauses}

-- how often each block was moved or purged
abbrev pub epochs_of : List Block → List ℕ
epochs_of blocks = map (λ block. block.epoch) blocks

-- the epochs of the blocks that were there, and then those of the added ones
abbrev pub EpochsStay : List Block → List Block → Type 0
EpochsStay before after = (more : List ℕ) × (epochs_of after ≡ epochs_of before ++ more)

-- ---- lists of blocks

pub equal_stay : (before after : List Block) → epochs_of after ≡ epochs_of before → EpochsStay before after
equal_stay before after is = ([], is ∙ sym (append-nil (epochs_of before)))

pub stay_then : (first second third : List Block) → EpochsStay first second → EpochsStay second third → EpochsStay first third
stay_then first second third is so = (
  is.0 ++ so.0,
  so.1 ∙ ap (λ epochs. epochs ++ so.0) is.1 ∙ append_assoc (epochs_of first) is.0 so.0,
)

pub added_stay : (blocks more : List Block) → EpochsStay blocks (blocks ++ more)
added_stay blocks more = (epochs_of more, map-append (λ block. block.epoch) blocks more)

-- the epoch of a block, or 0 if there is no block
abbrev epoch_in : Option Block → ℕ
epoch_in None = 0
epoch_in (Some block) = block.epoch

set_keeps : (blocks : List Block) (place : ℕ) (before block : Block) → slice_get blocks place ≡ Some before → block.epoch ≡ before.epoch
    → epochs_of (slice_set blocks place block) ≡ epochs_of blocks
set_keeps [] place before block is same = refl
set_keeps (first ∷ rest) zero before block is same = ap (λ epoch. epoch ∷ epochs_of rest) (same ∙ sym (ap epoch_in is))
set_keeps (first ∷ rest) (suc place) before block is same = ap (λ epochs. first.epoch ∷ epochs) (set_keeps rest place before block is same)

pub put_keeps : (blocks : List Block) (number : ℕ) (before block : Block) → block_at blocks number ≡ Some before → block.epoch ≡ before.epoch
    → epochs_of (put_block blocks number block) ≡ epochs_of blocks
put_keeps blocks zero before block is same = absurd (true≢false (ap is_none is))
put_keeps blocks (suc place) before block is same =
    ap (λ at. epochs_of (slice_set blocks at block)) (one_less place) ∙ set_keeps blocks place before block is same
  where
    one_less : (place : ℕ) → suc place - 1 ≡ place
    one_less place = simp unary_clauses refl

-- ---- what roles leave

-- the block has its epoch
abbrev pub SameEpoch : Block → Block → Type 0
SameEpoch before after = after.epoch ≡ before.epoch

keeps_epoch : (change : Block → Block) → ((block : Block) → (change block).epoch ≡ block.epoch) → Leaves SameEpoch (changed change)
keeps_epoch change each block = changed_left SameEpoch block change (each block) refl

-- HLock and HUnlock
pub with_lock_keeps : (on : Bool) → Leaves SameEpoch (with_lock on)
with_lock_keeps on = keeps_epoch (λ block. record block { locked = on }) (λ block. refl)

-- HPurge and HNoPurge
pub with_purge_bit_keeps : (on : Bool) → Leaves SameEpoch (with_purge_bit on)
with_purge_bit_keeps on = keeps_epoch (λ block. record block { purgeable = on }) (λ block. refl)

with_bits_keeps : (locked purgeable : Bool) → Leaves SameEpoch (with_bits locked purgeable)
with_bits_keeps locked purgeable = keeps_epoch (λ block. record block { locked = locked; purgeable = purgeable }) (λ block. refl)

-- HSetState
pub with_state_keeps : (byte : ℕ) → Leaves SameEpoch (with_state byte)
with_state_keeps byte = with_bits_keeps (nat_le 128 byte) (nat_le 64 (byte % 128))

without_cells_keeps : (block : Block) → (without_cells block).epoch ≡ block.epoch
without_cells_keeps block = by_lock block.locked
  where
    by_lock : (locked : Bool) → (if locked then block else record block { cells = []; life = block.life + 1; presence = Emptied }).epoch ≡ block.epoch
    by_lock true = refl
    by_lock false = refl

-- EmptyHandle, which raises the life alone
pub emptied_keeps : Leaves SameEpoch emptied
emptied_keeps block =
    either_left SameEpoch block (block.life == last_life) (changed (λ block. block) block) (changed without_cells block)
    (keeps_epoch (λ block. block) (λ block. refl) block) (keeps_epoch without_cells without_cells_keeps block)

-- DisposeHandle
pub disposed_keeps : Leaves SameEpoch disposed
disposed_keeps block = standing_left SameEpoch block (ended block) (ended block) (standing block.presence) refl refl

-- SetHandleSize
pub resized_keeps : (size : ℕ) → Leaves SameEpoch (resized size)
resized_keeps size =
    keeps_epoch (λ block. record block { cells = take size block.cells ++ replicate (size - length block.cells) Undefined }) (λ block. refl)

-- ReallocateHandle, which raises the life alone
pub reallocated_keeps : (size : ℕ) → Leaves SameEpoch (reallocated size)
reallocated_keeps size block =
    either_left SameEpoch block block.locked (changed (λ block. block) block)
    (by_standing (renewed size block) (renewed size block) (standing block.presence)) (keeps_epoch (λ block. block) (λ block. refl) block)
    (standing_left SameEpoch block (renewed size block) (renewed size block) (standing block.presence) refl refl)

-- ---- the change

-- Operations of all roles keep epochs.
abbrev pub epochs : Change
epochs = record {
  over = λ before old after new. EpochsStay before after;
  same = λ blocks output. equal_stay blocks blocks refl;
  chained = λ a b c x y z is so. stay_then a b c is so;
  added = λ blocks more output. added_stay blocks more;
  written = λ blocks output more. equal_stay blocks blocks refl;
  keeps = SameEpoch;
  put = λ blocks output number before block is same. equal_stay blocks (put_block blocks number block) (put_keeps blocks number before block is same);
  cells = λ before cells. refl;
  speaks_of = λ role. Unit {0};
  locks = λ speaks. with_lock_keeps true;
  unlocks = λ speaks. with_lock_keeps false;
  marks = λ speaks. with_purge_bit_keeps true;
  unmarks = λ speaks. with_purge_bit_keeps false;
  puts_back = λ speaks byte. with_state_keeps byte;
  empties = λ speaks. emptied_keeps;
  disposes = λ speaks. disposed_keeps;
  resizes = λ speaks size. resized_keeps size;
  renews = λ speaks size. reallocated_keeps size;
}
