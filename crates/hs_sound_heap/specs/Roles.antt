-- What the roles of routines do to a block, in the effects that they have (Inside Macintosh: Memory, "Using the Memory Manager"; own).
--     nothing, unlocking, ..            the effects of one role
--     effects_of role                   those of a role
--     lock_since, ..                    what each role leaves of a block
--     more_since                        the same with more effects
--     restored                          a state byte that is put back, seen from an earlier moment
--     put_since, added_since            all blocks, of which one changes or to which some are added
use Rattle.std.proofs.Common.{◌≡◌, inl, ℕ, zero, suc, ◌+◌, ◌-◌, ◌%◌, ◌==◌, nat_le, Bool, true, false, not, List, [], ◌∷◌, ◌++◌, length, slice_get, slice_set, Option, Some, Result, Ok, Err, refl, sym, ap, ◌∙◌, subst, arith, if◌then◌else◌, take, replicate, true≢false}
use Rattle.std.proofs.lemmas.Bool.{and_right, and_parts, not_from_true}
use Rattle.std.proofs.lemmas.Bool.Decides.{nat_tests}
use Rattle.std.proofs.lemmas.Option.{none-some, same_Some}
use Rattle.hs_base.specs.Entries.{set_there, set_other}
use Rattle.hs_heap.specs.Blocks.{Block, last_life, standing, by_standing, changed, with_lock, with_purge_bit, with_state, without_cells, emptied, ended, disposed, resized, renewed, reallocated}
use Rattle.hs_heap.specs.Memory.{block_at, put_block}
use Rattle.hs_heap.specs.Shift.{is_present, is_loose}
use Rattle.hs_heap.specs.declared.cell.Cell.{Cell}
use Rattle.hs_heap.specs.declared.cell.Cell.TheVariants.{Undefined}
use Rattle.hs_heap.specs.declared.presence.Presence.{Presence}
use Rattle.hs_heap.specs.declared.presence.Presence.TheVariants.{Present, Emptied, Purged, Disposed}
use Rattle.hs_heap.specs.declared.stop.HeapStop.{HeapStop}
use Rattle.hs_meaning.specs.Laws.Changes.{Left, Leaves, standing_left, changed_left, either_left}
use Rattle.hs_sound_heap.specs.Since.{May, BlockSince, IsThere, IsWithin, Since, is_marked, block_refl, block_more}
use Rattle.hs_table.specs.declared.role.Role.{Role}
use Rattle.hs_table.specs.declared.role.Role.TheVariants as role
use native.Mathlib.Numerals.{unary_clauses}

-- ---- effects

abbrev pub nothing : May
nothing = record { moves = false; purges = false; unlocks = false; marks = false; disposes = false }

abbrev pub unlocking : May
unlocking = record { moves = false; purges = false; unlocks = true; marks = false; disposes = false }

abbrev pub marking : May
marking = record { moves = false; purges = false; unlocks = false; marks = true; disposes = false }

-- a state byte has both bits
abbrev pub setting : May
setting = record { moves = false; purges = false; unlocks = true; marks = true; disposes = false }

abbrev pub disposing : May
disposing = record { moves = false; purges = false; unlocks = false; marks = false; disposes = true }

-- What a role does to the block that it acts on. A block that is allocated anew has no lock, so this unlocks. What a routine moves or purges it does
-- by a decision of the schedule, before its role acts.
abbrev pub effects_of : Role → May
effects_of role.Unlock = unlocking
effects_of role.Purge = marking
effects_of role.SetState = setting
effects_of role.Realloc = unlocking
effects_of role.DisposeHandle = disposing
effects_of its = nothing

-- ---- with more effects

left_more : (some all : May) → IsWithin some all → (old : Block) (given : Result Block HeapStop) → Left (BlockSince some) old given
    → Left (BlockSince all) old given
left_more some all within old (Ok new) is = block_more some all old new within is
left_more some all within old (Err why) is = tt

pub more_since : (some all : May) → IsWithin some all → (act : Block → Result Block HeapStop) → Leaves (BlockSince some) act
    → Leaves (BlockSince all) act
more_since some all within act are old = left_more some all within old (act old) (are old)

-- ---- roles

-- other cells
pub cells_since : (may : May) (block : Block) (cells : List Cell) → BlockSince may block (record block { cells = cells })
cells_since may block cells =
    record {
      epoch = λ none. refl;
      unpurged = λ none so. so;
      fixed = λ none is. (is, refl, λ so. so);
      revived = λ none so. so;
      purgeable = λ none so. so;
      purged = λ so. inl so;
      disposed = λ none so. so;
    }

-- HLock
pub lock_since : Leaves (BlockSince nothing) (with_lock true)
lock_since block =
    changed_left (BlockSince nothing) block (λ its. record its { locked = true })
    (record {
      epoch = λ none. refl;
      unpurged = λ none so. so;
      fixed = λ none is. (and_right (is_present block.presence) false refl, refl, λ so. so);
      revived = λ none so. so;
      purgeable = λ none so. so;
      purged = λ so. inl so;
      disposed = λ none so. so;
    })
    (block_refl nothing block)

-- HUnlock
pub unlock_since : Leaves (BlockSince unlocking) (with_lock false)
unlock_since block =
    changed_left (BlockSince unlocking) block (λ its. record its { locked = false })
    (record {
      epoch = λ none. refl;
      unpurged = λ none so. so;
      fixed = λ none is. absurd cc;
      revived = λ none so. so;
      purgeable = λ none so. so;
      purged = λ so. inl so;
      disposed = λ none so. so;
    })
    (block_refl unlocking block)

-- HPurge
pub purge_since : Leaves (BlockSince marking) (with_purge_bit true)
purge_since block =
    changed_left (BlockSince marking) block (λ its. record its { purgeable = true })
    (record {
      epoch = λ none. refl;
      unpurged = λ none so. so;
      fixed = λ none is. (is, refl, λ so. so);
      revived = λ none so. so;
      purgeable = λ none so. absurd cc;
      purged = λ so. inl so;
      disposed = λ none so. so;
    })
    (block_refl marking block)

-- HNoPurge
pub no_purge_since : Leaves (BlockSince nothing) (with_purge_bit false)
no_purge_since block =
    changed_left (BlockSince nothing) block (λ its. record its { purgeable = false })
    (record {
      epoch = λ none. refl;
      unpurged = λ none so. so;
      fixed = λ none is. (is, refl, λ so. so);
      revived = λ none so. so;
      purgeable = λ none so. absurd (true≢false (sym so ∙ and_right (is_present block.presence) false refl));
      purged = λ so. inl so;
      disposed = λ none so. so;
    })
    (block_refl nothing block)

-- HSetState
pub state_since : (byte : ℕ) → Leaves (BlockSince setting) (with_state byte)
state_since byte block =
    changed_left (BlockSince setting) block (λ its. record its { locked = nat_le 128 byte; purgeable = nat_le 64 (byte % 128) })
    (record {
      epoch = λ none. refl;
      unpurged = λ none so. so;
      fixed = λ none is. absurd cc;
      revived = λ none so. so;
      purgeable = λ none so. absurd cc;
      purged = λ so. inl so;
      disposed = λ none so. so;
    })
    (block_refl setting block)

without_since : (locked : Bool) (block : Block) → block.locked ≡ locked
    → BlockSince nothing block (if locked then block else record block { cells = []; life = block.life + 1; presence = Emptied })
without_since true block is = block_refl nothing block
without_since false block is =
    record {
      epoch = λ none. refl;
      unpurged = λ none so. absurd cc;
      fixed = λ none is. (refl, refl, λ so. absurd cc);
      revived = λ none so. absurd cc;
      purgeable = λ none so. absurd cc;
      purged = λ so. absurd cc;
      disposed = λ none so. refl;
    }

-- EmptyHandle
pub emptied_since : Leaves (BlockSince nothing) emptied
emptied_since block =
    either_left (BlockSince nothing) block (block.life == last_life) (changed (λ its. its) block) (changed without_cells block)
    (changed_left (BlockSince nothing) block (λ its. its) (block_refl nothing block) (block_refl nothing block))
    (changed_left (BlockSince nothing) block without_cells (without_since block.locked block refl) (block_refl nothing block))

ended_since : (block : Block) → BlockSince disposing block (ended block)
ended_since block =
    record {
      epoch = λ none. refl;
      unpurged = λ none so. absurd cc;
      fixed = λ none is. (refl, refl, λ so. absurd cc);
      revived = λ none so. absurd cc;
      purgeable = λ none so. absurd cc;
      purged = λ so. absurd cc;
      disposed = λ none so. absurd cc;
    }

-- DisposeHandle
pub disposed_since : Leaves (BlockSince disposing) disposed
disposed_since block =
    standing_left (BlockSince disposing) block (ended block) (ended block) (standing block.presence) (ended_since block) (ended_since block)

-- SetHandleSize
pub resized_since : (size : ℕ) → Leaves (BlockSince nothing) (resized size)
resized_since size block =
    changed_left (BlockSince nothing) block (λ its. record its { cells = take size its.cells ++ replicate (size - length its.cells) Undefined })
    (cells_since nothing block (take size block.cells ++ replicate (size - length block.cells) Undefined)) (block_refl nothing block)

renewed_since : (size : ℕ) (block : Block) → BlockSince unlocking block (renewed size block)
renewed_since size block =
    record {
      epoch = λ none. refl;
      unpurged = λ none so. absurd cc;
      fixed = λ none is. absurd cc;
      revived = λ none so. absurd cc;
      purgeable = λ none so. absurd cc;
      purged = λ so. absurd cc;
      disposed = λ none so. refl;
    }

-- ReallocateHandle
pub reallocated_since : (size : ℕ) → Leaves (BlockSince unlocking) (reallocated size)
reallocated_since size block =
    either_left (BlockSince unlocking) block block.locked (changed (λ its. its) block)
    (by_standing (renewed size block) (renewed size block) (standing block.presence))
    (changed_left (BlockSince unlocking) block (λ its. its) (block_refl unlocking block) (block_refl unlocking block))
    (standing_left (BlockSince unlocking) block (renewed size block) (renewed size block) (standing block.presence) (renewed_since size block)
    (renewed_since size block))

-- ---- a state byte that is put back

-- Seen from an earlier moment, at which the byte was not yet read: it locks a block that could not move then, and marks no block that was not marked.
-- So a pair of HGetState and HSetState unlocks and marks nothing, if the byte is put back where it was read.
pub restored : (may : May) (was block : Block) (byte : ℕ) → BlockSince may was block
    → (is_present block.presence ≡ true → may.unlocks ≡ false → is_loose was ≡ false → nat_le 128 byte ≡ true)
    → (may.marks ≡ false → nat_le 64 (byte % 128) ≡ true → is_marked was ≡ true) → Left (BlockSince may) was (with_state byte block)
restored may was block byte since locks marks = by_presence block.presence refl
  where
    new : Block
    new = record block { locked = nat_le 128 byte; purgeable = nat_le 64 (byte % 128) }

    held : is_present block.presence ≡ true → is_loose was ≡ false → may.unlocks ≡ false → is_loose new ≡ false
    held here is none = and_right (is_present block.presence) (not (nat_le 128 byte)) (not_from_true (nat_le 128 byte) (locks here none is))

    changes : is_present block.presence ≡ true → BlockSince may was new
    changes here =
        record {
          epoch = λ none. since.epoch none;
          unpurged = λ none so. since.unpurged none so;
          fixed = λ none is. (held here is none, (since.fixed none is).1, (since.fixed none is).2);
          revived = λ none so. since.revived none so;
          purgeable = λ none so. marks none (and_parts (is_present block.presence) (nat_le 64 (byte % 128)) so).1;
          purged = λ so. since.purged so;
          disposed = λ none so. since.disposed none so;
        }

    by_presence : (it : Presence) → block.presence ≡ it → Left (BlockSince may) was (by_standing new block (standing it))
    by_presence Present is = changes (ap is_present is)
    by_presence Emptied is = since
    by_presence Purged is = tt
    by_presence Disposed is = tt

-- ---- all blocks

-- a block of that place that is known
pub there_is : (may : May) (old new : Block) (found : Option Block) → found ≡ Some new → BlockSince may old new → IsThere may old found
there_is may old new found is since = record { block = new; there = is; since = since }

one_since : (may : May) (blocks : List Block) (at : ℕ) (before after : Block) → slice_get blocks at ≡ Some before → BlockSince may before after
    → Since may blocks (slice_set blocks at after)
one_since may blocks at before after there since place block found = by_place (place == at) refl
  where
    here : place ≡ at → IsThere may block (slice_get (slice_set blocks at after) place)
    here is =
        there_is may block after (slice_get (slice_set blocks at after) place)
        (ap (slice_get (slice_set blocks at after)) is ∙ set_there blocks at before after there)
        (subst (λ its. BlockSince may its after) (same_Some before block (sym there ∙ ap (slice_get blocks) (sym is) ∙ found)) since)

    by_place : (z : Bool) → (place == at) ≡ z → IsThere may block (slice_get (slice_set blocks at after) place)
    by_place true is = here (grind (is, nat_tests, arith))
    by_place false is =
        there_is may block block (slice_get (slice_set blocks at after) place)
        (set_other blocks at after place (λ so. absurd (grind (is, so, nat_tests, arith))) ∙ found) (block_refl may block)

-- one block becomes another
pub put_since : (may : May) (blocks : List Block) (number : ℕ) (before after : Block) → block_at blocks number ≡ Some before
    → BlockSince may before after → Since may blocks (put_block blocks number after)
put_since may blocks zero before after there since = absurd (none-some before there)
put_since may blocks (suc at) before after there since =
    subst (λ place. Since may blocks (slice_set blocks place after)) (sym (one_less at)) (one_since may blocks at before after there since)
  where
    one_less : (place : ℕ) → suc place - 1 ≡ place
    one_less place = simp unary_clauses refl

still_there : (blocks more : List Block) (place : ℕ) (block : Block) → slice_get blocks place ≡ Some block
    → slice_get (blocks ++ more) place ≡ Some block
still_there [] more place block found = absurd (none-some block found)
still_there (first ∷ blocks) more zero block found = found
still_there (first ∷ blocks) more (suc place) block found = still_there blocks more place block found

-- blocks are added
pub added_since : (may : May) (blocks more : List Block) → Since may blocks (blocks ++ more)
added_since may blocks more place block found =
    there_is may block block (slice_get (blocks ++ more) place) (still_there blocks more place block found) (block_refl may block)
