-- The two passes together are the shift; and what a shift keeps.
use Rattle.std.proofs.Common.{◌≡◌, ◌≤◌, ◌<◌, ◌+◌, ℕ, zero, suc, Bool, true, false, not, ◌&&◌, ◌||◌, List, [], ◌∷◌, length, Some, refl, sym, ap, subst, ◌∙◌, slice_get, get_or, if◌then◌else◌, arith}
use Rattle.std.proofs.lemmas.Option.{none-some, same_Some}
use Rattle.std.proofs.lemmas.List.Sums.{sum_by-cons}
use Rattle.hs_heap.specs.Blocks.{Block}
use Rattle.hs_heap.specs.Memory.{IsKept, IsMarked, live_bytes}
use Rattle.hs_heap.specs.Shift.{Powers, is_named, is_present, is_loose, is_moved, is_purged, shifted, shift_from, shift, EpochsRise}
use Rattle.hs_heap.specs.ShiftLaws.{there_after}
use Rattle.hs_heap.specs.Passes.{raised, purged, relocated, numbered, if_named, with_each}
use Rattle.hs_heap.specs.declared.decision.Decision.{Decision}
use Rattle.hs_heap.specs.declared.presence.Presence.TheVariants.{Purged}
use Rattle.hs_heap.proofs.Passing.{numbered_twice, numbered_same}

-- an epoch that is not the last one rises by one
raised_more : (epoch shifts : ℕ) → epoch ≤ shifts → shifts < 4294967295 → raised epoch ≡ epoch + 1
raised_more epoch shifts low left = omega (arith, low, left)

-- one block in both passes, with what names and permits it
both_passes : (may_purge may_move : Bool) (block : Block) → raised block.epoch ≡ block.epoch + 1
    → (if may_move then relocated (if may_purge then purged block else block) else (if may_purge then purged block else block))
    ≡ (if may_purge && is_loose block && block.purgeable then record block { epoch = block.epoch + 1; presence = Purged }
    else if may_move && is_loose block then record block { epoch = block.epoch + 1 } else block)
both_passes may_purge may_move block up = go may_purge may_move (is_loose block) block.purgeable refl refl
  where
    go : (may_purge may_move loose purgeable : Bool) → is_loose block ≡ loose → block.purgeable ≡ purgeable
        → (if may_move then relocated (if may_purge then purged block else block) else (if may_purge then purged block else block))
        ≡ (if may_purge && is_loose block && block.purgeable then record block { epoch = block.epoch + 1; presence = Purged }
        else if may_move && is_loose block then record block { epoch = block.epoch + 1 } else block)
    go true true true true l p = simp (l, p, up) refl
    go true true true false l p = simp (l, p, up) refl
    go true true false true l p = simp (l, p, up) refl
    go true true false false l p = simp (l, p, up) refl
    go true false true true l p = simp (l, p, up) refl
    go true false true false l p = simp (l, p, up) refl
    go true false false true l p = simp (l, p, up) refl
    go true false false false l p = simp (l, p, up) refl
    go false true true purgeable l p = simp (l, p, up) refl
    go false true false purgeable l p = simp (l, p, up) refl
    go false false loose purgeable l p = refl

-- the definition numbers blocks alike
shift_numbered : (powers : Powers) (decision : Decision) (n : ℕ) (blocks : List Block)
    → shift_from powers decision n blocks ≡ numbered (shifted powers decision) n blocks
shift_numbered powers decision n [] = refl
shift_numbered powers decision n (block ∷ blocks) =
    ap (λ (its : List Block). shifted powers decision n block ∷ its) (shift_numbered powers decision (suc n) blocks)

-- both passes over all blocks
pub passes_shift : (powers : Powers) (decision : Decision) (shifts : ℕ) (blocks : List Block) → shifts < 4294967295
    → ((place : ℕ) (block : Block) → slice_get blocks place ≡ Some block → block.epoch ≤ shifts)
    → with_each (powers.moves || powers.purges) decision.moves relocated (with_each powers.purges decision.purges purged blocks)
    ≡ shift powers decision blocks
passes_shift powers decision shifts blocks left below =
    numbered_twice (if_named (powers.moves || powers.purges) decision.moves relocated) (if_named powers.purges decision.purges purged) 1 blocks
    ∙ numbered_same
    (λ k block. if_named (powers.moves || powers.purges) decision.moves relocated k (if_named powers.purges decision.purges purged k block))
    (shifted powers decision) 1 blocks
    (λ place k block found at. both_passes (powers.purges && is_named decision.purges k)
    ((powers.moves || powers.purges) && is_named decision.moves k) block (raised_more block.epoch shifts (below place block found) left))
    ∙ sym (shift_numbered powers decision 1 blocks)

-- ---- what a shift keeps

module _ (powers : Powers) (decision : Decision) where
  -- as many blocks
  pub length_shift : (n : ℕ) (blocks : List Block) → length (shift_from powers decision n blocks) ≡ length blocks
  length_shift n [] = refl
  length_shift n (block ∷ blocks) = ap suc (length_shift (suc n) blocks)

  -- a purged block keeps its cells
  same_cells : (n : ℕ) (block : Block) → length (shifted powers decision n block).cells ≡ length block.cells
  same_cells n block = go (is_purged powers decision n block) (is_moved powers decision n block)
    where
      go : (purges moves : Bool)
          → length (if purges then record block { epoch = block.epoch + 1; presence = Purged }
          else if moves then record block { epoch = block.epoch + 1 } else block).cells ≡ length block.cells
      go true moves = refl
      go false true = refl
      go false false = refl

  -- so live bytes stay
  same_bytes : (n : ℕ) (blocks : List Block) → live_bytes (shift_from powers decision n blocks) ≡ live_bytes blocks
  same_bytes n [] = refl
  same_bytes n (block ∷ blocks) =
      sum_by-cons (λ (it : Block). length it.cells) (shifted powers decision n block) (shift_from powers decision (suc n) blocks)
      ∙ ap (λ m. m + live_bytes (shift_from powers decision (suc n) blocks)) (same_cells n block)
      ∙ ap (λ m. length block.cells + m) (same_bytes (suc n) blocks)
      ∙ sym (sum_by-cons (λ (it : Block). length it.cells) block blocks)

  -- its epoch rises by at most one
  epochs_rise : (n : ℕ) (block : Block)
      → (block.epoch ≤ (shifted powers decision n block).epoch) × ((shifted powers decision n block).epoch ≤ block.epoch + 1)
  epochs_rise n block = go (is_purged powers decision n block) (is_moved powers decision n block)
    where
      go : (purges moves : Bool)
          → (block.epoch ≤ (if purges then record block { epoch = block.epoch + 1; presence = Purged }
          else if moves then record block { epoch = block.epoch + 1 } else block).epoch)
          × ((if purges then record block { epoch = block.epoch + 1; presence = Purged }
          else if moves then record block { epoch = block.epoch + 1 } else block).epoch ≤ block.epoch + 1)
      go true moves = (omega arith, omega arith)
      go false true = (omega arith, omega arith)
      go false false = (omega arith, omega arith)

  -- by place: epochs rise by at most one
  pub EpochsRise-shift : (blocks : List Block) → EpochsRise blocks (shift powers decision blocks)
  EpochsRise-shift blocks place before after one two =
      subst (λ (it : Block). (before.epoch ≤ it.epoch) × (it.epoch ≤ before.epoch + 1))
      (same_Some (shifted powers decision (suc place) before) after
      (sym (there_after powers decision 1 blocks place (suc place) before (omega arith) one) ∙ two))
      (epochs_rise (suc place) before)

  -- an epoch after the shift is at most one more than the shifts before it
  epochs_after : (n : ℕ) (blocks : List Block) (shifts place : ℕ) (block : Block)
      → ((at : ℕ) (it : Block) → slice_get blocks at ≡ Some it → it.epoch ≤ shifts)
      → slice_get (shift_from powers decision n blocks) place ≡ Some block → block.epoch ≤ shifts + 1
  epochs_after n [] shifts place block below found = absurd (none-some block found)
  epochs_after n (first ∷ blocks) shifts zero block below found =
      subst (λ (it : Block). it.epoch ≤ shifts + 1) (same_Some (shifted powers decision n first) block found)
      (let rise = (epochs_rise n first).1 in let low = below 0 first refl in omega (arith, rise, low))
  epochs_after n (first ∷ blocks) shifts (suc place) block below found =
      epochs_after (suc n) blocks shifts place block (λ at. below (suc at)) found

  -- bytes stay within their limits
  pub kept_shift : (blocks : List Block) (live : ℕ) → IsKept blocks live → IsKept (shift powers decision blocks) live
  kept_shift blocks live kept =
      record {
        counted = kept.counted ∙ sym (same_bytes 1 blocks);
        room = kept.room;
        numbers = subst (λ n. n ≤ 4294967295) (sym (length_shift 1 blocks)) kept.numbers;
      }

  -- and marks and epochs within the number of shifts
  pub marked_shift : (blocks : List Block) (marks after : List ℕ) (shifts : ℕ) → IsMarked blocks marks shifts
      → length (shift powers decision blocks) ≤ length after → ((place : ℕ) → get_or after place 0 ≤ shifts + 1)
      → IsMarked (shift powers decision blocks) after (shifts + 1)
  marked_shift blocks marks after shifts marked long past =
      record {
        long = long;
        past = past;
        epochs = λ place block found. epochs_after 1 blocks shifts place block marked.epochs found;
      }

-- what the code makes of the rows
pub shift_is : (moves purges may : Bool) (decision : Decision) (shifts : ℕ) (blocks purged_rows rows : List Block)
    → may ≡ (moves || purges) → shifts < 4294967295
    → ((place : ℕ) (block : Block) → slice_get blocks place ≡ Some block → block.epoch ≤ shifts)
    → purged_rows ≡ with_each purges decision.purges purged blocks → rows ≡ with_each may decision.moves relocated purged_rows
    → rows ≡ shift (record { moves = moves; purges = purges }) decision blocks
shift_is moves purges may decision shifts blocks purged_rows rows is left below one two =
    two ∙ ap (λ its. with_each may decision.moves relocated its) one
    ∙ ap (λ b. with_each b decision.moves relocated (with_each purges decision.purges purged blocks)) is
    ∙ passes_shift (record { moves = moves; purges = purges }) decision shifts blocks left below
