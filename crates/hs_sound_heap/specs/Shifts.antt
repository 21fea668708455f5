-- What a decision of the schedule does to the blocks: it moves and purges, and no more (own).
--     shifting purges          the effects of a routine that moves or purges
--     shift_since              the blocks after its decision
use Rattle.std.proofs.Common.{◌≡◌, inl, inr, ℕ, suc, ◌+◌, Bool, true, false, not, ◌&&◌, ◌||◌, List, slice_get, refl, sym, ◌∙◌, arith, if◌then◌else◌, true≢false}
use Rattle.std.proofs.lemmas.Bool.{and_parts}
use Rattle.hs_heap.specs.Blocks.{Block}
use Rattle.hs_heap.specs.Shift.{Powers, is_named, is_present, is_loose, is_moved, is_purged as purges_it, shifted, shift}
use Rattle.hs_heap.specs.ShiftLaws.{there_after}
use Rattle.hs_heap.specs.declared.decision.Decision.{Decision}
use Rattle.hs_heap.specs.declared.presence.Presence.TheVariants.{Purged}
use Rattle.hs_sound_heap.specs.Roles.{there_is}
use Rattle.hs_sound_heap.specs.Since.{May, BlockSince, Since, is_marked, block_refl}

-- it moves, and it purges if the routine does
abbrev pub shifting : Bool → May
shifting purges = record { moves = true; purges = purges; unlocks = false; marks = false; disposes = false }

module _ (powers : Powers) (decision : Decision) (number : ℕ) (block : Block) where
  -- what is purged is loose
  loose_purged : purges_it powers decision number block ≡ true → is_loose block ≡ true
  loose_purged is =
      (and_parts (powers.purges && is_named decision.purges number) (is_loose block)
      (and_parts (powers.purges && is_named decision.purges number && is_loose block) block.purgeable is).0).1

  -- by a routine that purges
  may_purge : purges_it powers decision number block ≡ true → powers.purges ≡ true
  may_purge is =
      (and_parts powers.purges (is_named decision.purges number)
      (and_parts (powers.purges && is_named decision.purges number) (is_loose block)
      (and_parts (powers.purges && is_named decision.purges number && is_loose block) block.purgeable is).0).0).0

  -- and is marked
  marked_purged : purges_it powers decision number block ≡ true → is_marked block ≡ true
  marked_purged is =
      both (is_present block.presence) block.purgeable (and_parts (is_present block.presence) (not block.locked) (loose_purged is)).0
      (and_parts (powers.purges && is_named decision.purges number && is_loose block) block.purgeable is).1
    where
      both : (a b : Bool) → a ≡ true → b ≡ true → (a && b) ≡ true
      both true b is so = so
      both false b is so = is

  -- what is moved is loose
  loose_moved : is_moved powers decision number block ≡ true → is_loose block ≡ true
  loose_moved is = (and_parts ((powers.moves || powers.purges) && is_named decision.moves number) (is_loose block) is).1

  shifted_by : (purge move : Bool) → purges_it powers decision number block ≡ purge → is_moved powers decision number block ≡ move
      → BlockSince (shifting powers.purges) block
      (if purge then record block { epoch = block.epoch + 1; presence = Purged } else if move then record block { epoch = block.epoch + 1 } else block)
  shifted_by true move is moved =
      record {
        epoch = λ none. absurd cc;
        unpurged = λ none so. absurd cc;
        fixed = λ none held. absurd (true≢false (sym (loose_purged is) ∙ held));
        revived = λ none so. absurd cc;
        purgeable = λ none so. absurd cc;
        purged = λ so. inr (may_purge is, inl (marked_purged is));
        disposed = λ none so. refl;
      }
  shifted_by false true is moved =
      record {
        epoch = λ none. absurd cc;
        unpurged = λ none so. absurd cc;
        fixed = λ none held. absurd (true≢false (sym (loose_moved moved) ∙ held));
        revived = λ none so. so;
        purgeable = λ none so. so;
        purged = λ so. inl so;
        disposed = λ none so. so;
      }
  shifted_by false false is moved = block_refl (shifting powers.purges) block

  -- the block of that number
  shifted_since : BlockSince (shifting powers.purges) block (shifted powers decision number block)
  shifted_since = shifted_by (purges_it powers decision number block) (is_moved powers decision number block) refl refl

-- all of them
pub shift_since : (powers : Powers) (decision : Decision) (blocks : List Block)
    → Since (shifting powers.purges) blocks (shift powers decision blocks)
shift_since powers decision blocks place block found =
    there_is (shifting powers.purges) block (shifted powers decision (suc place) block) (slice_get (shift powers decision blocks) place)
    (there_after powers decision 1 blocks place (suc place) block (omega arith) found) (shifted_since powers decision (suc place) block)
