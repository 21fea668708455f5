-- What a shift leaves as it was.
--     there_after            each block is there after a shift, as the shift leaves it
--     others_stay            a block that is neither moved nor purged stays
--     locked_stay            a locked block is neither
--     names_count            what names no block that may change counts for nothing
use Rattle.std.proofs.Common.{◌≡◌, ℕ, zero, suc, ◌+◌, Bool, true, false, not, ◌&&◌, ◌||◌, List, [], ◌∷◌, Some, refl, sym, ap, ◌∙◌, slice_get, if◌then◌else◌, arith}
use Rattle.std.proofs.lemmas.Bool.{or_parts, or_from, and_left, and_right, not_from_true}
use Rattle.std.proofs.lemmas.Option.{none-some, same_Some}
use Rattle.hs_heap.specs.Blocks.{Block}
use Rattle.hs_heap.specs.Shift.{Powers, is_named, is_present, is_loose, is_moved, is_purged, shifted, shift_from, shift, OthersStay, LockedStay}
use Rattle.hs_heap.specs.declared.decision.Decision.{Decision}
use Rattle.hs_heap.specs.declared.presence.Presence.TheVariants.{Purged}

module _ (powers : Powers) (decision : Decision) where
  -- each block is there after the shift, as the shift leaves it
  pub there_after : (n : ℕ) (blocks : List Block) (place k : ℕ) (block : Block) → k ≡ n + place → slice_get blocks place ≡ Some block
      → slice_get (shift_from powers decision n blocks) place ≡ Some (shifted powers decision k block)
  there_after n [] place k block at found = absurd (none-some block found)
  there_after n (first ∷ blocks) zero k block at found =
      ap Some (ap (λ m. shifted powers decision m first) (sym (omega (arith, at))) ∙ ap (shifted powers decision k) (same_Some first block found))
  there_after n (first ∷ blocks) (suc place) k block at found = there_after (suc n) blocks place k block (omega (arith, at)) found

  -- by place: a block that is neither moved nor purged stays
  pub others_stay : (blocks : List Block) → OthersStay powers decision blocks (shift powers decision blocks)
  others_stay blocks place block found other =
      there_after 1 blocks place (suc place) block (omega arith) found
      ∙ ap Some (stays (or_parts (is_moved powers decision (suc place) block) (is_purged powers decision (suc place) block) other))
    where
      stays : (is_moved powers decision (suc place) block ≡ false) × (is_purged powers decision (suc place) block ≡ false)
          → shifted powers decision (suc place) block ≡ block
      stays parts = rw (parts.1, parts.0) refl

  -- a locked one is neither
  pub locked_stay : (blocks : List Block) → LockedStay blocks (shift powers decision blocks)
  locked_stay blocks place block found locked =
      others_stay blocks place block found
      (or_from (is_moved powers decision (suc place) block) (is_purged powers decision (suc place) block)
      (and_right ((powers.moves || powers.purges) && is_named decision.moves (suc place)) (is_loose block) not_loose)
      (and_left (powers.purges && is_named decision.purges (suc place) && is_loose block) block.purgeable
      (and_right (powers.purges && is_named decision.purges (suc place)) (is_loose block) not_loose)))
    where
      not_loose : is_loose block ≡ false
      not_loose = and_right (is_present block.presence) (not block.locked) (not_from_true block.locked locked)

-- ---- what a decision names

-- two decisions name a block alike, if it may move, and if it may be purged
abbrev pub NameAlike : Decision → Decision → ℕ → Block → Type 0
NameAlike decision other number block =
    (is_loose block ≡ true → is_named decision.moves number ≡ is_named other.moves number)
    × (is_loose block ≡ true → block.purgeable ≡ true → is_named decision.purges number ≡ is_named other.purges number)

-- one block after either of them
shifted_alike : (powers : Powers) (decision other : Decision) (number : ℕ) (block : Block) → NameAlike decision other number block
    → shifted powers decision number block ≡ shifted powers other number block
shifted_alike powers decision other number block alike = by_block (is_loose block) block.purgeable refl refl
  where
    -- a test that ends with one that fails
    fails : (x y : Bool) → (x && y && false) ≡ false
    fails true true = refl
    fails true false = refl
    fails false y = refl

    fails_last : (x y z : Bool) → (x && y && z && false) ≡ false
    fails_last true true true = refl
    fails_last true true false = refl
    fails_last true false z = refl
    fails_last false y z = refl

    by_block : (loose purgeable : Bool) → is_loose block ≡ loose → block.purgeable ≡ purgeable
        → shifted powers decision number block ≡ shifted powers other number block
    by_block true true loose purgeable = rw (alike.0 loose, alike.1 loose purgeable) refl
    by_block true false loose purgeable =
        rw (alike.0 loose) (simp (
          purgeable,
          fails_last powers.purges (is_named decision.purges number) (is_loose block),
          fails_last powers.purges (is_named other.purges number) (is_loose block),
        ) refl)
    by_block false purgeable loose is =
        simp (
          loose,
          fails powers.purges (is_named decision.purges number),
          fails powers.purges (is_named other.purges number),
          fails (powers.moves || powers.purges) (is_named decision.moves number),
          fails (powers.moves || powers.purges) (is_named other.moves number),
        ) refl

-- Only the blocks that may change count in a decision: decisions that name these blocks alike do the same. So every list of decisions is a
-- schedule.
pub names_count : (powers : Powers) (decision other : Decision) (number : ℕ) (blocks : List Block)
    → ((place k : ℕ) (block : Block) → k ≡ number + place → slice_get blocks place ≡ Some block → NameAlike decision other k block)
    → shift_from powers decision number blocks ≡ shift_from powers other number blocks
names_count powers decision other number [] alike = refl
names_count powers decision other number (block ∷ blocks) alike =
    ap (λ b. b ∷ shift_from powers decision (suc number) blocks) (shifted_alike powers decision other number block (alike zero number block (omega arith) refl))
    ∙ ap (λ bs. shifted powers other number block ∷ bs)
    (names_count powers decision other (suc number) blocks (λ place k b at found. alike (suc place) k b (omega (arith, at)) found))
