-- What the blocks of the heap become over a part of a run that has only some effects (own).
--     May                            the effects that it may have
--     BlockSince may old new         one block, then and now
--     Since may old new              all blocks, by their places; blocks may have been added
--     IsWithin some all              all that the one may do, the other may do
--     since_refl, since_trans, since_more      of nothing, of one part after another, and of one with more effects
-- A block that is not loose is locked, or it is not present. So the clause `fixed` says of each block that could not move at first: unless something is
-- unlocked, it still cannot, and it has neither moved nor been purged.
use Rattle.std.proofs.Common.{◌≡◌, ◌⊎◌, inl, inr, ℕ, Bool, true, false, ◌&&◌, List, slice_get, Option, Some, refl, sym, ◌∙◌, true≢false}
use Rattle.hs_heap.specs.Blocks.{Block, is_disposed}
use Rattle.hs_heap.specs.Shift.{is_loose, is_present}
use Rattle.hs_heap.specs.declared.presence.Presence.{Presence}
use Rattle.hs_heap.specs.declared.presence.Presence.TheVariants.{Present, Emptied, Purged, Disposed}

-- What a part of a run may do: call a routine that moves or purges, call one that purges, unlock a block, make one purgeable, dispose of one.
pub record May : Type 0 where
  pub moves : Bool
  pub purges : Bool
  pub unlocks : Bool
  pub marks : Bool
  pub disposes : Bool

-- a decision purged it
abbrev pub is_purged : Presence → Bool
is_purged Present = false
is_purged Emptied = false
is_purged Purged = true
is_purged Disposed = false

-- It is present and may be purged. The bit alone does not say so: an emptied block keeps it, and loses it when it gets new cells.
abbrev pub is_marked : Block → Bool
is_marked block = is_present block.presence && block.purgeable

-- it was purged already, or something purges, and it was marked or something marks
abbrev pub MayBePurged : May → Block → Type 0
MayBePurged may old = (is_purged old.presence ≡ true) ⊎ ((may.purges ≡ true) × ((is_marked old ≡ true) ⊎ (may.marks ≡ true)))

-- one block, then and now
pub record BlockSince (may : May) (old new : Block) : Type 0 where
  -- nothing moves: it is where it was, and is not purged
  pub epoch : may.moves ≡ false → new.epoch ≡ old.epoch
  pub unpurged : may.moves ≡ false → is_purged new.presence ≡ true → is_purged old.presence ≡ true
  -- nothing unlocks: it cannot move if it could not, and is present only if it was
  pub fixed : may.unlocks ≡ false → is_loose old ≡ false
      → (is_loose new ≡ false) × (new.epoch ≡ old.epoch) × (is_purged new.presence ≡ true → is_purged old.presence ≡ true)
  pub revived : may.unlocks ≡ false → is_present new.presence ≡ true → is_present old.presence ≡ true
  -- nothing marks: it is marked only if it was
  pub purgeable : may.marks ≡ false → is_marked new ≡ true → is_marked old ≡ true
  pub purged : is_purged new.presence ≡ true → MayBePurged may old
  -- nothing disposes
  pub disposed : may.disposes ≡ false → is_disposed old.presence ≡ false → is_disposed new.presence ≡ false

-- the block of that place is still there
pub record IsThere (may : May) (old : Block) (new : Option Block) : Type 0 where
  pub block : Block
  pub there : new ≡ Some block
  pub since : BlockSince may old block

-- blocks are numbered by their places
abbrev pub Since : May → List Block → List Block → Type 0
Since may old new = (place : ℕ) (block : Block) → slice_get old place ≡ Some block → IsThere may block (slice_get new place)

-- all that the one may do, the other may do
pub record IsWithin (some all : May) : Type 0 where
  pub moves : some.moves ≡ true → all.moves ≡ true
  pub purges : some.purges ≡ true → all.purges ≡ true
  pub unlocks : some.unlocks ≡ true → all.unlocks ≡ true
  pub marks : some.marks ≡ true → all.marks ≡ true
  pub disposes : some.disposes ≡ true → all.disposes ≡ true

-- ---- one block

-- nothing was done
pub block_refl : (may : May) (block : Block) → BlockSince may block block
block_refl may block =
    record {
      epoch = λ none. refl;
      unpurged = λ none so. so;
      fixed = λ none is. (is, refl, λ so. so);
      revived = λ none so. so;
      purgeable = λ none so. so;
      purged = λ so. inl so;
      disposed = λ none so. so;
    }

purged_then : (may : May) (a b c : Block) → BlockSince may a b → BlockSince may b c → is_purged c.presence ≡ true → MayBePurged may a
purged_then may a b c first second so = later (second.purged so)
  where
    marked : (z : Bool) → may.marks ≡ z → is_marked b ≡ true → (is_marked a ≡ true) ⊎ (may.marks ≡ true)
    marked true is bit = inr is
    marked false is bit = inl (first.purgeable is bit)

    by_bit : (is_marked b ≡ true) ⊎ (may.marks ≡ true) → (is_marked a ≡ true) ⊎ (may.marks ≡ true)
    by_bit (inl bit) = marked may.marks refl bit
    by_bit (inr is) = inr is

    later : MayBePurged may b → MayBePurged may a
    later (inl is) = first.purged is
    later (inr is) = inr (is.0, by_bit is.1)

-- one part after another
pub block_trans : (may : May) (a b c : Block) → BlockSince may a b → BlockSince may b c → BlockSince may a c
block_trans may a b c first second =
    record {
      epoch = λ none. second.epoch none ∙ first.epoch none;
      unpurged = λ none so. first.unpurged none (second.unpurged none so);
      fixed = λ none is. further none (first.fixed none is);
      revived = λ none so. first.revived none (second.revived none so);
      purgeable = λ none so. first.purgeable none (second.purgeable none so);
      purged = λ so. purged_then may a b c first second so;
      disposed = λ none so. second.disposed none (first.disposed none so);
    }
  where
    both : (is_loose b ≡ false) × (b.epoch ≡ a.epoch) × (is_purged b.presence ≡ true → is_purged a.presence ≡ true)
        → (is_loose c ≡ false) × (c.epoch ≡ b.epoch) × (is_purged c.presence ≡ true → is_purged b.presence ≡ true)
        → (is_loose c ≡ false) × (c.epoch ≡ a.epoch) × (is_purged c.presence ≡ true → is_purged a.presence ≡ true)
    both is so = (so.0, so.1 ∙ is.1, λ gone. is.2 (so.2 gone))

    further : may.unlocks ≡ false → (is_loose b ≡ false) × (b.epoch ≡ a.epoch) × (is_purged b.presence ≡ true → is_purged a.presence ≡ true)
        → (is_loose c ≡ false) × (c.epoch ≡ a.epoch) × (is_purged c.presence ≡ true → is_purged a.presence ≡ true)
    further none is = both is (second.fixed none is.0)

-- what more effects lack, fewer lack
lacks : (a b : Bool) → (a ≡ true → b ≡ true) → b ≡ false → a ≡ false
lacks true b is none = absurd (true≢false (sym (is refl) ∙ none))
lacks false b is none = refl

-- with more effects
pub block_more : (some all : May) (a b : Block) → IsWithin some all → BlockSince some a b → BlockSince all a b
block_more some all a b within its =
    record {
      epoch = λ none. its.epoch (lacks some.moves all.moves within.moves none);
      unpurged = λ none so. its.unpurged (lacks some.moves all.moves within.moves none) so;
      fixed = λ none is. its.fixed (lacks some.unlocks all.unlocks within.unlocks none) is;
      revived = λ none so. its.revived (lacks some.unlocks all.unlocks within.unlocks none) so;
      purgeable = λ none so. its.purgeable (lacks some.marks all.marks within.marks none) so;
      purged = λ so. more (its.purged so);
      disposed = λ none so. its.disposed (lacks some.disposes all.disposes within.disposes none) so;
    }
  where
    bit : (is_marked a ≡ true) ⊎ (some.marks ≡ true) → (is_marked a ≡ true) ⊎ (all.marks ≡ true)
    bit (inl is) = inl is
    bit (inr is) = inr (within.marks is)

    more : MayBePurged some a → MayBePurged all a
    more (inl is) = inl is
    more (inr is) = inr (within.purges is.0, bit is.1)

-- ---- all blocks

-- nothing was done
pub since_refl : (may : May) (blocks : List Block) → Since may blocks blocks
since_refl may blocks place block found = record { block = block; there = found; since = block_refl may block }

-- one part after another
pub since_trans : (may : May) (a b c : List Block) → Since may a b → Since may b c → Since may a c
since_trans may a b c first second place block found = further (first place block found)
  where
    both : (is : IsThere may block (slice_get b place)) → IsThere may is.block (slice_get c place) → IsThere may block (slice_get c place)
    both is so = record { block = so.block; there = so.there; since = block_trans may block is.block so.block is.since so.since }

    further : IsThere may block (slice_get b place) → IsThere may block (slice_get c place)
    further is = both is (second place is.block is.there)

-- with more effects
pub since_more : (some all : May) (a b : List Block) → IsWithin some all → Since some a b → Since all a b
since_more some all a b within its place block found = wider (its place block found)
  where
    wider : IsThere some block (slice_get b place) → IsThere all block (slice_get b place)
    wider is = record { block = is.block; there = is.there; since = block_more some all block is.block within is.since }
