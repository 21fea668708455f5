-- Blocks of a heap by their numbers: after one is put instead of another, and after one is added.
use Rattle.std.proofs.Common.{◌≡◌, ℕ, zero, suc, ◌+◌, ◌-◌, ◌<◌, ◌≤◌, List, [], ◌∷◌, ◌++◌, length, ◌⊎◌, inl, inr, Option, Some, slice_get, slice_set, refl, sym, ap, ◌∙◌, arith, suc-ne-zero}
use Rattle.std.proofs.lemmas.Option.{none-some, same_Some, slice_get_within}
use native.Mathlib.Numerals.{unary_clauses}
use Rattle.hs_heap.specs.Blocks.{Block}
use Rattle.hs_heap.specs.Memory.{block_at, put_block}
use Rattle.hs_meaning.proofs.Runs.Still.{Each, IsPlain}

-- a block that is found twice is one
pub same_block : (found : Option Block) (block later : Block) → found ≡ Some block → found ≡ Some later → later ≡ block
same_block found block later one two = sym (same_Some block later (sym one ∙ two))

-- and has one lock
pub same_lock : (found : Option Block) (block later : Block) → found ≡ Some block → found ≡ Some later → later.locked ≡ block.locked
same_lock found block later one two = ap (λ (b : Block). b.locked) (same_block found block later one two)

-- what is found of a block after a put: the new one at the place, and elsewhere the block
abbrev pub IsFoundAfter : ℕ → Block → ℕ → Block → Option Block → Type 0
IsFoundAfter place new other block found = ((other ≡ place) × (found ≡ Some new)) ⊎ ((other ≡ place → ⊥) × (found ≡ Some block))

-- the same one number up
found_after-suc : (place : ℕ) (new : Block) (other : ℕ) (block : Block) (found : Option Block)
    → IsFoundAfter place new other block found → IsFoundAfter (suc place) new (suc other) block found
found_after-suc place new other block found (inl at) = inl (ap suc at.0, at.1)
found_after-suc place new other block found (inr at) = inr (λ same. at.0 (cc), at.1)

-- by induction on the heap
slice_get-put : (heap : List Block) (place : ℕ) (new : Block) (other : ℕ) (block : Block) → slice_get heap other ≡ Some block
    → IsFoundAfter place new other block (slice_get (slice_set heap place new) other)
slice_get-put [] place new other block found = absurd (none-some block found)
slice_get-put (first ∷ blocks) zero new zero block found = inl (refl, refl)
slice_get-put (first ∷ blocks) zero new (suc other) block found = inr (λ same. suc-ne-zero other same, found)
slice_get-put (first ∷ blocks) (suc place) new zero block found = inr (λ same. suc-ne-zero place (sym same), found)
slice_get-put (first ∷ blocks) (suc place) new (suc other) block found =
    found_after-suc place new other block (slice_get (slice_set blocks place new) other) (slice_get-put blocks place new other block found)

-- a block that is put is found at its number, and the other blocks at theirs
pub block_at-put : (heap : List Block) (place : ℕ) (old new : Block) (named : ℕ) (block : Block) → block_at heap place ≡ Some old
    → block_at heap named ≡ Some block → IsFoundAfter place new named block (block_at (put_block heap place new) named)
block_at-put heap place old new zero block there found = absurd (none-some block found)
block_at-put heap zero old new (suc named) block there found = absurd (none-some old there)
block_at-put heap (suc place) old new (suc named) block there found =
    simp unary_clauses
    (found_after-suc place new named block (slice_get (slice_set heap place new) named) (slice_get-put heap place new named block found))

-- a plain block put into a plain list leaves it plain
slice_set-plain : (heap : List Block) (place : ℕ) (new : Block) → Each IsPlain heap → IsPlain new → Each IsPlain (slice_set heap place new)
slice_set-plain [] place new plain is_new = tt
slice_set-plain (first ∷ blocks) zero new plain is_new = (is_new, plain.1)
slice_set-plain (first ∷ blocks) (suc place) new plain is_new = (plain.0, slice_set-plain blocks place new plain.1 is_new)

-- the same of a heap
pub put_block-plain : (heap : List Block) (place : ℕ) (new : Block) → Each IsPlain heap → IsPlain new → Each IsPlain (put_block heap place new)
put_block-plain heap place new plain is_new = slice_set-plain heap (place - 1) new plain is_new

-- a block's number is at most the number of blocks
pub block_at-within : (heap : List Block) (named : ℕ) (block : Block) → block_at heap named ≡ Some block → named ≤ length heap
block_at-within heap zero block found = absurd (none-some block found)
block_at-within heap (suc place) block found = let within : place < length heap = slice_get_within heap place block found in omega arith

-- plain blocks after plain blocks
pub append-plain : (heap added : List Block) → Each IsPlain heap → Each IsPlain added → Each IsPlain (heap ++ added)
append-plain [] added plain added_plain = added_plain
append-plain (first ∷ blocks) added plain added_plain = (plain.0, append-plain blocks added plain.1 added_plain)
