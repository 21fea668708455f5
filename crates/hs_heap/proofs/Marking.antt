-- What the heap keeps of its shifts: one block that changes, one block more, and marks that grow with the blocks.
use Rattle.std.proofs.Common.{◌≡◌, ◌≤◌, ◌<◌, ℕ, zero, suc, List, [], ◌∷◌, ◌++◌, length, Some, sym, ap, subst, ◌∙◌, refl, slice_get, slice_set, get_or, take, arith}
use Rattle.std.specs.Prelude.{replicate}
use Rattle.std.proofs.lemmas.List.{length-set}
use Rattle.std.proofs.lemmas.Option.{none-some, same_Some}
use Rattle.hs_heap.specs.Blocks.{Block, StaysDisposed}
use Rattle.hs_heap.specs.Memory.{IsKept, IsMarked, IsListed}
use Rattle.hs_heap.proofs.Counting.{kept_same}
use Rattle.hs_heap.proofs.Listing.{listed_set}

-- each block has an epoch of at most that number
abbrev pub AreBelow : List Block → ℕ → Type 0
AreBelow blocks shifts = (place : ℕ) (block : Block) → slice_get blocks place ≡ Some block → block.epoch ≤ shifts

-- one block that keeps its epoch
below_set : (blocks : List Block) (place shifts : ℕ) (old other new : Block) → old ≡ get_or blocks place other → new.epoch ≡ old.epoch
    → AreBelow blocks shifts → AreBelow (slice_set blocks place new) shifts
below_set [] place shifts old other new is same below at block found = absurd (none-some block found)
below_set (first ∷ blocks) zero shifts old other new is same below zero block found =
    subst (λ (it : Block). it.epoch ≤ shifts) (same_Some new block found)
    (subst (λ n. n ≤ shifts) (sym (same ∙ ap {A = Block} (λ it. it.epoch) is)) (below zero first refl))
below_set (first ∷ blocks) zero shifts old other new is same below (suc at) block found = below (suc at) block found
below_set (first ∷ blocks) (suc place) shifts old other new is same below zero block found = below zero block found
below_set (first ∷ blocks) (suc place) shifts old other new is same below (suc at) block found =
    below_set blocks place shifts old other new is same (λ there. below (suc there)) at block found

-- one block more
below_push : (blocks : List Block) (shifts : ℕ) (new : Block) → new.epoch ≤ shifts → AreBelow blocks shifts → AreBelow (blocks ++ new ∷ []) shifts
below_push [] shifts new low below zero block found = subst (λ (it : Block). it.epoch ≤ shifts) (same_Some new block found) low
below_push [] shifts new low below (suc at) block found = absurd (none-some block found)
below_push (first ∷ blocks) shifts new low below zero block found = below zero block found
below_push (first ∷ blocks) shifts new low below (suc at) block found = below_push blocks shifts new low (λ there. below (suc there)) at block found

-- a block that changes and keeps its epoch
pub marked_set : (blocks : List Block) (marks : List ℕ) (shifts place : ℕ) (old other new : Block) → IsMarked blocks marks shifts
    → old ≡ get_or blocks place other → new.epoch ≡ old.epoch → IsMarked (slice_set blocks place new) marks shifts
marked_set blocks marks shifts place old other new marked is same =
    record {
      long = subst (λ n. n ≤ length marks) (sym (length-set blocks place new)) marked.long;
      past = marked.past;
      epochs = below_set blocks place shifts old other new is same marked.epochs;
    }

-- a block that changes, keeps its epoch and how many cells it has, and is disposed if it was
pub stays : (blocks : List Block) (marks listed : List ℕ) (live shifts place : ℕ) (old other new : Block)
    → IsKept blocks live × IsMarked blocks marks shifts × IsListed blocks listed → place < length blocks → old ≡ get_or blocks place other
    → length new.cells ≡ length old.cells → new.epoch ≡ old.epoch → StaysDisposed old new
    → IsKept (slice_set blocks place new) live × IsMarked (slice_set blocks place new) marks shifts × IsListed (slice_set blocks place new) listed
stays blocks marks listed live shifts place old other new kept there is as_large same disposed = (
  kept_same blocks live place old other kept.0 there is new as_large,
  marked_set blocks marks shifts place old other new kept.1 is same,
  listed_set blocks listed place old other new kept.2 is disposed,
)

-- zeros are marks of no shift
no_mark : (count place shifts : ℕ) → get_or (replicate count 0) place 0 ≤ shifts
no_mark zero place shifts = omega arith
no_mark (suc count) zero shifts = omega arith
no_mark (suc count) (suc place) shifts = no_mark count place shifts

-- marks that are cut, or grow by marks of no shift
pub past_resized : (marks : List ℕ) (count more shifts : ℕ) → ((place : ℕ) → get_or marks place 0 ≤ shifts)
    → (place : ℕ) → get_or (take count marks ++ replicate more 0) place 0 ≤ shifts
past_resized marks zero more shifts past place = no_mark more place shifts
past_resized [] (suc count) more shifts past place = no_mark more place shifts
past_resized (mark ∷ marks) (suc count) more shifts past zero = past zero
past_resized (mark ∷ marks) (suc count) more shifts past (suc place) = past_resized marks count more shifts (λ at. past (suc at)) place

-- one block more, of no epoch
pub marked_push : (blocks rows : List Block) (marks longer : List ℕ) (shifts count more : ℕ) (new : Block) → IsMarked blocks marks shifts
    → new.epoch ≡ 0 → longer ≡ take count marks ++ replicate more 0 → length rows ≤ length longer → rows ≡ blocks ++ new ∷ []
    → IsMarked rows longer shifts
marked_push blocks rows marks longer shifts count more new marked none_yet is long pushed =
    record {
      long = long;
      past = λ place. subst (λ its. get_or its place 0 ≤ shifts) (sym is) (past_resized marks count more shifts marked.past place);
      epochs = subst (λ its. AreBelow its shifts) (sym pushed) (below_push blocks shifts new (omega (arith, none_yet)) marked.epochs);
    }
