-- The still state beside a moving one: the same values and blocks, with no epochs and no decisions to come. What a run
-- reads of a state is in the still one as it is in the moving one, and a shift is not seen there.
use Rattle.std.proofs.Common.{◌≡◌, ℕ, zero, suc, ◌+◌, ◌-◌, ◌==◌, Bool, true, false, not, ◌&&◌, ◌||◌, List, [], ◌∷◌, map, length, fold, Some, Ok, option_map, slice_get, refl, sym, ap, ◌∙◌, subst, if◌then◌else◌, true≢false}
use Rattle.std.proofs.lemmas.List.{map-set}
use Rattle.std.proofs.lemmas.Bool.{and_right, not_from_true}
use Rattle.std.proofs.lemmas.Option.{none-some, same_Some, slice_get-map}
use Rattle.hs_meaning.specs.Straight.Value.{Value, number, nil, handle, spot, byte_of}
use Rattle.hs_heap.specs.Blocks.{Block, standing}
use Rattle.hs_heap.specs.Memory.{block_at, put_block, live_bytes}
use Rattle.hs_heap.specs.Shift.{Powers, is_moved, is_purged, is_named, is_present, is_loose, shifted, shift_from}
use Rattle.hs_meaning.specs.Straight.Run.{State, lookup, next_decision, new_handle_powers}
use Rattle.hs_heap.specs.declared.decision.Decision.{Decision}

-- the value on the heap that never moves
abbrev pub still_value : Value → Value
still_value (number n) = number n
still_value nil = nil
still_value (handle block) = handle block
still_value (spot s) = spot (record s { epoch = 0 })

-- the entry of a variable, with the still value
abbrev pub still_entry : ℕ × Value → ℕ × Value
still_entry entry = (entry.0, still_value entry.1)

-- the block, never moved
abbrev pub still_block : Block → Block
still_block block = record block { epoch = 0 }

-- the state on the heap that never moves
abbrev pub still : State → State
still state = record state { variables = map still_entry state.variables; heap = map still_block state.heap; schedule = [] }

-- each item has P
abbrev pub Each : {A : Type 0} → (A → Type 0) → List A → Type 0
Each P [] = Unit {0}
Each P (x ∷ xs) = P x × Each P xs

-- a block that a straight program can have: present, and not purgeable
pub record IsPlain (block : Block) : Type 0 where
  pub is_present : standing block.presence ≡ Ok true
  pub is_kept : block.purgeable ≡ false

-- no pointer has a byte, so the still value has the byte of the value
pub byte_of-still : (value : Value) → byte_of (still_value value) ≡ byte_of value
byte_of-still (number n) = refl
byte_of-still nil = refl
byte_of-still (handle block) = refl
byte_of-still (spot s) = refl

-- a variable has the still value of what it has in the moving state
pub lookup-still : (entries : List (ℕ × Value)) (variable : ℕ) → lookup (map still_entry entries) variable ≡ option_map still_value (lookup entries variable)
lookup-still [] variable = refl
lookup-still (entry ∷ entries) variable = go (lookup-still entries variable) (entry.0 == variable)
  where
    go : lookup (map still_entry entries) variable ≡ option_map still_value (lookup entries variable) → (found : Bool)
        → (if found then Some (still_value entry.1) else lookup (map still_entry entries) variable)
        ≡ option_map still_value (if found then Some entry.1 else lookup entries variable)
    go before true = refl
    go before false = before

-- a block of the still heap is the still block of the heap
pub block_at-still : (heap : List Block) (n : ℕ) → block_at (map still_block heap) n ≡ option_map still_block (block_at heap n)
block_at-still heap zero = refl
block_at-still heap (suc place) = slice_get-map still_block heap place

-- to put a block and then to still the heap is to put the still block
pub put_block-still : (heap : List Block) (n : ℕ) (block : Block)
    → put_block (map still_block heap) n (still_block block) ≡ map still_block (put_block heap n block)
put_block-still heap n block = sym (map-set still_block heap (n - 1) block)

-- a sum of what stilling keeps is kept
fold-still : (heap : List Block) (before : ℕ)
    → fold (λ total block. total + length block.cells) before (map still_block heap)
    ≡ fold (λ total block. total + length block.cells) before heap
fold-still [] before = refl
fold-still (block ∷ blocks) before = fold-still blocks (before + length block.cells)

-- the still heap has as many live bytes
pub live_bytes-still : (heap : List Block) → live_bytes (map still_block heap) ≡ live_bytes heap
live_bytes-still heap = fold-still heap 0

-- what a shift leaves of a plain block
pub record IsShifted (block after : Block) : Type 0 where
  pub same_lock : after.locked ≡ block.locked
  pub same_epoch : block.locked ≡ true → after.epoch ≡ block.epoch
  pub is_plain : IsPlain after
  pub same_still : still_block after ≡ still_block block

-- a block that is not purgeable is not purged, and one that is locked is not moved
pub shifted-plain : (powers : Powers) (decision : Decision) (n : ℕ) (block : Block) → IsPlain block → IsShifted block (shifted powers decision n block)
shifted-plain powers decision n block plain = rw not_purged (go (is_moved powers decision n block) refl)
  where
    not_purged : is_purged powers decision n block ≡ false
    not_purged = and_right (powers.purges && is_named decision.purges n && is_loose block) block.purgeable plain.is_kept

    not_moved : block.locked ≡ true → is_moved powers decision n block ≡ false
    not_moved locked =
        and_right ((powers.moves || powers.purges) && is_named decision.moves n) (is_loose block)
        (and_right (is_present block.presence) (not block.locked) (not_from_true block.locked locked))

    go : (moved : Bool) → is_moved powers decision n block ≡ moved → IsShifted block (if moved then record block { epoch = block.epoch + 1 } else block)
    go true is_moved_here = record {
      same_lock = refl;
      same_epoch = λ locked. absurd (true≢false (sym is_moved_here ∙ not_moved locked));
      is_plain = record { is_present = plain.is_present; is_kept = plain.is_kept };
      same_still = refl;
    }
    go false stays = record { same_lock = refl; same_epoch = λ locked. refl; is_plain = plain; same_still = refl }

-- the shift of a plain heap is not seen when the heap is still
pub shift_from-still : (powers : Powers) (decision : Decision) (n : ℕ) (heap : List Block) → Each IsPlain heap
    → map still_block (shift_from powers decision n heap) ≡ map still_block heap
shift_from-still powers decision n [] plain = refl
shift_from-still powers decision n (block ∷ blocks) plain =
    rw ((shifted-plain powers decision n block plain.0).same_still, shift_from-still powers decision (suc n) blocks plain.1) refl

-- the blocks of a shifted heap are plain
pub shift_from-plain : (powers : Powers) (decision : Decision) (n : ℕ) (heap : List Block) → Each IsPlain heap
    → Each IsPlain (shift_from powers decision n heap)
shift_from-plain powers decision n [] plain = tt
shift_from-plain powers decision n (block ∷ blocks) plain =
    ((shifted-plain powers decision n block plain.0).is_plain, shift_from-plain powers decision (suc n) blocks plain.1)

-- a shift has as many blocks
pub length-shift_from : (powers : Powers) (decision : Decision) (n : ℕ) (heap : List Block) → length (shift_from powers decision n heap) ≡ length heap
length-shift_from powers decision n [] = refl
length-shift_from powers decision n (block ∷ blocks) = ap suc (length-shift_from powers decision (suc n) blocks)

-- each block is there after a shift, as the shift leaves it
pub slice_get-shift_from : (powers : Powers) (decision : Decision) (n : ℕ) (heap : List Block) → Each IsPlain heap
    → (place : ℕ) (block : Block) → slice_get heap place ≡ Some block
    → (after : Block) × (slice_get (shift_from powers decision n heap) place ≡ Some after) × IsShifted block after
slice_get-shift_from powers decision n [] plain place block found = absurd (none-some block found)
slice_get-shift_from powers decision n (first ∷ blocks) plain zero block found = (
  shifted powers decision n first,
  refl,
  subst (λ (b : Block). IsShifted b (shifted powers decision n first)) (same_Some first block found)
      (shifted-plain powers decision n first plain.0),
)
slice_get-shift_from powers decision n (first ∷ blocks) plain (suc place) block found =
    slice_get-shift_from powers decision (suc n) blocks plain.1 place block found

-- if nothing is named, the shift changes nothing
pub shift_from-nothing : (n : ℕ) (heap : List Block) → shift_from new_handle_powers (next_decision []) n heap ≡ heap
shift_from-nothing n [] = refl
shift_from-nothing n (block ∷ blocks) = ap (λ (rest : List Block). block ∷ rest) (shift_from-nothing (suc n) blocks)

-- a block of a plain heap is plain
pub slice_get-plain : (heap : List Block) → Each IsPlain heap → (place : ℕ) (block : Block) → slice_get heap place ≡ Some block → IsPlain block
slice_get-plain [] plain place block found = absurd (none-some block found)
slice_get-plain (first ∷ blocks) plain zero block found = subst IsPlain (same_Some first block found) plain.0
slice_get-plain (first ∷ blocks) plain (suc place) block found = slice_get-plain blocks plain.1 place block found

-- the same by its number
pub block_at-plain : (heap : List Block) → Each IsPlain heap → (n : ℕ) (block : Block) → block_at heap n ≡ Some block → IsPlain block
block_at-plain heap plain zero block found = absurd (none-some block found)
block_at-plain heap plain (suc place) block found = slice_get-plain heap plain place block found
