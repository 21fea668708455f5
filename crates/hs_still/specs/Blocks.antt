-- What a role of the heap does to a block that is not purged: the same on the still machine.
--     still_result f its         what it gives, mapped
--     IsStill f role             the law of a role
--     lock_still, .., reallocated_still, size_of_still, state_of_still
use Rattle.std.proofs.Common.{◌≡◌, ℕ, zero, suc, ◌+◌, ◌-◌, ◌==◌, Bool, true, false, [], ◌∷◌, ◌++◌, take, length, replicate, Result, Ok, Err, refl, sym, ap, ◌∙◌, if◌then◌else◌}
use Rattle.std.proofs.lemmas.List.{take-map, length-map, map-append}
use Rattle.hs_heap.specs.Blocks.{Block, new_block, standing, by_standing, changed, with_lock, with_purge_bit, with_state, without_cells, last_life, emptied, ended, disposed, bit, size_of, state_of, resized, renewed, reallocated}
use Rattle.hs_heap.specs.declared.cell.Cell.TheVariants.{Undefined}
use Rattle.hs_heap.specs.declared.presence.Presence.{Presence}
use Rattle.hs_heap.specs.declared.presence.Presence.TheVariants.{Present, Emptied, Purged, Disposed}
use Rattle.hs_heap.specs.declared.stop.HeapStop.{HeapStop}
use Rattle.hs_sound_heap.specs.Since.{is_purged}
use Rattle.hs_still.specs.Machines.{still_cell, still_cells, unpurged, still_block}

-- what a role gives, mapped
abbrev pub still_result : {A : Type 0} → (A → A) → Result A HeapStop → Result A HeapStop
still_result f (Ok it) = Ok (f it)
still_result f (Err why) = Err why

-- a role gives the same of a still block
abbrev pub IsStill : {A : Type 0} → (A → A) → (Block → Result A HeapStop) → Type 0
IsStill f role = (block : Block) → is_purged block.presence ≡ false → role (still_block block) ≡ still_result f (role block)

-- a number has no epoch
abbrev pub same_number : ℕ → ℕ
same_number n = n

-- ---- blocks

standing_still : (it : Presence) → is_purged it ≡ false → standing (unpurged it) ≡ standing it
standing_still Present is = refl
standing_still Emptied is = refl
standing_still Purged is = absurd cc
standing_still Disposed is = refl

by_standing_still : {A : Type 0} → (f : A → A) (here gone : A) (stands : Result Bool HeapStop)
    → by_standing (f here) (f gone) stands ≡ still_result f (by_standing here gone stands)
by_standing_still f here gone (Ok true) = refl
by_standing_still f here gone (Ok false) = refl
by_standing_still f here gone (Err why) = refl

-- a role that gives one thing of a present block, and another of an emptied one
role_still : {A : Type 0} → (f : A → A) (here gone still : A) (block : Block) → still ≡ f here → is_purged block.presence ≡ false
    → by_standing still (f gone) (standing (unpurged block.presence)) ≡ still_result f (by_standing here gone (standing block.presence))
role_still f here gone still block same is =
    ap (λ it. by_standing it (f gone) (standing (unpurged block.presence))) same
    ∙ ap (by_standing (f here) (f gone)) (standing_still block.presence is) ∙ by_standing_still f here gone (standing block.presence)

changed_still : (change : Block → Block) (block : Block) → change (still_block block) ≡ still_block (change block) → is_purged block.presence ≡ false
    → changed change (still_block block) ≡ still_result still_block (changed change block)
changed_still change block same is = role_still still_block (change block) block (change (still_block block)) block same is

either_still : (b : Bool) (first second still other : Result Block HeapStop) → still ≡ still_result still_block first
    → other ≡ still_result still_block second
    → (if b then still else other) ≡ still_result still_block (if b then first else second)
either_still true first second still other is so = is
either_still false first second still other is so = so

-- ---- cells

-- cells without values have no epochs
pub undefined_cells : (n : ℕ) → still_cells (replicate n Undefined) ≡ replicate n Undefined
undefined_cells zero = refl
undefined_cells (suc n) = ap (λ cells. Undefined ∷ cells) (undefined_cells n)

-- a block that was just made
pub new_block_still : (size : ℕ) → still_block (new_block size) ≡ new_block size
new_block_still size = ap (λ cells. record (new_block size) { cells = cells }) (undefined_cells size)

-- ---- roles

-- HLock and HUnlock
pub lock_still : (on : Bool) → IsStill still_block (with_lock on)
lock_still on block is = changed_still (λ b. record b { locked = on }) block refl is

-- HPurge and HNoPurge
pub purge_still : (on : Bool) → IsStill still_block (with_purge_bit on)
purge_still on block is = changed_still (λ b. record b { purgeable = on }) block refl is

-- HSetState
pub state_still : (byte : ℕ) → IsStill still_block (with_state byte)
state_still byte block is = role_still still_block _ block _ block refl is

without_still : (block : Block) → without_cells (still_block block) ≡ still_block (without_cells block)
without_still block = by_test block.locked
  where
    by_test : (z : Bool)
        → (if z then still_block block else record (still_block block) { cells = []; life = block.life + 1; presence = Emptied })
        ≡ still_block (if z then block else record block { cells = []; life = block.life + 1; presence = Emptied })
    by_test true = refl
    by_test false = refl

-- EmptyHandle
pub emptied_still : IsStill still_block emptied
emptied_still block is =
    either_still (block.life == last_life) (changed (λ b. b) block) (changed without_cells block) (changed (λ b. b) (still_block block))
    (changed without_cells (still_block block)) (changed_still (λ b. b) block refl is) (changed_still without_cells block (without_still block) is)

-- DisposeHandle
pub disposed_role_still : IsStill still_block disposed
disposed_role_still block is = role_still still_block (ended block) (ended block) (ended (still_block block)) block refl is

-- SetHandleSize
pub resized_still : (size : ℕ) → IsStill still_block (resized size)
resized_still size block is =
    changed_still (λ b. record b { cells = take size b.cells ++ replicate (size - length b.cells) Undefined }) block
    (ap (λ cells. record (still_block block) { cells = cells }) same) is
  where
    same : take size (still_cells block.cells) ++ replicate (size - length (still_cells block.cells)) Undefined
        ≡ still_cells (take size block.cells ++ replicate (size - length block.cells) Undefined)
    same =
        ap (λ front. front ++ replicate (size - length (still_cells block.cells)) Undefined) (take-map still_cell size block.cells)
        ∙ ap (λ n. still_cells (take size block.cells) ++ replicate (size - n) Undefined) (length-map block.cells still_cell)
        ∙ ap (λ rest. still_cells (take size block.cells) ++ rest) (sym (undefined_cells (size - length block.cells)))
        ∙ sym (map-append still_cell (take size block.cells) (replicate (size - length block.cells) Undefined))

-- ReallocateHandle
pub reallocated_still : (size : ℕ) → IsStill still_block (reallocated size)
reallocated_still size block is =
    either_still block.locked (changed (λ b. b) block) (by_standing (renewed size block) (renewed size block) (standing block.presence))
    (changed (λ b. b) (still_block block))
    (by_standing (renewed size (still_block block)) (renewed size (still_block block)) (standing (unpurged block.presence)))
    (changed_still (λ b. b) block refl is)
    (ap (λ it. by_standing it it (standing (unpurged block.presence))) same
    ∙ role_still still_block (renewed size block) (renewed size block) (still_block (renewed size block)) block refl is)
  where
    same : renewed size (still_block block) ≡ still_block (renewed size block)
    same = ap (λ cells. record (still_block (renewed size block)) { cells = cells }) (sym (undefined_cells size))

-- GetHandleSize
pub size_of_still : IsStill same_number size_of
size_of_still block is =
    role_still same_number (length block.cells) 0 (length (still_cells block.cells)) block (length-map block.cells still_cell) is

-- HGetState
pub state_of_still : IsStill same_number state_of
state_of_still block is =
    role_still same_number (bit 128 block.locked + bit 64 block.purgeable) 0 (bit 128 block.locked + bit 64 block.purgeable) block refl is
