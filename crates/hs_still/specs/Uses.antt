-- Pointers that are not stale, and handles that are not purged, and where uses through them begin.
--     Current its machine        a pointer into a block is not stale, and its block is not purged
--     Unpurged its machine       the block of a handle is not purged
--     Used its machine           both
--     current_there, unpurged_there      of a block that is there
--     unless_still               what an operation comes to, by its stops
--     use_stops_still            why cells are not reached through a pointer
--     block_at_still             the block of a number
use Rattle.std.proofs.Common.{◌≡◌, ℤ, ℕ, zero, suc, ◌==◌, true, false, not, List, [], ◌∷◌, map, slice_get, Option, Some, None, option_map, refl, ap, ◌∙◌, arith, subst, sym}
use Rattle.std.proofs.lemmas.Bool.Decides.{nat_tests}
use Rattle.std.proofs.lemmas.List.{length-map}
use Rattle.std.proofs.lemmas.Option.{slice_get-map}
use Rattle.hs_heap.specs.Blocks.{Block, is_disposed, place_for, reach}
use Rattle.hs_heap.specs.Memory.{block_at}
use Rattle.hs_heap.specs.declared.cell.Pointer.{Pointer}
use Rattle.hs_heap.specs.declared.cell.Pointer.TheVariants.{Nil, Fixed, Handle, Spot}
use Rattle.hs_heap.specs.declared.cell.Spot as spot
use Rattle.hs_heap.specs.declared.presence.Presence.{Presence}
use Rattle.hs_heap.specs.declared.presence.Presence.TheVariants.{Present, Emptied, Purged, Disposed}
use Rattle.hs_meaning.specs.Accesses.{is_inside, object_stops, block_stops, use_stops, by_stop, unless_stopped}
use Rattle.hs_meaning.specs.Machine.{Machine, Object, has_ended}
use Rattle.hs_meaning.specs.Stops.{Stops, stops_if, first_stop, heap_stop}
use Rattle.hs_meaning.specs.Values.{unmoved}
use Rattle.hs_meaning.specs.declared.outcome.Stop.{Stop}
use Rattle.hs_meaning.specs.declared.outcome.Stop.TheVariants as stop
use Rattle.hs_sound_heap.specs.Since.{is_purged}
use Rattle.hs_still.specs.Machines.{still_cell, unpurged, still_block, still_object, still_machine, still_done}

-- ---- the premise

-- it has the epoch of its block, if there is such a block
abbrev pub CurrentIn : spot.Spot → Option Block → Type 0
CurrentIn its None = Unit {0}
CurrentIn its (Some block) = (its.epoch ≡ block.epoch) × (is_purged block.presence ≡ false)

-- of the block of a handle, if there is one
abbrev pub UnpurgedIn : Option Block → Type 0
UnpurgedIn None = Unit {0}
UnpurgedIn (Some block) = is_purged block.presence ≡ false

-- Nothing is asked of a pointer that does not point into a block.
abbrev pub Current : Pointer → Machine → Type 0
Current Nil machine = Unit {0}
Current (Fixed object at) machine = Unit {0}
Current (Handle block) machine = Unit {0}
Current (Spot its) machine = CurrentIn its (block_at machine.blocks its.block)

-- Nothing is asked of a pointer that is no handle.
abbrev pub Unpurged : Pointer → Machine → Type 0
Unpurged Nil machine = Unit {0}
Unpurged (Fixed object at) machine = Unit {0}
Unpurged (Handle block) machine = UnpurgedIn (block_at machine.blocks block)
Unpurged (Spot its) machine = Unit {0}

-- neither stale nor purged
abbrev pub Used : Pointer → Machine → Type 0
Used its machine = Current its machine × Unpurged its machine

-- a pointer into a block that is there is current if it has the epoch of the block, and the block is not purged
pub current_there : (its : spot.Spot) (machine : Machine) (block : Block) → block_at machine.blocks its.block ≡ Some block
    → its.epoch ≡ block.epoch → is_purged block.presence ≡ false → Current (Spot its) machine
current_there its machine block there epoch alive = subst (CurrentIn its) (sym there) (epoch, alive)

-- the handle of a block that is there and is not purged
pub unpurged_there : (n : ℕ) (machine : Machine) (block : Block) → block_at machine.blocks n ≡ Some block → is_purged block.presence ≡ false
    → Unpurged (Handle n) machine
unpurged_there n machine block there alive = subst UnpurgedIn (sym there) alive

-- ---- what an operation comes to

by_stop_still : {A : Type 0} → (f : A → A) (why : Option Stop) (it : A) (after before : Machine)
    → by_stop why (f it) (still_machine after) (still_machine before) ≡ still_done f (by_stop why it after before)
by_stop_still f None it after before = refl
by_stop_still f (Some why) it after before = refl

-- with the same stops, the same value but for epochs, and the still machine of the machine after it
pub unless_still : {A : Type 0} → (f : A → A) (stops theirs : Stops) (it its : A) (after still before : Machine) → theirs ≡ stops → its ≡ f it
    → still ≡ still_machine after
    → unless_stopped theirs its still (still_machine before) ≡ still_done f (unless_stopped stops it after before)
unless_still f stops theirs it its after still before same value machine =
    ap (λ ss. unless_stopped ss its still (still_machine before)) same
    ∙ ap (λ v. unless_stopped stops v still (still_machine before)) value
    ∙ ap (λ m. unless_stopped stops (f it) m (still_machine before)) machine
    ∙ by_stop_still f (first_stop stops) it after before

-- ---- blocks and objects

-- the block of a number
pub block_at_still : (blocks : List Block) (n : ℕ) → block_at (map still_block blocks) n ≡ option_map still_block (block_at blocks n)
block_at_still blocks zero = refl
block_at_still blocks (suc n) = slice_get-map still_block blocks n

-- whether it is disposed
pub disposed_still : (it : Presence) → is_disposed (unpurged it) ≡ is_disposed it
disposed_still Present = refl
disposed_still Emptied = refl
disposed_still Purged = refl
disposed_still Disposed = refl

-- a current pointer is tested with the epochs of both machines
pub same_epoch : (its : spot.Spot) (block : Block) → its.epoch ≡ block.epoch → (its.epoch == block.epoch) ≡ true
same_epoch its block current = grind (current, nat_tests, arith)

place_still : (its : spot.Spot) (count : ℕ) (block : Block) → its.epoch ≡ block.epoch → is_purged block.presence ≡ false
    → place_for (record its { epoch = 0 }) count (still_block block) ≡ place_for its count block
place_still its count block current alive =
    rw (disposed_still block.presence, same_epoch its block current, reach_still block.presence alive) refl
  where
    reach_still : (it : Presence) → is_purged it ≡ false → reach (unpurged it) (map still_cell block.cells) ≡ reach it block.cells
    reach_still Present is = length-map block.cells still_cell
    reach_still Emptied is = length-map block.cells still_cell
    reach_still Purged is = absurd cc
    reach_still Disposed is = length-map block.cells still_cell

block_stops_still : (its : spot.Spot) (count : ℕ) (b : Option Block) → CurrentIn its b
    → block_stops (record its { epoch = 0 }) count (option_map still_block b) ≡ block_stops its count b
block_stops_still its count None used = refl
block_stops_still its count (Some block) used = ap (λ r. heap_stop r ∷ []) (place_still its count block used.0 used.1)

object_stops_still : (at : ℤ) (count : ℕ) (b : Option Object) → object_stops at count (option_map still_object b) ≡ object_stops at count b
object_stops_still at count None = refl
object_stops_still at count (Some its) =
    ap (λ size. stops_if (has_ended its.storage) stop.Gone ∷ stops_if (not (is_inside at count size)) stop.Range ∷ []) (length-map its.cells still_cell)

-- why so many cells are not reached
pub use_stops_still : (its : Pointer) (count : ℕ) (machine : Machine) → Current its machine
    → use_stops (unmoved its) count (still_machine machine) ≡ use_stops its count machine
use_stops_still Nil count machine used = refl
use_stops_still (Fixed object at) count machine used =
    ap (object_stops at count) (slice_get-map still_object machine.objects object) ∙ object_stops_still at count (slice_get machine.objects object)
use_stops_still (Handle block) count machine used = refl
use_stops_still (Spot its) count machine used =
    ap (block_stops (record its { epoch = 0 }) count) (block_at_still machine.blocks its.block)
    ∙ block_stops_still its count (block_at machine.blocks its.block) used
