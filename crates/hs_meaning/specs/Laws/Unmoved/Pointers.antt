-- Operations on pointers on a heap that never moves.
--     current_fine                        a pointer that is compared or subtracted, or is an argument
--     compare_fine, difference_fine       why two pointers are not compared, or have no difference
--     moved_fine, moved_unmoved           why a pointer does not go on, and where it is then
use Rattle.std.proofs.Common.{◌≡◌, ℤ, ◌+ℤ◌, ◌==◌, Bool, true, false, not, ◌&&◌, Option, Some, None, refl, true≢false, if◌then◌else◌}
use Rattle.hs_heap.specs.Blocks.{Block, is_disposed}
use Rattle.hs_heap.specs.Memory.{block_at}
use Rattle.hs_heap.specs.declared.cell.Pointer.{Pointer}
use Rattle.hs_heap.specs.declared.cell.Pointer.TheVariants.{Nil, Fixed, Handle, Spot}
use Rattle.hs_heap.specs.declared.cell.Spot as spot
use Rattle.hs_meaning.specs.Laws.Unmoved.{IsUnmovedPointer, IsUnmovedBlock, IsStillMachine}
use Rattle.hs_meaning.specs.Laws.Unmoved.Accesses.{block_there, epochs_agree}
use Rattle.hs_meaning.specs.Laws.Unmoved.Fine.{IsFine, AreFine, if_fine}
use Rattle.hs_meaning.specs.Laws.Unmoved.Lists.{IfThere}
use Rattle.hs_meaning.specs.Machine.{Machine}
use Rattle.hs_meaning.specs.Pointers.{current_in, current_stop, offsets_of, are_apart, orders, compare_stops, difference_stops, is_near, moved_stop, moved_by}
use Rattle.hs_meaning.specs.declared.outcome.Stop.TheVariants as stop
use Rattle.hs_tree.specs.declared.operators.Comparison.{Comparison}

-- of the tests of a pointer, the one of the epoch says nothing
tests_fine : (disposed old stale : Bool) → stale ≡ false
    → IsFine (if disposed then Some stop.Disposed else if old then Some stop.Old else if stale then Some stop.Stale else None)
tests_fine true old stale current = λ is. is
tests_fine false true stale current = λ is. is
tests_fine false false true current = absurd (true≢false current)
tests_fine false false false current = tt

current_in_fine : (its : spot.Spot) (block : Option Block) → its.epoch ≡ 0 → IfThere IsUnmovedBlock block → IsFine (current_in its block)
current_in_fine its None is unmoved = λ is. is
current_in_fine its (Some block) is unmoved =
    tests_fine (is_disposed block.presence) (not (its.life == block.life)) (not (its.epoch == block.epoch))
    (epochs_agree its.epoch block.epoch is unmoved.epoch)

-- why a pointer is no more one
pub current_fine : (its : Pointer) (machine : Machine) → IsUnmovedPointer its → IsStillMachine machine → IsFine (current_stop its machine)
current_fine Nil machine is still = tt
current_fine (Fixed object at) machine is still = tt
current_fine (Handle block) machine is still = tt
current_fine (Spot its) machine is still =
    current_in_fine its (block_at machine.blocks its.block) is (block_there machine.blocks its.block still.blocks)

-- why two pointers are not compared
pub compare_fine : (operator : Comparison) (a b : Pointer) (machine : Machine) → IsUnmovedPointer a → IsUnmovedPointer b → IsStillMachine machine
    → AreFine (compare_stops operator a b machine)
compare_fine operator a b machine is so still = (
  current_fine a machine is still,
  (current_fine b machine so still, (if_fine (orders operator && are_apart (offsets_of a b)) stop.BadPointer (λ is. is), tt)),
)

-- or have no difference
pub difference_fine : (a b : Pointer) (machine : Machine) → IsUnmovedPointer a → IsUnmovedPointer b → IsStillMachine machine
    → AreFine (difference_stops a b machine)
difference_fine a b machine is so still =
    (current_fine a machine is still, (current_fine b machine so still, (if_fine (are_apart (offsets_of a b)) stop.BadPointer (λ is. is), tt)))

-- why a pointer does not go on
pub moved_fine : (bytes : ℤ) (its : Pointer) → IsFine (moved_stop bytes its)
moved_fine bytes Nil = λ is. is
moved_fine bytes (Handle block) = λ is. is
moved_fine bytes (Fixed object at) = if_fine (not (is_near (at +ℤ bytes))) stop.BadPointer (λ is. is)
moved_fine bytes (Spot its) = if_fine (not (is_near (its.offset +ℤ bytes))) stop.BadPointer (λ is. is)

-- and where it is then
pub moved_unmoved : (bytes : ℤ) (its : Pointer) → IsUnmovedPointer its → IsUnmovedPointer (moved_by bytes its)
moved_unmoved bytes Nil is = refl
moved_unmoved bytes (Handle block) is = refl
moved_unmoved bytes (Fixed object at) is = refl
moved_unmoved bytes (Spot its) is = is
