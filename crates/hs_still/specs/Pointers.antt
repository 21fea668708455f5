-- Operations on pointers, on the still machine. Comparisons and differences are of pointers that are not stale; arithmetic asks nothing.
--     current_stop_still           why a pointer is no more one
--     compare_stops_still, difference_stops_still
--     answer_still, difference_still       what a comparison answers, and a difference
--     moved_still, moved_stop_still        a pointer that goes on, and why it does not
use Rattle.std.proofs.Common.{◌≡◌, ℤ, ℕ, not, Option, Some, None, option_map, refl, ap, ◌∙◌}
use Rattle.hs_heap.specs.Blocks.{Block}
use Rattle.hs_heap.specs.Memory.{block_at}
use Rattle.hs_heap.specs.declared.cell.Pointer.{Pointer}
use Rattle.hs_heap.specs.declared.cell.Pointer.TheVariants.{Nil, Fixed, Handle, Spot}
use Rattle.hs_heap.specs.declared.cell.Spot as spot
use Rattle.hs_meaning.specs.Machine.{Machine}
use Rattle.hs_meaning.specs.Pointers.{current_in, current_stop, offsets_of, compare_stops, difference_stops, order_in, pointer_answer, difference_of, moved_stop, moved_by}
use Rattle.hs_meaning.specs.Values.{unmoved}
use Rattle.hs_still.specs.Cells.{one_still}
use Rattle.hs_still.specs.Machines.{still_block, still_machine}
use Rattle.hs_still.specs.Uses.{CurrentIn, Current, block_at_still, disposed_still, same_epoch}
use Rattle.hs_tree.specs.declared.operators.Comparison.{Comparison}
use Rattle.hs_tree.specs.declared.operators.Comparison.TheVariants.{Less, Greater, LessEqual, GreaterEqual, Equal, NotEqual}

-- ---- tests

current_in_still : (its : spot.Spot) (b : Option Block) → CurrentIn its b
    → current_in (record its { epoch = 0 }) (option_map still_block b) ≡ current_in its b
current_in_still its None used = refl
current_in_still its (Some block) used = rw (disposed_still block.presence, same_epoch its block used.0) refl

-- why a pointer is no more one
pub current_stop_still : (its : Pointer) (machine : Machine) → Current its machine
    → current_stop (unmoved its) (still_machine machine) ≡ current_stop its machine
current_stop_still Nil machine used = refl
current_stop_still (Fixed object at) machine used = refl
current_stop_still (Handle block) machine used = refl
current_stop_still (Spot its) machine used =
    ap (current_in (record its { epoch = 0 })) (block_at_still machine.blocks its.block)
    ∙ current_in_still its (block_at machine.blocks its.block) used

-- where two pointers are in one object or block
pub offsets_still : (a b : Pointer) → offsets_of (unmoved a) (unmoved b) ≡ offsets_of a b
offsets_still Nil b = refl
offsets_still (Fixed object at) Nil = refl
offsets_still (Fixed object at) (Fixed other at') = refl
offsets_still (Fixed object at) (Handle block) = refl
offsets_still (Fixed object at) (Spot its) = refl
offsets_still (Handle block) b = refl
offsets_still (Spot its) Nil = refl
offsets_still (Spot its) (Fixed other at') = refl
offsets_still (Spot its) (Handle block) = refl
offsets_still (Spot its) (Spot other) = refl

-- why two pointers are not compared
pub compare_stops_still : (operator : Comparison) (a b : Pointer) (machine : Machine) → Current a machine → Current b machine
    → compare_stops operator (unmoved a) (unmoved b) (still_machine machine) ≡ compare_stops operator a b machine
compare_stops_still operator a b machine first second =
    rw (current_stop_still a machine first, current_stop_still b machine second, offsets_still a b) refl

-- why they have no difference
pub difference_stops_still : (a b : Pointer) (machine : Machine) → Current a machine → Current b machine
    → difference_stops (unmoved a) (unmoved b) (still_machine machine) ≡ difference_stops a b machine
difference_stops_still a b machine first second =
    rw (current_stop_still a machine first, current_stop_still b machine second, offsets_still a b) refl

-- ---- answers

-- what a comparison answers
pub answer_still : (operator : Comparison) (a b : Pointer) → pointer_answer operator (unmoved a) (unmoved b) ≡ pointer_answer operator a b
answer_still Less a b = ap (order_in Less) (offsets_still a b)
answer_still Greater a b = ap (order_in Greater) (offsets_still a b)
answer_still LessEqual a b = ap (order_in LessEqual) (offsets_still a b)
answer_still GreaterEqual a b = ap (order_in GreaterEqual) (offsets_still a b)
answer_still Equal a b = one_still a b
answer_still NotEqual a b = ap not (one_still a b)

-- a difference
pub difference_still : (size : ℕ) (a b : Pointer) → difference_of size (unmoved a) (unmoved b) ≡ difference_of size a b
difference_still size a b = rw (offsets_still a b) refl

-- ---- arithmetic

-- why a pointer does not go on
pub moved_stop_still : (bytes : ℤ) (its : Pointer) → moved_stop bytes (unmoved its) ≡ moved_stop bytes its
moved_stop_still bytes Nil = refl
moved_stop_still bytes (Fixed object at) = refl
moved_stop_still bytes (Handle block) = refl
moved_stop_still bytes (Spot its) = refl

-- where it goes
pub moved_still : (bytes : ℤ) (its : Pointer) → moved_by bytes (unmoved its) ≡ unmoved (moved_by bytes its)
moved_still bytes Nil = refl
moved_still bytes (Fixed object at) = refl
moved_still bytes (Handle block) = refl
moved_still bytes (Spot its) = refl
