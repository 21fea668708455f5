-- What a decision of the schedule changes: blocks that may move, and nothing else.
--     decisions_keep_others       a block that the decision does not change is as it was
--     names_count                 only blocks that may change count in a decision, so every list of decisions is a schedule
--     nothing_moves_past_the_end  past the end of the schedule nothing moves
use Rattle.std.proofs.Common.{◌≡◌, ℕ, suc, ◌+◌, Bool, List, [], ◌∷◌, slice_get, Option, Some, None, refl, ap}
use Rattle.hs_heap.specs.Blocks.{Block}
use Rattle.hs_heap.specs.Shift.{Powers, OthersStay, shift}
use Rattle.hs_heap.specs.ShiftLaws as laws
use Rattle.hs_heap.specs.ShiftLaws.{NameAlike}
use Rattle.hs_heap.specs.declared.decision.Decision.{Decision}
use Rattle.hs_meaning.specs.Laws.Schedules.{decision_stays}
use Rattle.hs_meaning.specs.Steps.{State, next_decision, after_decision}

-- the blocks that a decision does not change are as they were, and so is the rest of the machine
pub decisions_keep_others : (powers : Powers) (s : State)
    → OthersStay powers (next_decision s.schedule) s.machine.blocks (after_decision powers s).machine.blocks
decisions_keep_others powers s = laws.others_stay powers (next_decision s.schedule) s.machine.blocks

-- decisions that name the blocks that may change alike do the same
pub names_count : (powers : Powers) (decision other : Decision) (blocks : List Block)
    → ((place k : ℕ) (block : Block) → k ≡ 1 + place → slice_get blocks place ≡ Some block → NameAlike decision other k block)
    → shift powers decision blocks ≡ shift powers other blocks
names_count powers decision other blocks alike = laws.names_count powers decision other 1 blocks alike

-- past the end of the schedule
pub nothing_moves_past_the_end : (powers : Powers) (s : State) → s.schedule ≡ [] → (after_decision powers s).machine ≡ s.machine
nothing_moves_past_the_end powers s is =
    decision_stays powers s (Rattle.std.proofs.Common.subst Rattle.hs_meaning.specs.Laws.Schedules.AreStill (Rattle.std.proofs.Common.sym is) tt)
