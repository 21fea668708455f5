use Rattle.std.proofs.Common.{◌≡◌, ◌+◌, ℕ, List, length, take}
use Rattle.std.specs.List.{flat_map}
use Rattle.hs_base.specs.declared.pos.Pos.{Pos}
use Rattle.hs_macros.specs.HideSets.{HideSet}
use Rattle.hs_macros.specs.Replacement.{placed_at}
use Rattle.hs_macros.specs.Stacks.{ready}
use Rattle.hs_macros.proofs.placing.room_left.Given as goal

-- the tokens so far took what is gone
abbrev pub invariant-loop-slot : goal.invariant-loop-slot
invariant-loop-slot l = (names : List (List ℕ)) (pos : Pos) (hides : HideSet)
    → l.room + length (flat_map (λ slot. placed_at pos hides (ready names l.arguments) slot.token) (take l.slot-index l.body)) ≡ l.initial.room
