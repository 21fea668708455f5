use Rattle.std.proofs.Common.{◌≡◌, ◌++◌, ℕ, List}
use Rattle.std.specs.List.{flat_map}
use Rattle.hs_macros.specs.Numbers.{named}
use Rattle.hs_macros.specs.Replacement.{placed_at}
use Rattle.hs_macros.specs.Slots.{names_of, ArePlaced}
use Rattle.hs_macros.specs.Stacks.{ready, ahead, parameters_in}
use Rattle.hs_macros.proofs.call.Call.place.Given as goal

-- those that are put follow those of the tokens that are left, which know their parameters
abbrev pub invariant-loop-slot : goal.invariant-loop-slot
invariant-loop-slot l = record {
  put : (names : List (List ℕ))
      → flat_map (λ slot. placed_at l.pos (named names l.hides.value) (ready names l.ready.items) slot.token) l.slot-iterator.iter.rest.now
      ++ ahead names l.tokens.items
      ≡ flat_map (λ slot. placed_at l.pos (named names l.hides.value) (ready names l.ready.items) slot.token) l.self.body.now
      ++ ahead names l.initial.tokens.items;
  placed : ArePlaced (names_of (parameters_in l.ready.items)) l.slot-iterator.iter.rest.now;
}
