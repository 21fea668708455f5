-- Stacks of values on the still machine: what is taken from them, and what is left.
--     taken_still, below_still, holds_still, brought_still
use Rattle.std.proofs.Common.{◌≡◌, ℕ, zero, suc, List, [], ◌∷◌, map, Option, Some, None, refl, ap, ◌∙◌}
use Rattle.hs_code_run.specs.Steps.{taken_onto, taken, below, holds, under, picked, on_top, brought}
use Rattle.hs_meaning.specs.Values.{Value}
use Rattle.hs_still.specs.Machines.{still_value}

taken_onto_still : (count : ℕ) (stack done : List Value)
    → taken_onto count (map still_value stack) (map still_value done) ≡ map still_value (taken_onto count stack done)
taken_onto_still zero stack done = refl
taken_onto_still (suc more) [] done = refl
taken_onto_still (suc more) (value ∷ stack) done = taken_onto_still more stack (value ∷ done)

-- so many values
pub taken_still : (count : ℕ) (stack : List Value) → taken count (map still_value stack) ≡ map still_value (taken count stack)
taken_still count stack = taken_onto_still count stack []

-- what is below them
pub below_still : (count : ℕ) (stack : List Value) → below count (map still_value stack) ≡ map still_value (below count stack)
below_still zero stack = refl
below_still (suc more) [] = refl
below_still (suc more) (value ∷ stack) = below_still more stack

-- there are as many
pub holds_still : (count : ℕ) (stack : List Value) → holds count (map still_value stack) ≡ holds count stack
holds_still zero stack = refl
holds_still (suc more) [] = refl
holds_still (suc more) (value ∷ stack) = holds_still more stack

-- a picked value and the others
abbrev still_pick : Option (Value × List Value) → Option (Value × List Value)
still_pick None = None
still_pick (Some its) = Some (still_value its.0, map still_value its.1)

under_still : (value : Value) (its : Option (Value × List Value)) → under (still_value value) (still_pick its) ≡ still_pick (under value its)
under_still value None = refl
under_still value (Some its) = refl

picked_still : (place : ℕ) (stack : List Value) → picked place (map still_value stack) ≡ still_pick (picked place stack)
picked_still place [] = refl
picked_still zero (value ∷ stack) = refl
picked_still (suc place) (value ∷ stack) = ap (under (still_value value)) (picked_still place stack) ∙ under_still value (picked place stack)

on_top_still : (stack : List Value) (its : Option (Value × List Value))
    → on_top (map still_value stack) (still_pick its) ≡ map still_value (on_top stack its)
on_top_still stack None = refl
on_top_still stack (Some its) = refl

-- the value of a place on top
pub brought_still : (place : ℕ) (stack : List Value) → brought place (map still_value stack) ≡ map still_value (brought place stack)
brought_still zero stack = refl
brought_still (suc place) stack = ap (on_top (map still_value stack)) (picked_still place stack) ∙ on_top_still stack (picked place stack)
