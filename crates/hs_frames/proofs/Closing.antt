-- A call that ends.
use Rattle.std.proofs.Common.{◌≡◌, ◌-◌, ℕ, Bool, true, false, List, ◌∷◌, refl, subst}
use Rattle.hs_frames.specs.Ending.{ended, without_ended}
use Rattle.hs_layers.specs.Layers.{Layered, Closes}
use Rattle.hs_meaning.specs.Frames.{closed}
use Rattle.hs_meaning.specs.Machine.{Machine, Object, Binding}

-- what is below the list that was taken away is on top
pub on_top : {T : Type 0} (below : List (List T)) (caller : List T) (rest : List (List T)) (old new : Layered T) (result : Bool)
    → Closes below old new result → below ≡ caller ∷ rest → new.top ≡ caller
on_top below caller rest old new result closes is = by_result result (subst (λ its. Closes its old new result) is closes)
  where
    by_result : (result : Bool) → Closes (caller ∷ rest) old new result → new.top ≡ caller
    by_result true (top, others) = top
    by_result false closes = absurd closes

-- and the others are below it
pub still_below : {T : Type 0} (below : List (List T)) (caller : List T) (rest : List (List T)) (old new : Layered T) (result : Bool)
    → Closes below old new result → below ≡ caller ∷ rest → new.below ≡ rest
still_below below caller rest old new result closes is = by_result result (subst (λ its. Closes its old new result) is closes)
  where
    by_result : (result : Bool) → Closes (caller ∷ rest) old new result → new.below ≡ rest
    by_result true (top, others) = others
    by_result false closes = absurd closes

-- the machine is that of the definitions
pub is_closed : (caller top : List Binding) (objects : List Object) (frames : ℕ) (machine : Machine) → top ≡ caller
    → objects ≡ ended machine.locals machine.objects → frames ≡ machine.frames - 1
    → record machine { objects = objects; locals = top; frames = frames } ≡ closed caller machine
is_closed caller top objects frames machine on_top ends fewer =
    rw (without_ended machine.locals machine, on_top, ends, fewer) refl
