-- Lists on top of one another (own): the calls of a run, each with its own items.
--     Layered                      the list on top, and those below it, the upper ones first
--     lists items bases            the lists of which all items are, if they begin at those places; the upper ones come first
--     layered items base bases     the same with the list on top, which begins at `base`
--     IsNested items bases         each list is inside what is below the one above it
--     Opens, Closes                an empty list is put on top; the list on top is taken away
--     brought place item list      the list with the item of that place at its end
use Rattle.std.specs.Prelude.{◌≡◌, ◌≤◌, ℕ, suc, Bool, true, false, List, [], ◌∷◌, ◌++◌, length, take, drop}

-- what a contract sees
pub record Layered (T : Type 0) : Type 0 where
  pub top : List T
  pub below : List (List T)

-- by the places where they begin
abbrev pub lists : {T : Type 0} → List T → List ℕ → List (List T)
lists items [] = []
lists items (base ∷ bases) = drop base items ∷ lists (take base items) bases

-- with the one on top
abbrev pub layered : {T : Type 0} → List T → ℕ → List ℕ → Layered T
layered items base bases = record { top = drop base items; below = lists (take base items) bases }

-- each is inside what is below the one above it
abbrev pub IsNested : {T : Type 0} → List T → List ℕ → Type 0
IsNested items [] = Unit {0}
IsNested items (base ∷ bases) = (base ≤ length items) × IsNested (take base items) bases

-- what was on top is now the first below an empty list
pub record Opens {T : Type 0} (old new : Layered T) : Type 0 where
  pub top : new.top ≡ []
  pub below : new.below ≡ old.top ∷ old.below

-- The list on top is gone, and the one below it is on top; or there was none below it, and nothing changed.
abbrev pub Closes : {T : Type 0} → List (List T) → Layered T → Layered T → Bool → Type 0
Closes [] old new true = ⊥
Closes [] old new false = new ≡ old
Closes (first ∷ rest) old new true = (new.top ≡ first) × (new.below ≡ rest)
Closes (first ∷ rest) old new false = ⊥

-- the others stay in their order
abbrev pub brought : {T : Type 0} → ℕ → T → List T → List T
brought place item list = take place list ++ drop (suc place) list ++ item ∷ []
