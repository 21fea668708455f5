-- Calls by number (own).
--     IsCall calls entry n        the call of that number begins with the node
--     HasCall calls entry         some call does
--     IsNumbered entry n old new  it has that number, or it got it
use Rattle.std.specs.Prelude.{◌≡◌, ◌⊎◌, ℕ, List, [], ◌∷◌, ◌++◌, length, slice_get, Some}
use Rattle.hs_search.specs.declared.graph.Node.{Node}
use Rattle.hs_search.specs.declared.lists.Item.{Item}

-- the call of the number begins with the node
pub record IsCall (calls : List (Item ℕ)) (entry : Node) (n : ℕ) : Type 0 where
  pub it : Item ℕ
  pub there : slice_get calls n ≡ Some it
  pub at : it.key ≡ entry.at
  pub fact : it.value ≡ entry.fact

-- some call does
abbrev pub HasCall : List (Item ℕ) → Node → Type 0
HasCall calls entry = (n : ℕ) × IsCall calls entry n

-- one call more
pub record IsNewCall (entry : Node) (n : ℕ) (old new : List (Item ℕ)) : Type 0 where
  pub outside : ¬ (HasCall old entry)
  pub it : Item ℕ
  pub at : it.key ≡ entry.at
  pub fact : it.value ≡ entry.fact
  pub more : new ≡ old ++ it ∷ []
  pub last : n ≡ length old

-- the call has the number: it had it before, or it is the last one now
abbrev pub IsNumbered : Node → ℕ → List (Item ℕ) → List (Item ℕ) → Type 0
IsNumbered entry n old new = ((new ≡ old) × IsCall old entry n) ⊎ IsNewCall entry n old new
