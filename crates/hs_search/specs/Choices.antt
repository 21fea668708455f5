-- Offers that are taken one after the other, and which row of a node stays (own).
--     Chooses                   what becomes of one offer: a row, or the one that comes first of its row and it stays
--     Choosing                  and of several
--     IsChoice                  of all these offers, in some order
use Rattle.std.specs.Prelude.{◌⊎◌, ℕ, List, [], ◌∷◌, ◌++◌}
use Rattle.hs_search.specs.Graphs.{Has}
use Rattle.hs_search.specs.Rivals.{Settles}
use Rattle.hs_search.specs.Storing.{IsAdded, IsRowOf}
use Rattle.hs_search.specs.declared.lists.Item.{Item}
use Rattle.hs_search.specs.declared.reach.Reach.{Reach}

-- one offer
abbrev pub Chooses : List (Item ℕ) → ℕ → ℕ → Reach → List (Item Reach) → List (Item Reach) → Type 0
Chooses entries room most offer old new = ((n : ℕ) × IsRowOf old offer n × Settles entries offer n old new) ⊎ IsAdded room most offer old new

-- one after the other
pub data Choosing (entries : List (Item ℕ)) (room most : ℕ) : List Reach → List (Item Reach) → List (Item Reach) → Type 0 where
  none_chosen : (items : List (Item Reach)) → Choosing entries room most [] items items
  one_chosen : (offers : List Reach) (reach : Reach) (old mid new : List (Item Reach)) → Choosing entries room most offers old mid
      → Chooses entries room most reach mid new → Choosing entries room most (offers ++ reach ∷ []) old new

-- all of them
pub record IsChoice (entries : List (Item ℕ)) (room most : ℕ) (Offers : Reach → Type 0) (old new : List (Item Reach)) : Type 0 where
  pub taken : List Reach
  pub choosing : Choosing entries room most taken old new
  pub each : (s : Reach) → Has taken s → Offers s
  pub all : (s : Reach) → Offers s → Has taken s
