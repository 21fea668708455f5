-- How rows are stored: the call by a number instead of the fact with which it was entered (own).
--     call_at calls n           the node with which the call of that number began
--     node_of calls reach       the node that is stored
--     row_of, rows_of           and its row, and all of them
--     IsRowOf items reach n     the stored row of that number has the node
--     Takes                     what becomes of one offer, and of several
use Rattle.std.specs.Prelude.{◌≡◌, ◌<◌, ◌≤◌, ◌⊎◌, ℕ, suc, nat_lt, Bool, true, false, List, [], ◌∷◌, ◌++◌, map, length, slice_get, slice_set, Option, Some, None, Result, Ok, Err}
use Rattle.hs_search.specs.Graphs.{Has}
use Rattle.hs_search.specs.Rounds.{Row}
use Rattle.hs_search.specs.declared.graph.Node.{Node}
use Rattle.hs_search.specs.declared.lists.Item.{Item}
use Rattle.hs_search.specs.declared.reach.Reach.{Reach}
use Rattle.hs_search.specs.declared.reach.SearchEnd.{SearchEnd}
use Rattle.hs_search.specs.declared.reach.SearchEnd.TheVariants.{Limit, NoMemory}

-- ---- nodes

-- the first node of a call, from its item
abbrev pub call_in : Option (Item ℕ) → Node
call_in None = record { at = 0; fact = 0; entered = 0 }
call_in (Some it) = record { at = it.key; fact = it.value; entered = it.value }

-- of the call with that number
abbrev pub call_at : List (Item ℕ) → ℕ → Node
call_at calls n = call_in (slice_get calls n)

-- the node of a stored row
abbrev pub node_of : List (Item ℕ) → Reach → Node
node_of calls reach = record { at = reach.at; fact = reach.fact; entered = (call_at calls reach.call).entered }

-- its row
abbrev pub row_of : List (Item ℕ) → Reach → Row
row_of calls reach = record { node = node_of calls reach; length = reach.length; level = reach.level }

-- all rows
abbrev pub rows_of : List (Item ℕ) → List (Item Reach) → List Row
rows_of calls items = map (λ it. row_of calls it.value) items

-- ---- taking offers

-- the row of the number has the node
pub record IsRowOf (items : List (Item Reach)) (reach : Reach) (n : ℕ) : Type 0 where
  pub it : Item Reach
  pub there : slice_get items n ≡ Some it
  pub at : it.key ≡ reach.at
  pub fact : it.value.fact ≡ reach.fact
  pub call : it.value.call ≡ reach.call

-- some row has it
abbrev pub HasRow : List (Item Reach) → Reach → Type 0
HasRow items reach = (n : ℕ) × IsRowOf items reach n

-- another fact, or another call
abbrev pub IsOther : Reach → ℕ → Item Reach → Type 0
IsOther reach n it = it.value.fact ≡ reach.fact → it.value.call ≡ reach.call → ⊥

-- past the most a length and a level are one more than it
abbrev pub capped_if : Bool → ℕ → Reach → Reach
capped_if true most reach = record { fact = reach.fact; at = reach.at; call = reach.call; length = suc most; level = suc most; origin = reach.origin }
capped_if false most reach = reach

-- what is stored of an offer
abbrev pub capped : ℕ → Reach → Reach
capped most reach = capped_if (nat_lt most reach.length) most reach

-- the operations of offers are in range
abbrev pub AllBelow : ℕ → List Reach → Type 0
AllBelow count offers = (reach : Reach) → Has offers reach → reach.at < count

-- of listed offers
abbrev pub AllListedBelow : ℕ → List (Item Reach) → Type 0
AllListedBelow count items = (n : ℕ) (it : Item Reach) → slice_get items n ≡ Some it → it.value.at < count

-- the calls of rows have numbers
abbrev pub AllKnown : ℕ → List (Item Reach) → Type 0
AllKnown calls rows = (n : ℕ) (it : Item Reach) → slice_get rows n ≡ Some it → it.value.call < calls

-- one row more
pub record IsAdded (room most : ℕ) (reach : Reach) (old new : List (Item Reach)) : Type 0 where
  pub outside : ¬ (HasRow old reach)
  pub it : Item Reach
  pub key : it.key ≡ reach.at
  pub value : it.value ≡ capped most reach
  pub more : new ≡ old ++ it ∷ []
  pub fits : length old < room

-- the row of its node is replaced by the offer, which has the same length
pub record IsReplaced (reach : Reach) (n : ℕ) (old new : List (Item Reach)) : Type 0 where
  pub row : IsRowOf old reach n
  pub long : row.it.value.length ≡ reach.length
  pub more : new ≡ slice_set old n (record row.it { value = reach })

-- with a length up to the most
abbrev pub Replaces : ℕ → Reach → List (Item Reach) → List (Item Reach) → Type 0
Replaces most reach old new = (n : ℕ) × IsReplaced reach n old new × (reach.length ≤ most)

-- one offer: its node has a row, which may be replaced, or gets one, or there is no room
abbrev pub Takes : ℕ → ℕ → Reach → List (Item Reach) → List (Item Reach) → Result (Unit {0}) SearchEnd → Type 0
Takes room most reach old new (Ok _) = ((new ≡ old) × HasRow old reach) ⊎ Replaces most reach old new ⊎ IsAdded room most reach old new
Takes room most reach old new (Err Limit) = (¬ (HasRow old reach)) × (room ≤ length old)
Takes room most reach old new (Err NoMemory) = Unit {0}

-- these offers were taken, one after the other
pub data Taking (room most : ℕ) : List Reach → List (Item Reach) → List (Item Reach) → Type 0 where
  none_taken : (items : List (Item Reach)) → Taking room most [] items items
  one_known : (offers : List Reach) (reach : Reach) (old new : List (Item Reach)) → Taking room most offers old new → HasRow new reach
      → Taking room most (offers ++ reach ∷ []) old new
  one_replaced : (offers : List Reach) (reach : Reach) (old mid new : List (Item Reach)) → Taking room most offers old mid → Replaces most reach mid new
      → Taking room most (offers ++ reach ∷ []) old new
  one_added : (offers : List Reach) (reach : Reach) (old mid new : List (Item Reach)) → Taking room most offers old mid → IsAdded room most reach mid new
      → Taking room most (offers ++ reach ∷ []) old new

-- there was no room for one of them
pub record IsFull (room most : ℕ) (Offers : Reach → Type 0) (old : List (Item Reach)) : Type 0 where
  pub taken : List Reach
  pub mid : List (Item Reach)
  pub taking : Taking room most taken old mid
  pub each : (reach : Reach) → Has taken reach → Offers reach
  pub one : Reach
  pub offered : Offers one
  pub outside : ¬ (HasRow mid one)
  pub full : room ≤ length mid

-- of offers in a list
abbrev pub TakesEach : ℕ → ℕ → List Reach → List (Item Reach) → List (Item Reach) → Result (Unit {0}) SearchEnd → Type 0
TakesEach room most offers old new (Ok _) = Taking room most offers old new
TakesEach room most offers old new (Err Limit) = IsFull room most (Has offers) old
TakesEach room most offers old new (Err NoMemory) = Unit {0}

-- an offer that is listed by that key
pub record IsListed (items : List (Item Reach)) (key : ℕ) (reach : Reach) : Type 0 where
  pub n : ℕ
  pub it : Item Reach
  pub there : slice_get items n ≡ Some it
  pub own : it.key ≡ key
  pub value : it.value ≡ reach

-- all offers that are listed by the key, in some order
pub record IsTakenList (room most : ℕ) (items : List (Item Reach)) (key : ℕ) (old new : List (Item Reach)) : Type 0 where
  pub taken : List Reach
  pub taking : Taking room most taken old new
  pub each : (reach : Reach) → Has taken reach → IsListed items key reach
  pub all : (reach : Reach) → IsListed items key reach → Has taken reach

-- of offers that are listed by the key
abbrev pub TakesListed : ℕ → ℕ → List (Item Reach) → ℕ → List (Item Reach) → List (Item Reach) → Result (Unit {0}) SearchEnd → Type 0
TakesListed room most items key old new (Ok _) = IsTakenList room most items key old new
TakesListed room most items key old new (Err Limit) = IsFull room most (IsListed items key) old
TakesListed room most items key old new (Err NoMemory) = Unit {0}
