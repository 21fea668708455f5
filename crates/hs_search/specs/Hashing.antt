-- Rows of long lists, which a hash finds: those that are not among the newest of their operation (own).
--     count_in key items         how many items have the key
--     later_in key n items       and how many of them come after that place
--     IsHashed near items entries      the hash has all rows of an operation but the newest, and finds no wrong ones
--     Leaves near items key n    that row is among the newest, and is not once the list has a row more
--     IsFinding                  what is answered for a node
use Rattle.std.specs.Prelude.{◌≡◌, ◌<◌, ◌≤◌, ℕ, suc, ◌==◌, Bool, true, false, List, [], ◌∷◌, length, drop, slice_get, Option, Some, None}
use Rattle.std.specs.Map.{lookup}
use Rattle.hs_search.specs.Storing.{HasRow, IsRowOf}
use Rattle.hs_search.specs.contracts.hashing.SpotPartialEq.TheImpl as spot_eq
use Rattle.hs_search.specs.declared.hashing.Place.{Place}
use Rattle.hs_search.specs.declared.hashing.Place.TheVariants.{Row, Nowhere}
use Rattle.hs_search.specs.declared.hashing.Spot.{Spot}
use Rattle.hs_search.specs.declared.lists.Item.{Item}
use Rattle.hs_search.specs.declared.reach.Reach.{Reach}

-- so many rows of an operation are its newest
abbrev pub nearest : ℕ
nearest = 32

-- ---- how many items come later

-- one more, if it has the key
abbrev pub count_if : Bool → ℕ → ℕ
count_if true count = suc count
count_if false count = count

module _ {T : Type 0} where
  -- those of the key
  abbrev pub count_in : ℕ → List (Item T) → ℕ
  count_in key [] = 0
  count_in key (first ∷ items) = count_if (first.key == key) (count_in key items)

  -- after a place
  abbrev pub later_in : ℕ → ℕ → List (Item T) → ℕ
  later_in key n items = count_in key (drop (suc n) items)

-- ---- what the hash has

-- the node, listed by that operation
abbrev pub spot_of : ℕ → Reach → Spot
spot_of at reach = record { fact = reach.fact; at = at; call = reach.call }

-- the same node
abbrev pub same_spot : Spot → Spot → Bool
same_spot = (spot_eq.ghosts).eq

-- the number that it has for the node
abbrev pub hashed : Reach → List (Spot × ℕ) → Option ℕ
hashed reach entries = lookup (same_spot (spot_of reach.at reach)) entries

-- it has one
abbrev pub IsHashedRow : Reach → List (Spot × ℕ) → Type 0
IsHashedRow reach entries = ¬ (hashed reach entries ≡ None)

-- the row of that number has the node
pub record IsSpotAt (items : List (Item Reach)) (reach : Reach) (n : ℕ) : Type 0 where
  pub within : n < length items
  pub at : (it : Item Reach) → slice_get items n ≡ Some it → it.key ≡ reach.at
  pub fact : (it : Item Reach) → slice_get items n ≡ Some it → it.value.fact ≡ reach.fact
  pub call : (it : Item Reach) → slice_get items n ≡ Some it → it.value.call ≡ reach.call

-- all but the newest rows of each operation
pub record IsHashed (near : ℕ) (items : List (Item Reach)) (entries : List (Spot × ℕ)) : Type 0 where
  pub right : (reach : Reach) (n : ℕ) → hashed reach entries ≡ Some n → IsSpotAt items reach n
  pub all : (reach : Reach) (n : ℕ) → IsRowOf items reach n → near ≤ later_in reach.at n items → IsHashedRow reach entries

-- ---- the row that leaves the newest ones

-- the oldest of the newest rows of an operation
pub record IsOldest (near : ℕ) (items : List (Item Reach)) (key n : ℕ) : Type 0 where
  pub it : Item Reach
  pub there : slice_get items n ≡ Some it
  pub own : it.key ≡ key
  pub later : suc (later_in key n items) ≡ near

-- it is that one, or there are fewer rows
abbrev pub Leaves : ℕ → List (Item Reach) → ℕ → Option ℕ → Type 0
Leaves near items key None = count_in key items < near
Leaves near items key (Some n) = IsOldest near items key n

-- the hash has that row too
abbrev pub IsReady : ℕ → List (Item Reach) → ℕ → List (Spot × ℕ) → Type 0
IsReady near items key entries = (reach : Reach) (n : ℕ) → reach.at ≡ key → IsRowOf items reach n → near ≤ suc (later_in key n items) → IsHashedRow reach entries

-- ---- what is answered

-- for a node
abbrev pub IsFinding : ℕ → List (Item Reach) → Reach → Place → Type 0
IsFinding near items reach (Row n) = IsRowOf items reach n
IsFinding near items reach (Nowhere leaving) = (¬ (HasRow items reach)) × Leaves near items reach.at leaving
