-- Where the chains of two rows part, by the links of rows (own). Rows are counted from 1, and 0 is before the start.
--     AreLower rows            the rows that a link names were made before
--     Under rows z t           z is t, or before it by links
--     Hangs rows z a p         a is the row after z on the way to p
--     Side rows p x after      x is on the way to p, and this is the row after it
use Rattle.std.specs.Prelude.{◌≡◌, ◌≢◌, ◌<◌, ◌≤◌, ℕ, suc, List, Option, Some, None, slice_get}
use Rattle.hs_search.specs.declared.lists.Item.{Item}
use Rattle.hs_search.specs.declared.reach.Reach.{Reach}

-- both rows of each link
abbrev pub AreLower : List (Item Reach) → Type 0
AreLower rows = (n : ℕ) (it : Item Reach) → slice_get rows n ≡ Some it → (it.value.origin.up ≤ n) × (it.value.origin.last ≤ n)

-- the row after z
pub record Follows (rows : List (Item Reach)) (z a : ℕ) : Type 0 where
  pub n : ℕ
  pub number : a ≡ suc n
  pub it : Item Reach
  pub there : slice_get rows n ≡ Some it
  pub after : it.value.origin.up ≡ z

-- by links, from t back
pub data Under (rows : List (Item Reach)) : ℕ → ℕ → Type 0 where
  itself : (z : ℕ) → Under rows z z
  before : (z n : ℕ) (it : Item Reach) → slice_get rows n ≡ Some it → Under rows z it.value.origin.up → Under rows z (suc n)

-- a row after z, and p is reached from it
pub record Hangs (rows : List (Item Reach)) (z a p : ℕ) : Type 0 where
  pub follows : Follows rows z a
  pub under : Under rows a p

-- ---- a walk back from two rows

-- on the way to p: at its end, or before that row
abbrev pub Side : List (Item Reach) → ℕ → ℕ → Option ℕ → Type 0
Side rows p x None = x ≡ p
Side rows p x (Some a) = Hangs rows x a p

-- the row after it, if there is one, has a greater number than that
abbrev pub IsPast : ℕ → Option ℕ → Type 0
IsPast y None = Unit {0}
IsPast y (Some a) = y < a

-- not the same row on both sides
abbrev pub AreTwo : Option ℕ → Option ℕ → Type 0
AreTwo None right = Unit {0}
AreTwo (Some a) None = Unit {0}
AreTwo (Some a) (Some b) = a ≢ b
