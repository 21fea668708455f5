-- When the chains of two rows are told apart for certain (own). Rows are counted from 1.
--     IsDeadEnd rows e           no row follows it
--     IsTree rows base size      the bases of rows (the row at the beginning of the call) and the lengths of their chains
--     Clear rows base size most p q   neither is above the other; each is of the greatest length, or an end whose base is above both
--     AreParted entries rows     the first entries of two rows after one differ
--     Decides entries rows p q   all of this of two rows
use Rattle.std.specs.Prelude.{◌≡◌, ◌≢◌, ◌≤◌, ◌<◌, ◌⊎◌, ℕ, suc, List, Some, None, slice_get}
use Rattle.hs_search.specs.Judging.{first_entry, inner_ends, link_of}
use Rattle.hs_search.specs.Meeting.{Under}
use Rattle.hs_search.specs.Orders.{IsAlike}
use Rattle.hs_search.specs.declared.judging.Link.{Link}
use Rattle.hs_search.specs.declared.judging.Link.TheVariants as link
use Rattle.hs_search.specs.declared.lists.Item.{Item}
use Rattle.hs_search.specs.declared.reach.Reach.{Reach}

-- no link names it as the row before
abbrev pub IsDeadEnd : List (Item Reach) → ℕ → Type 0
IsDeadEnd rows e = (n : ℕ) (it : Item Reach) → slice_get rows n ≡ Some it → it.value.origin.up ≢ e

-- the base of a row, from that of the row before it
abbrev pub Keeps : List (Item Reach) → (ℕ → ℕ) → (ℕ → ℕ) → ℕ → ℕ → Link → Type 0
Keeps rows base size row up link.Step = base row ≡ base up
Keeps rows base size row up link.Entry = base row ≡ row
Keeps rows base size row up (link.Return end) =
    (base row ≡ base up) × IsDeadEnd rows end × (size end < size row) × Under rows (base end) end

-- all rows, with their bases and sizes
pub record IsTree (rows : List (Item Reach)) (base size : ℕ → ℕ) : Type 0 where
  pub grows : (n : ℕ) (it : Item Reach) → slice_get rows n ≡ Some it → size it.value.origin.up < size (suc n)
  pub keeps : (n : ℕ) (it : Item Reach) → slice_get rows n ≡ Some it → Keeps rows base size (suc n) it.value.origin.up (link_of it.value)
  -- the base of an end is the row with which its call begins
  pub into : (n m end : ℕ) (it its : Item Reach) → slice_get rows n ≡ Some it → slice_get rows m ≡ Some its → link_of it.value ≡ link.Entry
      → link_of its.value ≡ link.Return end → it.value.origin.up ≡ its.value.origin.up → base end ≡ suc n
  -- two returns to one caller are from two ends of one call
  pub two : (n m end other : ℕ) (it its : Item Reach) → slice_get rows n ≡ Some it → slice_get rows m ≡ Some its → link_of it.value ≡ link.Return end
      → link_of its.value ≡ link.Return other → it.value.origin.up ≡ its.value.origin.up → n ≢ m → (end ≢ other) × (base end ≡ base other)

-- of the greatest length, or an end whose base is above both
abbrev pub Held : List (Item Reach) → (ℕ → ℕ) → (ℕ → ℕ) → ℕ → ℕ → ℕ → Type 0
Held rows base size most p q = (size p ≡ most) ⊎ (IsDeadEnd rows p × Under rows (base p) p × Under rows (base p) q)

-- both are, and neither is above the other
pub record Clear (rows : List (Item Reach)) (base size : ℕ → ℕ) (most p q : ℕ) : Type 0 where
  pub above : ¬ Under rows p q
  pub below : ¬ Under rows q p
  pub left : Held rows base size most p q
  pub right : Held rows base size most q p
  pub left_most : size p ≤ most
  pub right_most : size q ≤ most

-- two rows after one row, unless one chain goes through a call that the other goes into
abbrev pub AreParted : List (Item ℕ) → List (Item Reach) → Type 0
AreParted entries rows = (n m p q : ℕ) (it its : Item Reach) → slice_get rows n ≡ Some it → slice_get rows m ≡ Some its → n ≢ m
    → it.value.origin.up ≡ its.value.origin.up → inner_ends (link_of it.value) (link_of its.value) p q ≡ None
    → ¬ IsAlike (first_entry entries rows it.value) (first_entry entries rows its.value)

-- the two chains are told apart
pub record Decides (entries : List (Item ℕ)) (rows : List (Item Reach)) (p q : ℕ) : Type 0 where
  pub base : ℕ → ℕ
  pub size : ℕ → ℕ
  pub most : ℕ
  pub tree : IsTree rows base size
  pub parted : AreParted entries rows
  pub clear : Clear rows base size most p q
