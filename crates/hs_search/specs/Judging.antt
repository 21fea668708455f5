-- Which of the chains of two rows comes first, by the links of rows (own). Rows are counted from 1.
--     link_of row              how the row follows the one before it
--     inner_ends left right p q   the ends inside a call that both chains go into, if one of them leaves it
--     first_entry row          the first entry that the row's link adds
--     Told entries rows p q    the chain of p is told to come before that of q
use Rattle.std.specs.Prelude.{◌≡◌, ◌≤◌, ℕ, zero, suc, List, Option, Some, None, slice_get}
use Rattle.hs_search.specs.Meeting.{Hangs}
use Rattle.hs_search.specs.Orders.{IsBefore}
use Rattle.hs_search.specs.Storing.{call_at, node_of}
use Rattle.hs_search.specs.declared.graph.Node.{Node}
use Rattle.hs_search.specs.declared.judging.Link.{Link}
use Rattle.hs_search.specs.declared.judging.Link.TheVariants as link
use Rattle.hs_search.specs.declared.lists.Item.{Item}
use Rattle.hs_search.specs.declared.reach.Reach.{Reach}

-- ---- links

-- by the row at which a call ended, and how far the row is inside its call
abbrev pub link_by : ℕ → ℕ → Link
link_by (suc end) level = link.Return (suc end)
link_by zero zero = link.Entry
link_by zero (suc level) = link.Step

-- the start is the first row of its call
abbrev pub link_of : Reach → Link
link_of row = link_by row.origin.last row.level

-- one chain goes into the call and the other goes through it, or both go through it
abbrev pub inner_ends : Link → Link → ℕ → ℕ → Option (ℕ × ℕ)
inner_ends link.Entry (link.Return end) p q = Some (p, end)
inner_ends (link.Return end) link.Entry p q = Some (end, q)
inner_ends (link.Return end) (link.Return other) p q = Some (end, other)
inner_ends _ _ p q = None

-- an end was made before
abbrev pub IsEndBelow : Link → ℕ → Type 0
IsEndBelow (link.Return end) n = end ≤ n
IsEndBelow _ n = Unit {0}

-- ---- entries

-- the first node of a row's call
abbrev pub call_of : List (Item ℕ) → Option (Item Reach) → Node
call_of entries None = call_at entries 0
call_of entries (Some it) = call_at entries it.value.call

-- a return adds first the entry with which the call begins
abbrev pub entry_by : List (Item ℕ) → List (Item Reach) → ℕ → Reach → Node
entry_by entries rows zero row = node_of entries row
entry_by entries rows (suc end) row = call_of entries (slice_get rows end)

-- the first entry that comes after those of the row before it
abbrev pub first_entry : List (Item ℕ) → List (Item Reach) → Reach → Node
first_entry entries rows row = entry_by entries rows row.origin.last row

-- ---- what is told

-- the first entries after the meeting differ, or it is told of the ends inside the call
pub data Told (entries : List (Item ℕ)) (rows : List (Item Reach)) : ℕ → ℕ → Type 0 where
  told_apart : (z a b p q : ℕ) (left : Hangs rows z a p) (right : Hangs rows z b q)
      → IsBefore (first_entry entries rows left.follows.it.value) (first_entry entries rows right.follows.it.value) → Told entries rows p q
  told_inside : (z a b p q p' q' : ℕ) (left : Hangs rows z a p) (right : Hangs rows z b q)
      → inner_ends (link_of left.follows.it.value) (link_of right.follows.it.value) p q ≡ Some (p', q') → Told entries rows p' q'
      → Told entries rows p q
