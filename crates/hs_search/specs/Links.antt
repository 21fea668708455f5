-- By which rows a row was reached: its link. Rows are counted from 1 (own).
--     IsAfter graph x row       a step from x gives the row, or the call that is entered there
--     IsBack graph c e row      the row is the one after the call that c enters and that ends at e
--     IsLinked graph rows origin row   the row is what its link says, of these rows
--     HasLink                   the same of a stored row
--     AreLinked                 each stored row has a link to rows that were made before it
--     OfLink entries Offers up last row   one of the offers has that link, and the row
use Rattle.std.specs.Prelude.{◌≡◌, ◌<◌, ◌≤◌, ◌⊎◌, ℕ, zero, suc, List, Some, slice_get, take}
use Rattle.hs_search.specs.Graphs.{FlowGraph, Has}
use Rattle.hs_search.specs.Rounds.{Row, entered_by, first_row, returned, stepped}
use Rattle.hs_search.specs.Storing.{row_of, rows_of}
use Rattle.hs_search.specs.declared.graph.Node.{Node}
use Rattle.hs_search.specs.declared.lists.Item.{Item}
use Rattle.hs_search.specs.declared.reach.Origin.{Origin}
use Rattle.hs_search.specs.declared.reach.Reach.{Reach}

-- one step on, or into a call
abbrev pub IsAfter : FlowGraph → Row → Row → Type 0
IsAfter graph x row =
    ((y : Node) × Has (graph.steps x.node) y × (stepped x y ≡ row))
    ⊎ ((b : Node) × (graph.enters x.node ≡ Some b) × (entered_by x b ≡ row))

-- back to the caller
abbrev pub IsBack : FlowGraph → Row → Row → Row → Type 0
IsBack graph c e row =
    (y : Node) × (graph.enters c.node ≡ Some (graph.entry e.node)) × (graph.leaves c.node e.node ≡ Some y) × (returned c e y ≡ row)

-- from the start, from the row of one number, or from those of two
abbrev pub LinkedBy : FlowGraph → List Row → ℕ → ℕ → Row → Type 0
LinkedBy graph rows zero zero row = first_row graph ≡ row
LinkedBy graph rows zero (suc last) row = ⊥
LinkedBy graph rows (suc up) zero row = (x : Row) × (slice_get rows up ≡ Some x) × IsAfter graph x row
LinkedBy graph rows (suc up) (suc last) row =
    (c : Row) × (e : Row) × (slice_get rows up ≡ Some c) × (slice_get rows last ≡ Some e) × IsBack graph c e row

-- as its link says
abbrev pub IsLinked : FlowGraph → List Row → Origin → Row → Type 0
IsLinked graph rows origin row = LinkedBy graph rows origin.up origin.last row

-- as the link of the stored row says
abbrev pub HasLink : FlowGraph → List Row → List (Item ℕ) → Reach → Type 0
HasLink graph rows entries reach = IsLinked graph rows reach.origin (row_of entries reach)

-- of each stored row, but for those past the most
abbrev pub AreLinked : FlowGraph → ℕ → List (Item ℕ) → List (Item Reach) → Type 0
AreLinked graph most entries rows =
    (n : ℕ) (it : Item Reach) → slice_get rows n ≡ Some it → it.value.length ≤ most → HasLink graph (take n (rows_of entries rows)) entries it.value

-- a link to one of the rows from that place on
abbrev pub IsFrom : ℕ → ℕ → ℕ → Type 0
IsFrom first up last = (first < up) ⊎ (first < last)

-- what a link makes is offered, with that link
abbrev pub OfLink : List (Item ℕ) → (Reach → Type 0) → ℕ → ℕ → Row → Type 0
OfLink entries Offers up last row = (s : Reach) × Offers s × (row_of entries s ≡ row) × (s.origin.up ≡ up) × (s.origin.last ≡ last)
