-- How rows, calls, callers and ends lie beside one another while the search goes on (own).
--     Grows old new               calls were added after
--     IsPlaced graph entries reach    its call has a number, and is the one that the graph says
--     IsCalls graph entries       calls begin with their own nodes, and none has two numbers
--     IsLaidOut graph rows book count   the first so many rows are listed as callers and ends
--     IsExpanded                  what the row of a number brings
use Rattle.std.specs.Prelude.{◌≡◌, ◌<◌, ◌≤◌, ℕ, suc, true, List, ◌++◌, length, slice_get, Some, take}
use Rattle.hs_search.specs.Bringing.{Book}
use Rattle.hs_search.specs.Graphs.{FlowGraph, Has}
use Rattle.hs_search.specs.Links.{HasLink, IsFrom, LinkedBy, OfLink}
use Rattle.hs_search.specs.Rounds.{Row, BroughtBy}
use Rattle.hs_search.specs.Storing.{call_at, node_of, row_of, rows_of}
use Rattle.hs_search.specs.declared.graph.Node.{Node}
use Rattle.hs_search.specs.declared.lists.Item.{Item}
use Rattle.hs_search.specs.declared.reach.Reach.{Reach}

-- the old calls keep their numbers
abbrev pub Grows : List (Item ℕ) → List (Item ℕ) → Type 0
Grows old new = (later : List (Item ℕ)) × (new ≡ old ++ later)

-- the call of a stored row
pub record IsPlaced (graph : FlowGraph) (entries : List (Item ℕ)) (reach : Reach) : Type 0 where
  pub known : reach.call < length entries
  pub entry : graph.entry (node_of entries reach) ≡ call_at entries reach.call
  pub within : reach.at < graph.count
  pub level : reach.level ≤ reach.length

-- the calls that have numbers
pub record IsCalls (graph : FlowGraph) (entries : List (Item ℕ)) : Type 0 where
  pub own : (n : ℕ) → n < length entries → graph.entry (call_at entries n) ≡ call_at entries n
  pub once : (n m : ℕ) → n < length entries → m < length entries → call_at entries n ≡ call_at entries m → n ≡ m

-- the item names a row that enters its call
pub record IsCaller (graph : FlowGraph) (rows : List (Item Reach)) (entries : List (Item ℕ)) (count : ℕ) (it : Item ℕ) : Type 0 where
  pub row : Item Reach
  pub there : slice_get rows it.value ≡ Some row
  pub below : it.value < count
  pub known : it.key < length entries
  pub enters : graph.enters (node_of entries row.value) ≡ Some (call_at entries it.key)

-- or one at which its call may end
pub record IsEnd (rows : List (Item Reach)) (count : ℕ) (it : Item ℕ) : Type 0 where
  pub row : Item Reach
  pub there : slice_get rows it.value ≡ Some row
  pub below : it.value < count
  pub call : it.key ≡ row.value.call

-- an item of that row
pub record IsItem (items : List (Item ℕ)) (row : ℕ) (Key : ℕ → Type 0) : Type 0 where
  pub n : ℕ
  pub it : Item ℕ
  pub there : slice_get items n ≡ Some it
  pub value : it.value ≡ row
  pub key : Key it.key

-- all that the lists say of the rows
pub record IsLaidOut (graph : FlowGraph) (rows : List (Item Reach)) (book : Book) (count : ℕ) : Type 0 where
  pub calls : IsCalls graph book.entries
  pub keys : (n : ℕ) (it : Item Reach) → slice_get rows n ≡ Some it → it.key ≡ it.value.at
  pub placed : (n : ℕ) (it : Item Reach) → slice_get rows n ≡ Some it → IsPlaced graph book.entries it.value
  pub small : (n : ℕ) (it : Item Reach) → slice_get rows n ≡ Some it → it.value.length ≤ 1000001
  pub caller : (n : ℕ) (it : Item ℕ) → slice_get book.callers n ≡ Some it → IsCaller graph rows book.entries count it
  pub callers : (n : ℕ) (row : Item Reach) (b : Node) → n < count → slice_get rows n ≡ Some row → graph.enters (node_of book.entries row.value) ≡ Some b
      → IsItem book.callers n (λ key. (key < length book.entries) × (call_at book.entries key ≡ b))
  pub end_ : (n : ℕ) (it : Item ℕ) → slice_get book.ends n ≡ Some it → IsEnd rows count it
  pub ends : (n : ℕ) (row : Item Reach) → n < count → slice_get rows n ≡ Some row → graph.ends (node_of book.entries row.value) ≡ true
      → IsItem book.ends n (λ key. key ≡ row.value.call)

-- the row of the number has brought its offers, and is listed
pub record IsExpanded (graph : FlowGraph) (rows : List (Item Reach)) (number : ℕ) (it : Item Reach) (old new : Book)
    (near near' jumps jumps' : List Reach) : Type 0 where
  pub laid_out : IsLaidOut graph rows new (suc number)
  pub grows : Grows old.entries new.entries
  pub steps : List Reach
  pub returns : List Reach
  pub near_is : near' ≡ near ++ steps
  pub jumps_is : jumps' ≡ jumps ++ returns
  pub placed : (s : Reach) → Has (steps ++ returns) s → IsPlaced graph new.entries s
  pub long : (s : Reach) → Has steps s → s.length ≡ suc it.value.length
  pub linked : (s : Reach) → Has (steps ++ returns) s → HasLink graph (rows_of new.entries rows) new.entries s
  pub from : (s : Reach) → Has (steps ++ returns) s
      → BroughtBy graph (take (suc number) (rows_of new.entries rows)) (row_of new.entries it.value) (row_of new.entries s)
  pub brought : (o : Row) → BroughtBy graph (take (suc number) (rows_of new.entries rows)) (row_of new.entries it.value) o
      → (s : Reach) × Has (steps ++ returns) s × (row_of new.entries s ≡ o)
  pub links : (up last : ℕ) (r : Row) → LinkedBy graph (take (suc number) (rows_of new.entries rows)) up last r → IsFrom number up last
      → OfLink new.entries (Has (steps ++ returns)) up last r
