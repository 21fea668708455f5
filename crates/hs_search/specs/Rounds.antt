-- Chains without stacks: rows that are made from one another, shortest first (own, after Dijkstra and Knuth).
--     Row                       a node, the entries of a chain to it, and how many of them are after the beginning of its call
--     Known rows node           the node has a row
--     Candidate graph rows row  a step from the rows gives it
--     IsNext graph rows row     a candidate of a node without a row, and no such candidate is shorter
--     Built graph rows          rows that are made round by round
--     Closed graph most rows    what is left is longer
use Rattle.std.specs.Prelude.{◌≡◌, ◌<◌, ◌≤◌, ◌⊎◌, ℕ, suc, ◌+◌, List, [], ◌++◌, Some, take, slice_get}
use Rattle.hs_search.specs.Graphs.{FlowGraph, Has}
use Rattle.hs_search.specs.Levels.{Level, Depth}
use Rattle.hs_search.specs.declared.graph.Node.{Node}

-- a row of the search
pub record Row : Type 0 where
  pub node : Node
  -- the entries of the chain
  pub length : ℕ
  -- of these, those after the first node of the call
  pub level : ℕ

-- one step on
abbrev pub stepped : Row → Node → Row
stepped x y = record { node = y; length = suc x.length; level = suc x.level }

-- into a call
abbrev pub entered_by : Row → Node → Row
entered_by x b = record { node = b; length = suc x.length; level = 0 }

-- back to the caller c after a call that ends at e
abbrev pub returned : Row → Row → Node → Row
returned c e y = record { node = y; length = suc (suc (c.length + e.level)); level = suc (suc (c.level + e.level)) }

-- the row of the start
abbrev pub first_row : FlowGraph → Row
first_row graph = record { node = graph.start; length = 1; level = 0 }

-- some row has the node
abbrev pub Known : List Row → Node → Type 0
Known rows node = (row : Row) × Has rows row × (row.node ≡ node)

-- one step from the rows
pub data Candidate (graph : FlowGraph) (rows : List Row) : Row → Type 0 where
  starts : Candidate graph rows (first_row graph)
  goes : (x : Row) (y : Node) → Has rows x → Has (graph.steps x.node) y → Candidate graph rows (stepped x y)
  enters : (x : Row) (b : Node) → Has rows x → graph.enters x.node ≡ Some b → Candidate graph rows (entered_by x b)
  -- the call that ends at e is one that c enters
  leaves : (c e : Row) (y : Node) → Has rows c → Has rows e → graph.enters c.node ≡ Some (graph.entry e.node) → graph.leaves c.node e.node ≡ Some y
      → Candidate graph rows (returned c e y)

-- a row that a round may make
pub record IsNext (graph : FlowGraph) (rows : List Row) (row : Row) : Type 0 where
  pub candidate : Candidate graph rows row
  pub outside : ¬ (Known rows row.node)
  pub least : (other : Row) → Candidate graph rows other → Known rows other.node ⊎ (row.length ≤ other.length)

-- the rows of rounds
pub data Built (graph : FlowGraph) : List Row → Type 0 where
  nothing : Built graph []
  -- rows of one length are made together
  round : (rows layer : List Row) → Built graph rows → ((row : Row) → Has layer row → IsNext graph rows row) → Built graph (rows ++ layer)

-- no candidate that is left has at most so many entries
abbrev pub Closed : FlowGraph → ℕ → List Row → Type 0
Closed graph most rows = (other : Row) → Candidate graph rows other → Known rows other.node ⊎ (most < other.length)

-- ---- what is offered to the search: `Offers` and `Left` say it of rows

-- between two rounds, of which the next one takes that length
pub record IsReady (graph : FlowGraph) (next : ℕ) (rows : List Row) (Offers : Row → Type 0) : Type 0 where
  pub built : Built graph rows
  pub sound : (o : Row) → Offers o → Candidate graph rows o
  pub complete : (o : Row) → Candidate graph rows o → Known rows o.node ⊎ Offers o
  pub later : (o : Row) → Offers o → next ≤ o.length

-- the offers of that length are taken
pub record IsTaken (next : ℕ) (rows : List Row) (Offers : Row → Type 0) (layer : List Row) (Left : Row → Type 0) : Type 0 where
  pub from : (o : Row) → Left o → Offers o
  pub kept : (o : Row) → Offers o → Known (rows ++ layer) o.node ⊎ Left o
  pub each : (row : Row) → Has layer row → Offers row × (row.length ≡ next) × ¬ (Known rows row.node)
  pub later : (o : Row) → Left o → next < o.length

-- what one row brings, with the rows that have brought theirs
pub data BroughtBy (graph : FlowGraph) (rows : List Row) (x : Row) : Row → Type 0 where
  by_step : (y : Node) → Has (graph.steps x.node) y → BroughtBy graph rows x (stepped x y)
  by_call : (b : Node) → graph.enters x.node ≡ Some b → BroughtBy graph rows x (entered_by x b)
  as_caller : (e : Row) (y : Node) → Has rows e → graph.enters x.node ≡ Some (graph.entry e.node) → graph.leaves x.node e.node ≡ Some y
      → BroughtBy graph rows x (returned x e y)
  as_end : (c : Row) (y : Node) → Has rows c → graph.enters c.node ≡ Some (graph.entry x.node) → graph.leaves c.node x.node ≡ Some y
      → BroughtBy graph rows x (returned c x y)

-- what the rows from the first of these places to the second bring, one after the other
pub record AllBrought (graph : FlowGraph) (rows : List Row) (first count : ℕ) (New : Row → Type 0) : Type 0 where
  pub from : (o : Row) → New o → (n : ℕ) × (x : Row) × (first ≤ n) × (n < count) × (slice_get rows n ≡ Some x) × BroughtBy graph rows x o
  pub brought : (n : ℕ) (x o : Row) → first ≤ n → n < count → slice_get rows n ≡ Some x → BroughtBy graph (take (suc n) rows) x o → New o

-- ---- past the most: only what is reached counts

-- some chain reaches the node, by the beginning of its call
abbrev pub IsWithin : FlowGraph → Node → Type 0
IsWithin graph x = (d : ℕ) × (m : ℕ) × Depth graph d (graph.entry x) × Level graph (graph.entry x) m x

-- the first so many rows have brought their offers
pub record IsClosing (graph : FlowGraph) (count : ℕ) (rows : List Row) (Offers : Row → Type 0) : Type 0 where
  pub within : (row : Row) → Has rows row → IsWithin graph row.node
  pub sound : (o : Row) → Offers o → IsWithin graph o.node
  pub complete : (o : Row) → Candidate graph (take count rows) o → Known rows o.node ⊎ Offers o
