-- Rows with the entries of their chains, made round by round (own, after Dijkstra and Knuth).
--     Trace                     a row with its chain, parted at the beginning of its call
--     entries_of t              the whole chain
--     Continues graph traces t  a step from the traces gives it
--     IsBestNext                it may be made next, and no step gives its node a better chain
--     Traced graph traces       they are made round by round, each the best of its node
use Rattle.std.specs.Prelude.{◌≡◌, List, [], ◌∷◌, ◌++◌, map, Some}
use Rattle.hs_search.specs.Graphs.{FlowGraph, Has}
use Rattle.hs_search.specs.Orders.{Best}
use Rattle.hs_search.specs.Rounds.{Row, IsNext, stepped, entered_by, returned, first_row}
use Rattle.hs_search.specs.declared.graph.Node.{Node}

-- a row with its chain
pub record Trace : Type 0 where
  pub row : Row
  -- the entries up to the first one of the call
  pub down : List Node
  -- and those after it
  pub way : List Node

-- the rows alone
abbrev pub rows_in : List Trace → List Row
rows_in traces = map (λ t. t.row) traces

-- the entries of the chain
abbrev pub entries_of : Trace → List Node
entries_of t = t.down ++ t.way

-- ---- one step

-- the start
abbrev pub first_trace : FlowGraph → Trace
first_trace graph = record { row = first_row graph; down = graph.start ∷ []; way = [] }

-- one step on
abbrev pub trace_on : Trace → Node → Trace
trace_on x y = record { row = stepped x.row y; down = x.down; way = x.way ++ y ∷ [] }

-- into a call
abbrev pub trace_in : Trace → Node → Trace
trace_in x b = record { row = entered_by x.row b; down = (x.down ++ x.way) ++ b ∷ []; way = [] }

-- back to the caller c, after a call that begins with b and ends at e
abbrev pub trace_back : Trace → Trace → Node → Node → Trace
trace_back c e b y = record { row = returned c.row e.row y; down = c.down; way = c.way ++ b ∷ (e.way ++ y ∷ []) }

-- what a step from the traces gives
pub data Continues (graph : FlowGraph) (traces : List Trace) : Trace → Type 0 where
  starts : Continues graph traces (first_trace graph)
  goes : (x : Trace) (y : Node) → Has traces x → Has (graph.steps x.row.node) y → Continues graph traces (trace_on x y)
  enters : (x : Trace) (b : Node) → Has traces x → graph.enters x.row.node ≡ Some b → Continues graph traces (trace_in x b)
  leaves : (c e : Trace) (b y : Node) → Has traces c → Has traces e → graph.enters c.row.node ≡ Some b → graph.entry e.row.node ≡ b
      → graph.leaves c.row.node e.row.node ≡ Some y → Continues graph traces (trace_back c e b y)

-- ---- rounds

-- a round may make it, and neither part of its chain can be better
pub record IsBestNext (graph : FlowGraph) (traces : List Trace) (t : Trace) : Type 0 where
  pub continues : Continues graph traces t
  pub next : IsNext graph (rows_in traces) t.row
  pub down : (other : Trace) → Continues graph traces other → other.row.node ≡ t.row.node → Best t.down other.down
  pub way : (other : Trace) → Continues graph traces other → other.row.node ≡ t.row.node → Best t.way other.way

-- the traces of rounds
pub data Traced (graph : FlowGraph) : List Trace → Type 0 where
  nothing : Traced graph []
  -- those of one length are made together
  round : (traces layer : List Trace) → Traced graph traces → ((t : Trace) → Has layer t → IsBestNext graph traces t) → Traced graph (traces ++ layer)
