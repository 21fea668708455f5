-- What rows stand for by their links (own). Rows are counted from 1.
--     trace_at traces n         the trace of the row of that number
--     Makes graph traces up link first t   the link makes the trace from those of the rows that it names, and this is the first entry that it adds
--     AreTraced                 each row stands for the trace of its number
--     Stands                    the same with the row at which its call begins
--     AreLeast                  the rows stand for the least of the shortest chains
use Rattle.std.specs.Prelude.{◌≡◌, ℕ, zero, suc, List, Option, Some, None, length, slice_get}
use Rattle.hs_search.specs.Graphs.{FlowGraph, Has}
use Rattle.hs_search.specs.Judging.{first_entry, link_of}
use Rattle.hs_search.specs.Storing.{row_of}
use Rattle.hs_search.specs.Traces.{Trace, Traced, first_trace, trace_on, trace_in, trace_back}
use Rattle.hs_search.specs.declared.graph.Node.{Node}
use Rattle.hs_search.specs.declared.judging.Link.{Link}
use Rattle.hs_search.specs.declared.judging.Link.TheVariants as link
use Rattle.hs_search.specs.declared.lists.Item.{Item}
use Rattle.hs_search.specs.declared.reach.Reach.{Reach}

-- there is none before the start
abbrev pub trace_at : List Trace → ℕ → Option Trace
trace_at traces zero = None
trace_at traces (suc n) = slice_get traces n

-- one link
abbrev pub Makes : FlowGraph → List Trace → ℕ → Link → Node → Trace → Type 0
Makes graph traces zero l first t = (l ≡ link.Entry) × (first ≡ graph.start) × (first_trace graph ≡ t)
Makes graph traces (suc up) link.Step first t =
    (x : Trace) × (y : Node) × (slice_get traces up ≡ Some x) × Has (graph.steps x.row.node) y × (first ≡ y) × (trace_on x y ≡ t)
Makes graph traces (suc up) link.Entry first t =
    (x : Trace) × (b : Node) × (slice_get traces up ≡ Some x) × (graph.enters x.row.node ≡ Some b) × (graph.entry b ≡ b) × (first ≡ b)
    × (trace_in x b ≡ t)
Makes graph traces (suc up) (link.Return end) first t =
    (c : Trace) × (e : Trace) × (b : Node) × (y : Node) × (slice_get traces up ≡ Some c) × (trace_at traces end ≡ Some e)
    × (graph.enters c.row.node ≡ Some b) × (graph.entry e.row.node ≡ b) × (graph.leaves c.row.node e.row.node ≡ Some y) × (first ≡ b)
    × (trace_back c e b y ≡ t)

-- of all rows
pub record AreTraced (graph : FlowGraph) (entries : List (Item ℕ)) (rows : List (Item Reach)) (traces : List Trace) : Type 0 where
  pub has : (n : ℕ) (it : Item Reach) → slice_get rows n ≡ Some it
      → (t : Trace) × (slice_get traces n ≡ Some t) × Makes graph traces it.value.origin.up (link_of it.value) (first_entry entries rows it.value) t
  -- rows of one call share what leads down to it
  pub shared : (n m : ℕ) (t u : Trace) → trace_at traces n ≡ Some t → trace_at traces m ≡ Some u → graph.entry t.row.node ≡ graph.entry u.row.node
      → t.down ≡ u.down

-- a row stands for the trace of its number, and shares what leads down to its call with the row at which that begins
pub record Stands (graph : FlowGraph) (entries : List (Item ℕ)) (rows : List (Item Reach)) (traces : List Trace) (n : ℕ) (it : Item Reach) : Type 0 where
  pub t : Trace
  pub there : slice_get traces n ≡ Some t
  pub row : t.row ≡ row_of entries it.value
  pub made : Makes graph traces it.value.origin.up (link_of it.value) (first_entry entries rows it.value) t
  pub base : ℕ
  pub u : Trace
  pub at_base : slice_get traces base ≡ Some u
  pub own : u.row.node ≡ graph.entry t.row.node
  pub down : t.down ≡ u.down
  pub low : u.row.level ≡ 0

-- they were made round by round, each the best of its node
pub record AreLeast (graph : FlowGraph) (entries : List (Item ℕ)) (rows : List (Item Reach)) : Type 0 where
  pub traces : List Trace
  pub traced : Traced graph traces
  pub long : length traces ≡ length rows
  pub stands : (n : ℕ) (it : Item Reach) → slice_get rows n ≡ Some it → Stands graph entries rows traces n it
