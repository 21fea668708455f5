-- Which of two chains comes first, by walking back from their ends to the row at which they part (own).
--     Differs xs ys             at the first entries that are not alike, the one of xs comes first
--     IsMadeFrom graph z c es   c is made from z by one link, which adds these entries
--     IsBelow graph z t es      t is made from z by links, which add these entries
--     Judged graph p q          the chain of p is judged to come before that of q
use Rattle.std.specs.Prelude.{◌≡◌, List, [], ◌∷◌, ◌++◌, Some}
use Rattle.hs_search.specs.Graphs.{FlowGraph, Has}
use Rattle.hs_search.specs.Orders.{IsAlike, IsBefore}
use Rattle.hs_search.specs.Traces.{Trace, trace_on, trace_in, trace_back}
use Rattle.hs_search.specs.declared.graph.Node.{Node}

-- entry by entry, whatever comes after
pub data Differs : List Node → List Node → Type 0 where
  now : (x y : Node) (xs ys : List Node) → IsBefore x y → Differs (x ∷ xs) (y ∷ ys)
  later : (x y : Node) (xs ys : List Node) → IsAlike x y → Differs xs ys → Differs (x ∷ xs) (y ∷ ys)

-- ---- traces by links

-- one link
pub data IsMadeFrom (graph : FlowGraph) : Trace → Trace → List Node → Type 0 where
  by_step : (x : Trace) (y : Node) → Has (graph.steps x.row.node) y → IsMadeFrom graph x (trace_on x y) (y ∷ [])
  by_call : (x : Trace) (b : Node) → graph.enters x.row.node ≡ Some b → IsMadeFrom graph x (trace_in x b) (b ∷ [])
  by_return : (c e : Trace) (b y : Node) → graph.enters c.row.node ≡ Some b → graph.leaves c.row.node e.row.node ≡ Some y
      → IsMadeFrom graph c (trace_back c e b y) (b ∷ (e.way ++ y ∷ []))

-- any number of links
pub data IsBelow (graph : FlowGraph) : Trace → Trace → List Node → Type 0 where
  itself : (t : Trace) → IsBelow graph t t []
  through : (z c t : Trace) (es rest : List Node) → IsMadeFrom graph z c es → IsBelow graph c t rest → IsBelow graph z t (es ++ rest)

-- ---- what is judged

pub data Judged (graph : FlowGraph) : Trace → Trace → Type 0 where
  -- the first entries after the meeting differ
  apart : (z a b p q : Trace) (x y : Node) (es es' rest rest' : List Node) → IsMadeFrom graph z a (x ∷ es) → IsBelow graph a p rest
      → IsMadeFrom graph z b (y ∷ es') → IsBelow graph b q rest' → IsBefore x y → Judged graph p q
  -- one goes into the call, the other through it
  in_through : (z p e q : Trace) (b y : Node) (rest rest' : List Node) → graph.enters z.row.node ≡ Some b → IsBelow graph (trace_in z b) p rest
      → graph.leaves z.row.node e.row.node ≡ Some y → IsBelow graph (trace_back z e b y) q rest' → e.down ≡ (trace_in z b).down
      → Judged graph p e → Judged graph p q
  through_in : (z p e q : Trace) (b y : Node) (rest rest' : List Node) → graph.enters z.row.node ≡ Some b → IsBelow graph (trace_in z b) q rest'
      → graph.leaves z.row.node e.row.node ≡ Some y → IsBelow graph (trace_back z e b y) p rest → e.down ≡ (trace_in z b).down
      → Judged graph e q → Judged graph p q
  -- both go through it, and end it in two ways
  through_both : (z p q e f : Trace) (b y w : Node) (rest rest' : List Node) → graph.enters z.row.node ≡ Some b
      → graph.leaves z.row.node e.row.node ≡ Some y → IsBelow graph (trace_back z e b y) p rest
      → graph.leaves z.row.node f.row.node ≡ Some w → IsBelow graph (trace_back z f b w) q rest' → e.down ≡ f.down
      → Judged graph e f → Judged graph p q
