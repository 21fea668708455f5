-- Chains by their entries (own).
--     Trail graph t x stack     a chain with the entries t, over the calls of the stack
--     IsLeastTrail graph x t    the entries of a chain to x that comes before each other one, or is alike entry by entry
--     Way graph e s x           a way inside one call from its beginning e to x, by the entries s after e
--     Down graph d e            a chain to the beginning e of a call, by all its entries
use Rattle.std.specs.Prelude.{◌≡◌, List, [], ◌∷◌, ◌++◌, Some}
use Rattle.hs_search.specs.Graphs.{FlowGraph, Has}
use Rattle.hs_search.specs.Orders.{Best}
use Rattle.hs_search.specs.declared.graph.Node.{Node}

-- chains, by their entries
pub data Trail (graph : FlowGraph) : List Node → Node → List Node → Type 0 where
  trail_begins : Trail graph (graph.start ∷ []) graph.start []
  trail_goes : (t : List Node) (x y : Node) (stack : List Node) → Trail graph t x stack → Has (graph.steps x) y → Trail graph (t ++ y ∷ []) y stack
  trail_enters : (t : List Node) (x y : Node) (stack : List Node) → Trail graph t x stack → graph.enters x ≡ Some y
      → Trail graph (t ++ y ∷ []) y (x ∷ stack)
  trail_leaves : (t : List Node) (c x y : Node) (stack : List Node) → Trail graph t x (c ∷ stack) → graph.leaves c x ≡ Some y
      → Trail graph (t ++ y ∷ []) y stack

-- no chain to the node comes before this one
pub record IsLeastTrail (graph : FlowGraph) (x : Node) (t : List Node) : Type 0 where
  pub stack : List Node
  pub trail : Trail graph t x stack
  pub least : (other stack : List Node) → Trail graph other x stack → Best t other

-- ---- chains without stacks

-- a way inside one call, from its beginning
pub data Way (graph : FlowGraph) : Node → List Node → Node → Type 0 where
  stays : (e : Node) → Way graph e [] e
  walks : (e x y : Node) (s : List Node) → Way graph e s x → Has (graph.steps x) y → Way graph e (s ++ y ∷ []) y
  -- through a whole call, which begins with b
  calls : (e c b x y : Node) (s t : List Node) → Way graph e s c → graph.enters c ≡ Some b → Way graph b t x → graph.leaves c x ≡ Some y
      → Way graph e (s ++ b ∷ (t ++ y ∷ [])) y

-- a chain to the beginning of a call
pub data Down (graph : FlowGraph) : List Node → Node → Type 0 where
  at_main : Down graph (graph.start ∷ []) graph.start
  deeper : (e c b : Node) (d s : List Node) → Down graph d e → Way graph e s c → graph.enters c ≡ Some b → Down graph ((d ++ s) ++ b ∷ []) b
