-- Chains by calls: the way to the beginning of a call, and the way inside it (own).
--     Level graph e n x            n steps from e to x inside one call; calls that end are counted with their steps
--     Depth graph n e              a chain of n entries to the beginning e of a call
use Rattle.std.specs.Prelude.{◌≡◌, ℕ, suc, ◌+◌, Some}
use Rattle.hs_search.specs.Graphs.{FlowGraph, Has}
use Rattle.hs_search.specs.declared.graph.Node.{Node}

-- a way inside one call, from its beginning
pub data Level (graph : FlowGraph) : Node → ℕ → Node → Type 0 where
  here : (e : Node) → Level graph e 0 e
  on : (e x y : Node) (n : ℕ) → Level graph e n x → Has (graph.steps x) y → Level graph e (suc n) y
  call : (e c b x y : Node) (n m k : ℕ) → Level graph e n c → graph.enters c ≡ Some b → Level graph b m x → graph.leaves c x ≡ Some y
      → k ≡ suc (suc (n + m)) → Level graph e k y

-- a way to the beginning of a call
pub data Depth (graph : FlowGraph) : ℕ → Node → Type 0 where
  main : Depth graph 1 graph.start
  entered : (n m k : ℕ) (e c b : Node) → Depth graph n e → Level graph e m c → graph.enters c ≡ Some b → k ≡ suc (n + m) → Depth graph k b
