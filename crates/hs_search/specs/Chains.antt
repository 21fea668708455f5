-- Chains through calls, over a stack of callers, and what a search for them comes to (own, after the tabulation of Reps, Horwitz and Sagiv).
--     Chain graph n x stack     a chain of n entries that ends in x; the stack has the callers, the innermost first
--     Reaches graph n x         some chain of n entries ends in x
--     IsReached graph x         some chain ends in x
--     IsShortest graph n x      n entries, and no chain to x has fewer
--     IsLength graph most n x   that number, or one more than the most if each chain to x is longer
--     IsOnce xs                 nothing is in the list twice
--     IsFound graph most pairs  what the search finds
--     IsTooMany graph room      chains reach more nodes than there is room for
--     pairs_at at pairs         the pairs of an operation, in their order
use Rattle.std.specs.Prelude.{◌≡◌, ◌≤◌, ◌<◌, ◌⊎◌, ℕ, suc, ◌==◌, List, [], ◌∷◌, Some, map, length, filter}
use Rattle.hs_search.specs.Graphs.{FlowGraph, Has}
use Rattle.hs_search.specs.declared.found.Pair.{Pair}
use Rattle.hs_search.specs.declared.graph.Node.{Node}

-- chains, by the number of their entries
pub data Chain (graph : FlowGraph) : ℕ → Node → List Node → Type 0 where
  begins : Chain graph 1 graph.start []
  -- a step inside the call
  goes_on : (n : ℕ) (x y : Node) (stack : List Node) → Chain graph n x stack → Has (graph.steps x) y → Chain graph (suc n) y stack
  -- a call is entered; the stack keeps where
  goes_in : (n : ℕ) (x y : Node) (stack : List Node) → Chain graph n x stack → graph.enters x ≡ Some y → Chain graph (suc n) y (x ∷ stack)
  -- the innermost call is left, back to its own caller
  goes_back : (n : ℕ) (c x y : Node) (stack : List Node) → Chain graph n x (c ∷ stack) → graph.leaves c x ≡ Some y → Chain graph (suc n) y stack

-- some chain of so many entries ends in the node
abbrev pub Reaches : FlowGraph → ℕ → Node → Type 0
Reaches graph n x = (stack : List Node) × Chain graph n x stack

-- some chain ends in the node
abbrev pub IsReached : FlowGraph → Node → Type 0
IsReached graph x = (n : ℕ) × Reaches graph n x

-- no chain to the node has fewer entries
pub record IsShortest (graph : FlowGraph) (n : ℕ) (x : Node) : Type 0 where
  -- a chain of so many entries
  pub reaches : Reaches graph n x
  -- and no chain has fewer
  pub least : (other : ℕ) → Reaches graph other x → n ≤ other

-- no chain to the node has at most so many entries
abbrev pub IsFar : FlowGraph → ℕ → Node → Type 0
IsFar graph most x = (n : ℕ) → Reaches graph n x → most < n

-- the length that is given for a node
abbrev pub IsLength : FlowGraph → ℕ → ℕ → Node → Type 0
IsLength graph most n x = ((n ≤ most) × IsShortest graph n x) ⊎ ((n ≡ suc most) × IsFar graph most x)

-- no node is in the list twice
abbrev pub IsOnce : List Node → Type 0
IsOnce [] = Unit {0}
IsOnce (x ∷ xs) = (¬ (Has xs x)) × IsOnce xs

-- the nodes of pairs
abbrev pub nodes_of : List Pair → List Node
nodes_of pairs = map (λ p. p.node) pairs

-- what the pairs of a search say
pub record IsFound (graph : FlowGraph) (most : ℕ) (pairs : List Pair) : Type 0 where
  -- chains reach each of them
  pub reached : (x : Node) → Has (nodes_of pairs) x → IsReached graph x
  -- each node that chains reach is among them
  pub all : (x : Node) → IsReached graph x → Has (nodes_of pairs) x
  -- each once
  pub once : IsOnce (nodes_of pairs)
  -- what the length of each says
  pub lengths : (p : Pair) → Has pairs p → IsLength graph most p.length p.node

-- why a search is refused
pub record IsTooMany (graph : FlowGraph) (room : ℕ) : Type 0 where
  -- different nodes
  pub nodes : List Node
  -- more than there is room for
  pub more : room < length nodes
  -- no two are the same
  pub once : IsOnce nodes
  -- and chains reach each
  pub reached : (x : Node) → Has nodes x → IsReached graph x

-- the pairs of one operation
abbrev pub pairs_at : ℕ → List Pair → List Pair
pairs_at at pairs = filter (λ p. p.node.at == at) pairs
