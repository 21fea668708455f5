-- Graphs whose steps may enter calls and leave them (own, after the tabulation of Reps, Horwitz and Sagiv).
--     Has xs x                  x is in the list
--     FlowGraph                 the steps of nodes: inside a call, into one, and back
--     IsFramed graph            a step stays in its call, an entered call begins with its own node, and a return goes back to its caller's call
use Rattle.std.specs.Prelude.{◌≡◌, ◌≢◌, ◌<◌, ◌⊎◌, ℕ, Bool, true, List, [], ◌∷◌, Option, Some, None}
use Rattle.hs_search.specs.declared.graph.Node.{Node}

-- it is in the list
abbrev pub Has : {A : Type 0} → List A → A → Type 0
Has [] x = ⊥
Has (y ∷ ys) x = (y ≡ x) ⊎ Has ys x

-- a graph with calls
pub record FlowGraph : Type 0 where
  -- how many operations there are
  pub count : ℕ
  -- where every chain begins
  pub start : Node
  -- the nodes one step on in the same call, those after a call that is stepped over included
  pub steps : Node → List Node
  -- the first node of the call that is entered there
  pub enters : Node → Option Node
  -- whether a call may end there
  pub ends : Node → Bool
  -- where the caller goes on when its call ends at the second node
  pub leaves : Node → Node → Option Node
  -- the node with which the call of a node began
  pub entry : Node → Node

-- what each graph keeps
pub record IsFramed (graph : FlowGraph) : Type 0 where
  -- which call a node is in
  pub at_start : graph.entry graph.start ≡ graph.start
  pub by_step : (x y : Node) → Has (graph.steps x) y → graph.entry y ≡ graph.entry x
  pub by_call : (x y : Node) → graph.enters x ≡ Some y → graph.entry y ≡ y
  pub by_return : (c x y : Node) → graph.leaves c x ≡ Some y → graph.entry y ≡ graph.entry c
  -- the call began with the fact with which its nodes say that it was entered
  pub own : (x : Node) → (graph.entry x).fact ≡ x.entered
  -- operations are in range
  pub start_within : graph.start.at < graph.count
  pub step_within : (x y : Node) → Has (graph.steps x) y → y.at < graph.count
  pub call_within : (x y : Node) → graph.enters x ≡ Some y → y.at < graph.count
  pub return_within : (c x y : Node) → graph.leaves c x ≡ Some y → y.at < graph.count
  -- a call is left where one may end, and nothing else is done there
  pub ended : (c x y : Node) → graph.leaves c x ≡ Some y → graph.ends x ≡ true
  pub stops : (x : Node) → graph.ends x ≡ true → (graph.steps x ≡ []) × (graph.enters x ≡ None)
  -- the operation after a call is not the first one of what it calls
  pub apart : (x y b : Node) → Has (graph.steps x) y → graph.enters x ≡ Some b → y.at ≢ b.at
