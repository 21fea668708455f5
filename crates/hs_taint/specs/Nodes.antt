-- Nodes over the functions of a program alone.
--     node_in, nodes_in, each_in    as node_at, nodes_at, nodes_each of Routes
use Rattle.std.specs.Prelude.{ℕ, ◌+◌, List, [], ◌∷◌, ◌++◌, map, if◌then◌else◌}
use Rattle.hs_code.specs.declared.function_code.FunctionCode.{FunctionCode}
use Rattle.hs_flow.specs.declared.fact.Fact.{Fact}
use Rattle.hs_search.specs.declared.graph.Node.{Node}
use Rattle.hs_taint.specs.Coding.{code_of}
use Rattle.hs_taint.specs.Points.{is_there, start_of}

-- a fact at an operation, in a call that was entered with the fact of that number
abbrev pub node_in : List FunctionCode → ℕ → ℕ → ℕ → Fact → Node
node_in functions f entered at fact = record { at = start_of functions f + at; fact = code_of fact; entered = entered }

-- each of the facts at an operation, if it is there
abbrev pub nodes_in : List FunctionCode → ℕ → ℕ → List Fact → ℕ → List Node
nodes_in functions f entered facts at = if is_there functions f at then map (node_in functions f entered at) facts else []

-- at each of the operations
abbrev pub each_in : List FunctionCode → ℕ → ℕ → List Fact → List ℕ → List Node
each_in functions f entered facts [] = []
each_in functions f entered facts (at ∷ rest) = nodes_in functions f entered facts at ++ each_in functions f entered facts rest
