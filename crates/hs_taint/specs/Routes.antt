-- The graph of a program, whose chains are those of the program (own).
--     targets_of its cases                   the operations that an answer names, in its order
--     facts_after whole known f at op fact   the facts at the next operation of the same call, those that go over a call too
--     node_at, entry_node                    the node of a fact at an operation, and at the start of a function
--     Site, site_of whole n                  the operation of a number, with its function
--     flow_of whole known                    the graph
-- A step to an operation that is not there leads to no node. So an operation that falls off the end of its function is the last one of its chains.
use Rattle.std.specs.Prelude.{ℕ, suc, ◌-◌, ◌==◌, nat_lt, Bool, true, false, ◌&&◌, List, [], ◌∷◌, ◌++◌, length, map, take, drop, slice_get, Option, Some, None, option_map, if◌then◌else◌}
use Rattle.hs_chains.specs.Chains.{first_fact}
use Rattle.hs_chains.specs.Knowledge.{Knowledge}
use Rattle.hs_code.specs.Following.{successors_of}
use Rattle.hs_code.specs.declared.function_code.Case.{Case}
use Rattle.hs_code.specs.declared.function_code.FunctionCode.{FunctionCode}
use Rattle.hs_code.specs.declared.function_code.Placed.{Placed}
use Rattle.hs_code.specs.declared.op.Op.{Op}
use Rattle.hs_code.specs.declared.op.Op.TheVariants as op
use Rattle.hs_code.specs.declared.successors.Successors.{Successors}
use Rattle.hs_effects.specs.Calling.{callee_of}
use Rattle.hs_facts.specs.Effects.{WholeCode, placed_in}
use Rattle.hs_flow.specs.Calls.{over_of, enter_of, leave_of}
use Rattle.hs_flow.specs.Programs.{next_in, parameters_of}
use Rattle.hs_flow.specs.declared.fact.Fact.{Fact}
use Rattle.hs_search.specs.Graphs.{FlowGraph}
use Rattle.hs_search.specs.declared.graph.Node.{Node}
use Rattle.hs_taint.specs.Coding.{code_of, fact_of}
use Rattle.hs_taint.specs.Nodes.{each_in, node_in}
use Rattle.hs_taint.specs.Points.{Point, count_of, is_there, point_of, start_of}

-- ---- control

-- one or none
abbrev pub listed : Option ℕ → List ℕ
listed None = []
listed (Some it) = it ∷ []

-- the cases from one place up to another
abbrev pub cases_in : List Case → ℕ → ℕ → List Case
cases_in cases first end = take (end - first) (drop first cases)

-- the operation to which a case goes
abbrev pub target_of : Case → ℕ
target_of its = its.target

-- the next operation, the target of a jump, and those of cases
abbrev pub targets_of : Successors → List Case → List ℕ
targets_of its cases = listed its.next ++ (listed its.jump ++ map target_of (cases_in cases its.cases.0 its.cases.1))

-- the cases of a function that is there
abbrev pub cases_of : Option FunctionCode → List Case
cases_of None = []
cases_of (Some code) = code.cases

-- ---- tests of operations

-- the operation returns
abbrev pub is_return : Op → Bool
is_return op.Return = true
is_return _ = false

-- the function that is called is that one
abbrev pub is_callee : Option ℕ → ℕ → Bool
is_callee None f = false
is_callee (Some g) f = g == f

-- ---- operations of the program

-- an operation of a function, by its number there
pub record Site : Type 0 where
  pub function : ℕ
  pub at : ℕ
  pub its : Placed

-- the operation of a point, if it is there
abbrev pub site_at : Point → Option Placed → Option Site
site_at p None = None
site_at p (Some its) = Some (record { function = p.function; at = p.at; its = its })

-- of a point that is there
abbrev pub site_by : WholeCode → Option Point → Option Site
site_by whole None = None
site_by whole (Some p) = site_at p (placed_in whole p.function p.at)

-- the operation of that number in the whole program
abbrev pub site_of : WholeCode → ℕ → Option Site
site_of whole n = site_by whole (point_of whole.functions n)

-- ---- nodes

-- a fact at an operation, in a call that was entered with the fact of that number
abbrev pub node_at : WholeCode → ℕ → ℕ → ℕ → Fact → Node
node_at whole f at entered fact = node_in whole.functions f entered at fact

-- a fact with which a function is entered
abbrev pub entry_node : WholeCode → ℕ → Fact → Node
entry_node whole f fact = record { at = start_of whole.functions f; fact = code_of fact; entered = code_of fact }

-- each of the facts at each of the operations, if they are there
abbrev pub nodes_each : WholeCode → ℕ → ℕ → List Fact → List ℕ → List Node
nodes_each whole f entered facts ats = each_in whole.functions f entered facts ats

module _ (whole : WholeCode) (known : Knowledge) where
  -- ---- steps

  -- by the function that the operation calls, if it is there
  abbrev pub facts_by : Option ℕ → ℕ → ℕ → Op → Fact → List Fact
  facts_by None f at its fact = next_in whole f (known.at f at) its fact
  facts_by (Some g) f at its fact = if nat_lt g (length whole.functions) then over_of (known.of g) (known.at f at) fact else []

  -- the facts at the next operation of the same call
  abbrev pub facts_after : ℕ → ℕ → Op → Fact → List Fact
  facts_after f at its fact = facts_by (callee_of its) f at its fact

  -- the nodes after one
  abbrev pub steps_at : Option Site → Node → List Node
  steps_at None x = []
  steps_at (Some s) x =
      nodes_each whole s.function x.entered (facts_after s.function s.at s.its.op (fact_of x.fact))
      (targets_of (successors_of s.its.op s.at) (cases_of (slice_get whole.functions s.function)))

  -- by the function that is called, if it has an operation
  abbrev pub enters_by : Option ℕ → ℕ → ℕ → Fact → Option Node
  enters_by None f at fact = None
  enters_by (Some g) f at fact =
      if is_there whole.functions g 0 then option_map (entry_node whole g) (enter_of (parameters_of whole g) (known.at f at) fact) else None

  -- the first node of the call
  abbrev pub enters_at : Option Site → Node → Option Node
  enters_at None x = None
  enters_at (Some s) x = enters_by (callee_of s.its.op) s.function s.at (fact_of x.fact)

  -- a return ends its call
  abbrev pub ends_at : Option Site → Bool
  ends_at None = false
  ends_at (Some s) = is_return s.its.op

  -- the fact in the caller, if the function returns with the first of the facts; a return has one at most
  abbrev pub left_by : ℕ → ℕ → ℕ → Fact → List Fact → Option Fact
  left_by g f at fact [] = None
  left_by g f at fact (exit ∷ rest) = leave_of (known.of g) (known.at f at) fact exit

  -- from the second operation, which is a return of the function that the first one calls, to the operation after the first one
  abbrev pub leaves_by : Site → Site → Node → Node → Option Node
  leaves_by c s caller last =
      if is_callee (callee_of c.its.op) s.function && (is_return s.its.op && is_there whole.functions c.function (suc c.at))
      then option_map (node_at whole c.function (suc c.at) caller.entered)
      (left_by s.function c.function c.at (fact_of caller.fact) (next_in whole s.function (known.at s.function s.at) op.Return (fact_of last.fact)))
      else None

  -- of operations that are there
  abbrev pub leaves_at : Option Site → Option Site → Node → Node → Option Node
  leaves_at None s caller last = None
  leaves_at (Some c) None caller last = None
  leaves_at (Some c) (Some s) caller last = leaves_by c s caller last

  -- the first operation of a function
  abbrev pub entry_at : Option Point → ℕ
  entry_at None = 0
  entry_at (Some p) = start_of whole.functions p.function

  -- ---- the graph

  -- by the number of an operation, and of facts
  abbrev pub flow_of : FlowGraph
  flow_of =
      record {
        count = count_of whole.functions;
        start = entry_node whole whole.program.main first_fact;
        steps = λ x. steps_at (site_of whole x.at) x;
        enters = λ x. enters_at (site_of whole x.at) x;
        ends = λ x. ends_at (site_of whole x.at);
        leaves = λ c x. leaves_at (site_of whole c.at) (site_of whole x.at) c x;
        entry = λ x. record { at = entry_at (point_of whole.functions x.at); fact = x.entered; entered = x.entered };
      }
