-- Each chain of a program has its way in the graph.
--     node_of                       the node of a spot
--     AreCallers                    the nodes of the calls of a stack
--     way_of                        the way of a chain
use Rattle.hs_chains.specs.Chains.{Chain, Enters, FollowsOf, Goes, Leaves, Over, Spot, begins, enters, first_fact, first_spot, goes, goes_over, leaves}
use Rattle.hs_chains.specs.Knowledge.{Knowledge}
use Rattle.hs_code.specs.Following.{IsNextOf, successors_of}
use Rattle.hs_code.specs.declared.function_code.FunctionCode.{FunctionCode}
use Rattle.hs_code.specs.declared.function_code.Placed.{Placed}
use Rattle.hs_code.specs.declared.op.Op.TheVariants as op
use Rattle.hs_code.specs.declared.op.Op.{Op}
use Rattle.hs_effects.specs.Calling.{callee_of}
use Rattle.hs_facts.specs.Effects.{WholeCode}
use Rattle.hs_facts.specs.Effects.{ops_in}
use Rattle.hs_flow.specs.Among.{Among}
use Rattle.hs_flow.specs.Calls.{enter_of, leave_of, over_of}
use Rattle.hs_flow.specs.Programs.{next_in, parameters_of}
use Rattle.hs_flow.specs.declared.fact.Fact.{Fact}
use Rattle.hs_flow.specs.declared.fact.Slot.{Slot}
use Rattle.hs_search.specs.Chains.{Chain as Way, begins as starts, goes_on, goes_in, goes_back}
use Rattle.hs_search.specs.Graphs.{Has}
use Rattle.hs_search.specs.declared.graph.Node.{Node}
use Rattle.hs_taint.specs.Coding.{IsSmall}
use Rattle.hs_taint.specs.Coding.{code_of, fact_of}
use Rattle.hs_taint.specs.Laws.Coding.{fact_of_code}
use Rattle.hs_taint.specs.Laws.Following.{among_next, is_call, next_among}
use Rattle.hs_taint.specs.Laws.Nodes.{exit_one, nodes_of_each, site_of_number, there_placed}
use Rattle.hs_taint.specs.Laws.Small.{SmallFacts, small_among}
use Rattle.hs_taint.specs.Laws.Small.{SmallFacts}
use Rattle.hs_taint.specs.Laws.SmallCalls.{IsSmallProgram, enter_small, leave_small, over_small, parameters_small, small_some, step_small}
use Rattle.hs_taint.specs.Points.{is_there, start_of}
use Rattle.hs_taint.specs.Routes.{cases_of, enters_at, enters_by, entry_node, facts_after, facts_by, flow_of, is_callee, is_return, leaves_at, leaves_by, left_by, node_at, site_of, steps_at, targets_of}
use Rattle.std.proofs.Common.{◌≡◌, inl, ◌∙◌, ℕ, suc, ◌+◌, ◌==◌, nat_lt, true, ◌&&◌, if◌then◌else◌, List, [], ◌∷◌, length, slice_get, Option, Some, None, ap, sym, subst, refl, arith}
use Rattle.std.proofs.lemmas.Bool.Decides.{nat_tests}
use Rattle.std.specs.Prelude.{option_map}

-- the node of a spot in a call that was entered with that fact
abbrev pub node_of : WholeCode → Spot → Fact → Node
node_of whole x entry = node_at whole x.function x.at (code_of entry) x.fact

module _ (whole : WholeCode) (known : Knowledge) where
  -- The nodes are those of the calls of the stack, each in a call that was entered by the next one. The innermost one enters f with the fact `entry`.
  abbrev pub AreCallers : List Spot → ℕ → Fact → List Node → Type 0
  AreCallers [] f entry [] = entry ≡ first_fact
  AreCallers [] f entry (node ∷ nodes) = ⊥
  AreCallers (c ∷ stack) f entry [] = ⊥
  AreCallers (c ∷ stack) f entry (node ∷ nodes) =
      (outer : Fact) × (node ≡ node_of whole c outer) × IsSmall c.fact × (is_there whole.functions c.function c.at ≡ true)
      × (enter_of (parameters_of whole f) (known.at c.function c.at) c.fact ≡ Some entry) × AreCallers stack c.function outer nodes

  -- a way in the graph that ends where a chain does
  pub record IsWay (n : ℕ) (x : Spot) (stack : List Spot) : Type 0 where
    pub entry : Fact
    pub nodes : List Node
    pub callers : AreCallers stack x.function entry nodes
    pub way : Way (flow_of whole known) n (node_of whole x entry) nodes
    pub small : IsSmall x.fact

  -- a chain that ends where a way in the graph does
  pub record IsChain (n : ℕ) (node : Node) (nodes : List Node) : Type 0 where
    pub x : Spot
    pub entry : Fact
    pub stack : List Spot
    pub is : node ≡ node_of whole x entry
    pub callers : AreCallers stack x.function entry nodes
    pub chain : Chain whole known n x stack
    pub there : is_there whole.functions x.function x.at ≡ true
    pub small : IsSmall x.fact

  -- ---- facts

  pub first_small : IsSmall first_fact
  first_small = record { number = omega (arith); status = tt }

  pub start_is : entry_node whole whole.program.main first_fact ≡ node_of whole (first_spot whole known) first_fact
  start_is =
      let number : start_of whole.functions whole.program.main ≡ start_of whole.functions whole.program.main + 0 = omega (arith) in
      ap (λ at. record { at = at; fact = code_of first_fact; entered = code_of first_fact }) number

  pub entry_is_node : (f : ℕ) (fact : Fact) → entry_node whole f fact ≡ node_at whole f 0 (code_of fact) fact
  entry_is_node f fact =
      let number : start_of whole.functions f ≡ start_of whole.functions f + 0 = omega (arith) in
      ap (λ at. record { at = at; fact = code_of fact; entered = code_of fact }) number

  same_number : (f : ℕ) → (f == f) ≡ true
  same_number f = grind (arith, nat_tests)

  -- ---- by the operation

  -- control goes to an operation that is among the targets
  targets_there : (o : Option FunctionCode) (at next : ℕ) (its : Placed) → slice_get (ops_in o) at ≡ Some its → FollowsOf o at next
      → Among (targets_of (successors_of its.op at) (cases_of o)) next
  targets_there None at next its there follows = absurd follows
  targets_there (Some code) at next its there follows =
      next_among its.op code.cases at next (subst (λ o. IsNextOf o code.cases at next) there follows)

  pub targets_back : (o : Option FunctionCode) (at next : ℕ) (its : Placed) → slice_get (ops_in o) at ≡ Some its
      → Among (targets_of (successors_of its.op at) (cases_of o)) next → FollowsOf o at next
  targets_back None at next its there among = absurd (cc)
  targets_back (Some code) at next its there among =
      subst (λ o. IsNextOf o code.cases at next) (sym there) (among_next its.op code.cases at next among)

  -- an operation with facts after it in the same call is no call
  no_call : (f at : ℕ) (its : Op) (fact next : Fact) → Among (next_in whole f (known.at f at) its fact) next
      → Among (facts_after whole known f at its fact) next
  no_call f at its fact next is = by (callee_of its) refl
    where
      by : (o : Option ℕ) → callee_of its ≡ o → Among (facts_by whole known o f at its fact) next
      by None calls = is
      by (Some g) calls = absurd (subst (λ its. Among (next_in whole f (known.at f at) its fact) next) (is_call its g calls) is)

  -- ---- from chains to the graph

  module _ (fits : IsSmallProgram whole known) where
    by_goes : (n : ℕ) (x y : Spot) (stack : List Spot) → IsWay n x stack → Goes whole known x y → is_there whole.functions y.function y.at ≡ true
        → IsWay (suc n) y stack
    by_goes n x y stack before step there =
        let fact : fact_of (code_of x.fact) ≡ x.fact = fact_of_code x.fact before.small in
        let site = site_of_number whole x.function x.at step.its step.there in
        let among : Among (facts_after whole known x.function x.at step.its.op (fact_of (code_of x.fact))) y.fact =
        subst (λ fact. Among (facts_after whole known x.function x.at step.its.op fact) y.fact) (sym fact)
        (no_call x.function x.at step.its.op x.fact y.fact step.has) in
        let target = targets_there (slice_get whole.functions x.function) x.at y.at step.its step.there step.follows in
        let y_there : is_there whole.functions x.function y.at ≡ true = subst (λ f. is_there whole.functions f y.at ≡ true) step.same there in
        let node : Has (steps_at whole known (Some (record { function = x.function; at = x.at; its = step.its })) (node_of whole x before.entry))
        (node_at whole x.function y.at (code_of before.entry) y.fact) =
        nodes_of_each whole x.function (code_of before.entry)
        (facts_after whole known x.function x.at step.its.op (fact_of (code_of x.fact)))
        (targets_of (successors_of step.its.op x.at) (cases_of (slice_get whole.functions x.function))) y.at y.fact target y_there among in
        let has : Has ((flow_of whole known).steps (node_of whole x before.entry)) (node_of whole y before.entry) =
        subst (λ f. Has ((flow_of whole known).steps (node_of whole x before.entry)) (node_at whole f y.at (code_of before.entry) y.fact)) (sym step.same)
        (subst (λ o. Has (steps_at whole known o (node_of whole x before.entry)) (node_at whole x.function y.at (code_of before.entry) y.fact))
        (sym site) node) in
        record {
          entry = before.entry;
          nodes = before.nodes;
          callers = subst (λ f. AreCallers stack f before.entry before.nodes) (sym step.same) before.callers;
          way = goes_on n (node_of whole x before.entry) (node_of whole y before.entry) before.nodes before.way has;
          small =
              small_among (next_in whole x.function (known.at x.function x.at) step.its.op x.fact) y.fact
              (step_small whole known fits x.function x.at step.its x.fact step.there before.small) step.has;
        }

    by_over : (n : ℕ) (x y : Spot) (stack : List Spot) → IsWay n x stack → Over whole known x y → is_there whole.functions y.function y.at ≡ true
        → IsWay (suc n) y stack
    by_over n x y stack before step there =
        let fact : fact_of (code_of x.fact) ≡ x.fact = fact_of_code x.fact before.small in
        let its : Placed = step.call.its in
        let site = site_of_number whole x.function x.at its step.call.there in
        let callee : callee_of its.op ≡ Some step.callee = ap callee_of step.call.calls in
        let inside : nat_lt step.callee (length whole.functions) ≡ true = let below = step.call.of_function in grind (arith, nat_tests) in
        let over : Among (facts_by whole known (Some step.callee) x.function x.at its.op x.fact) y.fact =
        subst (λ b. Among (if b then over_of (known.of step.callee) (known.at x.function x.at) x.fact else []) y.fact) (sym inside) step.has in
        let among : Among (facts_after whole known x.function x.at its.op (fact_of (code_of x.fact))) y.fact =
        subst (λ fact. Among (facts_after whole known x.function x.at its.op fact) y.fact) (sym fact)
        (subst (λ o. Among (facts_by whole known o x.function x.at its.op x.fact) y.fact) (sym callee) over) in
        let target : Among (targets_of (successors_of its.op x.at) (cases_of (slice_get whole.functions x.function))) y.at =
        subst (λ o. Among (targets_of (successors_of o x.at) (cases_of (slice_get whole.functions x.function))) y.at) (sym step.call.calls) (inl step.next) in
        let y_there : is_there whole.functions x.function y.at ≡ true = subst (λ f. is_there whole.functions f y.at ≡ true) step.same there in
        let node : Has (steps_at whole known (Some (record { function = x.function; at = x.at; its = its })) (node_of whole x before.entry))
        (node_at whole x.function y.at (code_of before.entry) y.fact) =
        nodes_of_each whole x.function (code_of before.entry)
        (facts_after whole known x.function x.at its.op (fact_of (code_of x.fact)))
        (targets_of (successors_of its.op x.at) (cases_of (slice_get whole.functions x.function))) y.at y.fact target y_there among in
        let has : Has ((flow_of whole known).steps (node_of whole x before.entry)) (node_of whole y before.entry) =
        subst (λ f. Has ((flow_of whole known).steps (node_of whole x before.entry)) (node_at whole f y.at (code_of before.entry) y.fact)) (sym step.same)
        (subst (λ o. Has (steps_at whole known o (node_of whole x before.entry)) (node_at whole x.function y.at (code_of before.entry) y.fact))
        (sym site) node) in
        record {
          entry = before.entry;
          nodes = before.nodes;
          callers = subst (λ f. AreCallers stack f before.entry before.nodes) (sym step.same) before.callers;
          way = goes_on n (node_of whole x before.entry) (node_of whole y before.entry) before.nodes before.way has;
          small =
              small_among (over_of (known.of step.callee) (known.at x.function x.at) x.fact) y.fact
              (over_small (known.of step.callee) (known.at x.function x.at) x.fact before.small) step.has;
        }

    by_enters : (n : ℕ) (x y : Spot) (stack : List Spot) → IsWay n x stack → Enters whole known x y → is_there whole.functions y.function y.at ≡ true
        → IsWay (suc n) y (x ∷ stack)
    by_enters n x y stack before step there =
        let fact : fact_of (code_of x.fact) ≡ x.fact = fact_of_code x.fact before.small in
        let its : Placed = step.call.its in
        let site = site_of_number whole x.function x.at its step.call.there in
        let callee : callee_of its.op ≡ Some y.function = ap callee_of step.call.calls in
        let first : is_there whole.functions y.function 0 ≡ true = subst (λ at. is_there whole.functions y.function at ≡ true) step.first there in
        let parameters : List (Option Slot) = parameters_of whole y.function in
        let gets : enter_of parameters (known.at x.function x.at) (fact_of (code_of x.fact)) ≡ Some y.fact =
        subst (λ fact. enter_of parameters (known.at x.function x.at) fact ≡ Some y.fact) (sym fact) step.has in
        let enters : enters_by whole known (Some y.function) x.function x.at (fact_of (code_of x.fact)) ≡ Some (entry_node whole y.function y.fact) =
        ap (λ b. if b then option_map (entry_node whole y.function)
        (enter_of parameters (known.at x.function x.at) (fact_of (code_of x.fact))) else None) first
        ∙ ap (option_map (entry_node whole y.function)) gets in
        let entered : (flow_of whole known).enters (node_of whole x before.entry) ≡ Some (entry_node whole y.function y.fact) =
        ap (λ o. enters_at whole known o (node_of whole x before.entry)) site
        ∙ (ap (λ o. enters_by whole known o x.function x.at (fact_of (code_of x.fact))) callee ∙ enters) in
        let same : entry_node whole y.function y.fact ≡ node_of whole y y.fact =
        entry_is_node y.function y.fact ∙ ap (λ at. node_at whole y.function at (code_of y.fact) y.fact) (sym step.first) in
        let x_there = there_placed whole x.function x.at its step.call.there in
        record {
          entry = y.fact;
          nodes = node_of whole x before.entry ∷ before.nodes;
          callers = (before.entry, refl, before.small, x_there, step.has, before.callers);
          way =
              goes_in n (node_of whole x before.entry) (node_of whole y y.fact) before.nodes before.way
              (subst (λ node. (flow_of whole known).enters (node_of whole x before.entry) ≡ Some node) same entered);
          small =
              small_some (enter_of parameters (known.at x.function x.at) x.fact) y.fact
              (enter_small parameters (known.at x.function x.at) (parameters_small whole known fits y.function) x.fact before.small) step.has;
        }

    by_leaves : (n : ℕ) (c x y : Spot) (stack : List Spot) → IsWay n x (c ∷ stack) → Leaves whole known c x y
        → is_there whole.functions y.function y.at ≡ true
        → IsWay (suc n) y stack
    by_leaves n c x y stack before step there = by before.nodes before.callers before.way
      where
        by : (nodes : List Node) → AreCallers (c ∷ stack) x.function before.entry nodes → Way (flow_of whole known) n (node_of whole x before.entry) nodes
            → IsWay (suc n) y stack
        by [] callers way = absurd callers
        by (node ∷ nodes) callers way =
            let outer : Fact = callers.0 in
            let fact : fact_of (code_of x.fact) ≡ x.fact = fact_of_code x.fact before.small in
            let caller_fact : fact_of (code_of c.fact) ≡ c.fact = fact_of_code c.fact callers.2 in
            let caller_site = site_of_number whole c.function c.at step.call.its step.call.there in
            let site = site_of_number whole x.function x.at step.its step.there in
            let next_there : is_there whole.functions c.function (suc c.at) ≡ true =
            subst (λ at. is_there whole.functions c.function at ≡ true) step.next (subst (λ f. is_there whole.functions f y.at ≡ true) step.same there) in
            let exits : next_in whole x.function (known.at x.function x.at) op.Return (fact_of (code_of x.fact)) ≡ step.exit ∷ [] =
            subst (λ fact. next_in whole x.function (known.at x.function x.at) op.Return fact ≡ step.exit ∷ []) (sym fact)
            (exit_one whole x.function (known.at x.function x.at) x.fact step.exit step.exits) in
            let left : left_by whole known x.function c.function c.at (fact_of (code_of c.fact))
            (next_in whole x.function (known.at x.function x.at) op.Return (fact_of (code_of x.fact))) ≡ Some y.fact =
            ap (left_by whole known x.function c.function c.at (fact_of (code_of c.fact))) exits
            ∙ (ap (λ fact. leave_of (known.of x.function) (known.at c.function c.at) fact step.exit) caller_fact ∙ step.has) in
            let callee : is_callee (callee_of step.call.its.op) x.function ≡ true =
            ap (λ its. is_callee (callee_of its) x.function) step.call.calls ∙ same_number x.function in
            let returns : is_return step.its.op ≡ true = ap is_return step.returns in
            let test : (is_callee (callee_of step.call.its.op) x.function &&
            (is_return step.its.op && is_there whole.functions c.function (suc c.at))) ≡ true =
            ap (λ b. b && (is_return step.its.op && is_there whole.functions c.function (suc c.at))) callee
            ∙ (ap (λ b. b && is_there whole.functions c.function (suc c.at)) returns ∙ next_there) in
            let back : leaves_by whole known (record { function = c.function; at = c.at; its = step.call.its })
            (record { function = x.function; at = x.at; its = step.its })
            (node_of whole c outer) (node_of whole x before.entry) ≡ Some (node_at whole c.function (suc c.at) (code_of outer) y.fact) =
            ap (λ b. if b then option_map (node_at whole c.function (suc c.at) (code_of outer))
            (left_by whole known x.function c.function c.at (fact_of (code_of c.fact))
            (next_in whole x.function (known.at x.function x.at) op.Return (fact_of (code_of x.fact)))) else None) test
            ∙ ap (option_map (node_at whole c.function (suc c.at) (code_of outer))) left in
            let leaves : (flow_of whole known).leaves (node_of whole c outer) (node_of whole x before.entry)
            ≡ Some (node_at whole c.function (suc c.at) (code_of outer) y.fact) =
            ap (λ o. leaves_at whole known o (site_of whole (node_of whole x before.entry).at) (node_of whole c outer)
            (node_of whole x before.entry)) caller_site
            ∙ (ap (λ o. leaves_at whole known (Some (record { function = c.function; at = c.at; its = step.call.its })) o (node_of whole c outer)
            (node_of whole x before.entry)) site ∙ back) in
            let same : node_at whole c.function (suc c.at) (code_of outer) y.fact ≡ node_of whole y outer =
            ap (λ f. node_at whole f (suc c.at) (code_of outer) y.fact) (sym step.same)
            ∙ ap (λ at. node_at whole y.function at (code_of outer) y.fact) (sym step.next) in
            record {
              entry = outer;
              nodes = nodes;
              callers = subst (λ f. AreCallers stack f outer nodes) (sym step.same) callers.5;
              way =
                  goes_back n (node_of whole c outer) (node_of whole x before.entry) (node_of whole y outer) nodes
                  (subst (λ node. Way (flow_of whole known) n (node_of whole x before.entry) (node ∷ nodes)) callers.1 way)
                  (subst (λ node. (flow_of whole known).leaves (node_of whole c outer) (node_of whole x before.entry) ≡ Some node) same leaves);
              small =
                  small_some (leave_of (known.of x.function) (known.at c.function c.at) c.fact step.exit) y.fact
                  (leave_small (known.of x.function) (known.at c.function c.at) (fits.places c.function c.at) c.fact step.exit callers.2
                  (small_among (next_in whole x.function (known.at x.function x.at) op.Return x.fact) step.exit
                  (subst (λ its. SmallFacts (next_in whole x.function (known.at x.function x.at) its x.fact)) step.returns
                  (step_small whole known fits x.function x.at step.its x.fact step.there before.small)) step.exits)) step.has;
            }

    -- each chain to an operation that is there has its way
    pub way_of : (n : ℕ) (x : Spot) (stack : List Spot) → Chain whole known n x stack → is_there whole.functions x.function x.at ≡ true → IsWay n x stack
    way_of _ _ _ begins there = record {
      entry = first_fact;
      nodes = [];
      callers = refl;
      way = subst (λ node. Way (flow_of whole known) 1 node []) start_is starts;
      small = first_small;
    }
    way_of _ _ _ (goes n x y stack chain step) there =
        by_goes n x y stack (way_of n x stack chain (there_placed whole x.function x.at step.its step.there)) step there
    way_of _ _ _ (goes_over n x y stack chain step) there =
        by_over n x y stack (way_of n x stack chain (there_placed whole x.function x.at step.call.its step.call.there)) step there
    way_of _ _ _ (enters n x y stack chain step) there =
        by_enters n x y stack (way_of n x stack chain (there_placed whole x.function x.at step.call.its step.call.there)) step there
    way_of _ _ _ (leaves n c x y stack chain step) there =
        by_leaves n c x y stack (way_of n x (c ∷ stack) chain (there_placed whole x.function x.at step.its step.there)) step there
