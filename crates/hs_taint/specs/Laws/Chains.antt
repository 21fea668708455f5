-- The ways in the graph of a program are its chains.
--     chain_of                      the chain of a way
--     ends_reach, reach_ends        the nodes that are reached are the pairs in which chains end, by chains as long
use Rattle.hs_chains.specs.Chains.{Chain, EndsIn, IsEntry, Over, Spot, begins, enters, first_fact, first_spot, goes, goes_over, leaves}
use Rattle.hs_chains.specs.Knowledge.{Knowledge}
use Rattle.hs_code.specs.Following.{successors_of}
use Rattle.hs_code.specs.declared.function_code.Placed.{Placed}
use Rattle.hs_code.specs.declared.op.Op.TheVariants as op
use Rattle.hs_effects.specs.Calling.{callee_of}
use Rattle.hs_facts.specs.Effects.{WholeCode, placed_in}
use Rattle.hs_flow.specs.Among.{Among}
use Rattle.hs_flow.specs.Calls.{enter_of, leave_of, over_of}
use Rattle.hs_flow.specs.Programs.{next_in, parameters_of}
use Rattle.hs_flow.specs.Slots.{below}
use Rattle.hs_flow.specs.declared.fact.Fact.{Fact}
use Rattle.hs_flow.specs.declared.fact.Slot.{Slot}
use Rattle.hs_search.specs.Chains.{Chain as Way, Reaches, begins as starts, goes_on, goes_in, goes_back}
use Rattle.hs_search.specs.Graphs.{Has}
use Rattle.hs_search.specs.declared.graph.Node.{Node}
use Rattle.hs_taint.specs.Coding.{IsSmall}
use Rattle.hs_taint.specs.Coding.{code_of, fact_of}
use Rattle.hs_taint.specs.Laws.Coding.{fact_of_code}
use Rattle.hs_taint.specs.Laws.Following.{is_call, return_is}
use Rattle.hs_taint.specs.Laws.Framed.{after_call}
use Rattle.hs_taint.specs.Laws.Nodes.{IsNodeOf, code_there, entered_of, left_of, point_there, site_there, step_of}
use Rattle.hs_taint.specs.Laws.Small.{SmallFacts, small_among}
use Rattle.hs_taint.specs.Laws.Small.{SmallFacts}
use Rattle.hs_taint.specs.Laws.SmallCalls.{IsSmallProgram, enter_small, leave_small, over_small, parameters_small, small_some, step_small}
use Rattle.hs_taint.specs.Laws.Ways.{AreCallers, IsChain, entry_is_node, first_small, node_of, start_is, targets_back, way_of}
use Rattle.hs_taint.specs.Points.{Point, is_there, start_of}
use Rattle.hs_taint.specs.Routes.{Site, cases_of, facts_after, facts_by, flow_of, is_return, node_at, site_of, targets_of}
use Rattle.std.proofs.Common.{◌≡◌, ◌<◌, ◌∙◌, ℕ, suc, ◌+◌, nat_lt, Bool, true, false, if◌then◌else◌, List, [], ◌∷◌, length, slice_get, Option, Some, None, ap, sym, subst, refl, arith}
use Rattle.std.proofs.lemmas.Bool.Decides.{nat_tests}
use Rattle.std.proofs.lemmas.Option.{slice_get_within}

module _ (whole : WholeCode) (known : Knowledge) (fits : IsSmallProgram whole known) where
  -- ---- facts of callers

  some_fact : {a b : Fact} → Some a ≡ Some b → a ≡ b
  some_fact same = cc

  -- a call is entered with a fact that fits
  pub callers_small : (stack : List Spot) (f : ℕ) (entry : Fact) (nodes : List Node) → AreCallers whole known stack f entry nodes → IsSmall entry
  callers_small [] f entry [] callers = subst IsSmall (sym callers) (first_small whole known)
  callers_small [] f entry (node ∷ nodes) callers = absurd callers
  callers_small (c ∷ stack) f entry [] callers = absurd callers
  callers_small (c ∷ stack) f entry (node ∷ nodes) callers =
      small_some (enter_of (parameters_of whole f) (known.at c.function c.at) c.fact) entry
      (enter_small (parameters_of whole f) (known.at c.function c.at) (parameters_small whole known fits f) c.fact callers.2) callers.4

  -- and it is the entry of the stack
  pub entry_of_callers : (stack : List Spot) (f : ℕ) (entry : Fact) (nodes : List Node) → AreCallers whole known stack f entry nodes
      → IsEntry whole known stack f entry
  entry_of_callers [] f entry [] callers = callers
  entry_of_callers [] f entry (node ∷ nodes) callers = absurd callers
  entry_of_callers (c ∷ stack) f entry [] callers = absurd callers
  entry_of_callers (c ∷ stack) f entry (node ∷ nodes) callers = callers.4

  pub one_entry : (stack : List Spot) (f : ℕ) (a b : Fact) → IsEntry whole known stack f a → IsEntry whole known stack f b → a ≡ b
  one_entry [] f a b first second = first ∙ sym second
  one_entry (c ∷ stack) f a b first second = some_fact (sym first ∙ second)

  -- ---- from the graph to chains

  -- the operation of the number of an operation
  record IsThere (f at : ℕ) (s : Site) : Type 0 where
    pub its : Placed
    pub placed : placed_in whole f at ≡ Some its
    pub same : s ≡ record { function = f; at = at; its = its }

  some_point : {a b : Point} → Some a ≡ Some b → a ≡ b
  some_point same = cc

  -- its function
  abbrev function_of : Point → ℕ
  function_of p = p.function

  -- its number in the function
  abbrev at_of : Point → ℕ
  at_of p = p.at

  site_is : (f at : ℕ) (s : Site) → is_there whole.functions f at ≡ true → site_of whole (start_of whole.functions f + at) ≡ Some s → IsThere f at s
  site_is f at s there is =
      let site = site_there whole (start_of whole.functions f + at) s is in
      let points = some_point (sym site.point ∙ point_there whole.functions f at there) in
      let function : s.function ≡ f = ap function_of points in
      let number : s.at ≡ at = ap at_of points in
      record {
        its = s.its;
        placed = subst (λ f. placed_in whole f at ≡ Some s.its) function (subst (λ at. placed_in whole s.function at ≡ Some s.its) number site.placed);
        same = λ i. record { function = function i; at = number i; its = s.its };
      }

  -- a chain by one step more
  by_step : (n : ℕ) (x : Spot) (entry : Fact) (stack : List Spot) (y : Node) (nodes : List Node) → AreCallers whole known stack x.function entry nodes
      → Chain whole known n x stack → is_there whole.functions x.function x.at ≡ true → IsSmall x.fact
      → Has ((flow_of whole known).steps (node_of whole x entry)) y → IsChain whole known (suc n) y nodes
  by_step n x entry stack y nodes callers chain there small has =
      let step = step_of whole known (node_of whole x entry) y has in
      let site = site_is x.function x.at step.s there step.site in
      let node : IsNodeOf whole x.function (code_of entry) (facts_after whole known x.function x.at site.its.op (fact_of (code_of x.fact)))
      (targets_of (successors_of site.its.op x.at) (cases_of (slice_get whole.functions x.function))) y =
      subst (λ s. IsNodeOf whole s.function (code_of entry) (facts_after whole known s.function s.at s.its.op (fact_of (code_of x.fact)))
      (targets_of (successors_of s.its.op s.at) (cases_of (slice_get whole.functions s.function))) y) site.same step.node in
      let among : Among (facts_after whole known x.function x.at site.its.op x.fact) node.fact =
      subst (λ fact. Among (facts_after whole known x.function x.at site.its.op fact) node.fact) (fact_of_code x.fact small) node.has in
      by site.its site.placed node.at node.among node.there node.fact node.is (callee_of site.its.op) refl among
    where
      next : ℕ → Fact → Spot
      next at fact = record { function = x.function; at = at; fact = fact }

      over : (its : Placed) (g at : ℕ) (fact : Fact) (b : Bool) → placed_in whole x.function x.at ≡ Some its → its.op ≡ op.Call g → at ≡ suc x.at
          → nat_lt g (length whole.functions) ≡ b → Among (if b then over_of (known.of g) (known.at x.function x.at) x.fact else []) fact
          → Over whole known x (next at fact)
      over its g at fact true placed calls after below among = record {
        callee = g;
        call = record { its = its; there = placed; calls = calls; of_function = grind (arith, nat_tests) };
        next = after;
        same = refl;
        has = among;
      }
      over its g at fact false placed calls after below among = absurd among

      by : (its : Placed) → placed_in whole x.function x.at ≡ Some its → (at : ℕ)
          → Among (targets_of (successors_of its.op x.at) (cases_of (slice_get whole.functions x.function))) at
          → is_there whole.functions x.function at ≡ true
          → (fact : Fact) → y ≡ node_at whole x.function at (code_of entry) fact → (o : Option ℕ) → callee_of its.op ≡ o
          → Among (facts_by whole known o x.function x.at its.op x.fact) fact → IsChain whole known (suc n) y nodes
      by its placed at target at_there fact is None calls among = record {
        x = next at fact;
        entry = entry;
        stack = stack;
        is = is;
        callers = callers;
        chain =
            goes n x (next at fact) stack chain
            (record {
              its = its;
              there = placed;
              follows = targets_back whole known (slice_get whole.functions x.function) x.at at its placed target;
              same = refl;
              has = among;
            });
        there = at_there;
        small = small_among (next_in whole x.function (known.at x.function x.at) its.op x.fact) fact
            (step_small whole known fits x.function x.at its x.fact placed small) among;
      }
      by its placed at target at_there fact is (Some g) calls among =
          let call : its.op ≡ op.Call g = is_call its.op g calls in
          let after = after_call whole known its.op g x.at at (cases_of (slice_get whole.functions x.function)) call target in
          let step = over its g at fact (nat_lt g (length whole.functions)) placed call after refl among in
          record {
            x = next at fact;
            entry = entry;
            stack = stack;
            is = is;
            callers = callers;
            chain = goes_over n x (next at fact) stack chain step;
            there = at_there;
            small = small_among (over_of (known.of step.callee) (known.at x.function x.at) x.fact) fact
                (over_small (known.of step.callee) (known.at x.function x.at) x.fact small) step.has;
          }

  by_call : (n : ℕ) (x : Spot) (entry : Fact) (stack : List Spot) (y : Node) (nodes : List Node) → AreCallers whole known stack x.function entry nodes
      → Chain whole known n x stack → is_there whole.functions x.function x.at ≡ true → IsSmall x.fact
      → (flow_of whole known).enters (node_of whole x entry) ≡ Some y → IsChain whole known (suc n) y (node_of whole x entry ∷ nodes)
  by_call n x entry stack y nodes callers chain there small is =
      let step = entered_of whole known (node_of whole x entry) y is in
      let site = site_is x.function x.at step.s there step.site in
      let calls : site.its.op ≡ op.Call step.g = subst (λ s. s.its.op ≡ op.Call step.g) site.same step.calls in
      let parameters : List (Option Slot) = parameters_of whole step.g in
      let gets : enter_of parameters (known.at x.function x.at) x.fact ≡ Some step.fact =
      subst (λ fact. enter_of parameters (known.at x.function x.at) fact ≡ Some step.fact) (fact_of_code x.fact small)
      (subst (λ s. enter_of parameters (known.at s.function s.at) (fact_of (code_of x.fact)) ≡ Some step.fact) site.same step.gets) in
      let code = code_there whole.functions step.g 0 step.there in
      let below : step.g < length whole.functions = slice_get_within whole.functions step.g code.0 code.1 in
      let first : Spot = record { function = step.g; at = 0; fact = step.fact } in
      record {
        x = first;
        entry = step.fact;
        stack = x ∷ stack;
        is = step.is ∙ entry_is_node whole known step.g step.fact;
        callers = (entry, refl, small, there, gets, callers);
        chain =
            enters n x first stack chain
            (record { call = record { its = site.its; there = site.placed; calls = calls; of_function = below }; first = refl; has = gets });
        there = step.there;
        small = small_some (enter_of parameters (known.at x.function x.at) x.fact) step.fact
            (enter_small parameters (known.at x.function x.at) (parameters_small whole known fits step.g) x.fact small) gets;
      }

  by_return : (n : ℕ) (c x : Spot) (outer entry : Fact) (stack : List Spot) (y : Node) (nodes : List Node)
      → AreCallers whole known stack c.function outer nodes → IsSmall c.fact → is_there whole.functions c.function c.at ≡ true
      → Chain whole known n x (c ∷ stack) → is_there whole.functions x.function x.at ≡ true → IsSmall x.fact
      → (flow_of whole known).leaves (node_of whole c outer) (node_of whole x entry) ≡ Some y → IsChain whole known (suc n) y nodes
  by_return n c x outer entry stack y nodes callers small_c c_there chain there small is =
      let step = left_of whole known (node_of whole c outer) (node_of whole x entry) y is in
      let caller = site_is c.function c.at step.c c_there step.caller_site in
      let site = site_is x.function x.at step.s there step.last_site in
      let s_function : step.s.function ≡ x.function = ap (λ s. s.function) site.same in
      let c_function : step.c.function ≡ c.function = ap (λ s. s.function) caller.same in
      let c_at : step.c.at ≡ c.at = ap (λ s. s.at) caller.same in
      let calls : caller.its.op ≡ op.Call x.function =
      subst (λ f. caller.its.op ≡ op.Call f) s_function (subst (λ c. c.its.op ≡ op.Call step.s.function) caller.same step.calls) in
      let returns : site.its.op ≡ op.Return = return_is site.its.op (subst (λ s. is_return s.its.op ≡ true) site.same step.returns) in
      let exits : Among (next_in whole x.function (known.at x.function x.at) op.Return x.fact) step.exit =
      subst (λ fact. Among (next_in whole x.function (known.at x.function x.at) op.Return fact) step.exit) (fact_of_code x.fact small)
      (subst (λ s. Among (next_in whole s.function (known.at s.function s.at) op.Return (fact_of (code_of x.fact))) step.exit) site.same step.exits) in
      let gets : leave_of (known.of x.function) (known.at c.function c.at) c.fact step.exit ≡ Some step.fact =
      subst (λ fact. leave_of (known.of x.function) (known.at c.function c.at) fact step.exit ≡ Some step.fact) (fact_of_code c.fact small_c)
      (subst (λ f. leave_of (known.of f) (known.at c.function c.at) (fact_of (code_of c.fact)) step.exit ≡ Some step.fact) s_function
      (subst (λ s. leave_of (known.of step.s.function) (known.at s.function s.at) (fact_of (code_of c.fact)) step.exit ≡ Some step.fact) caller.same
      step.gets)) in
      let after_there : is_there whole.functions c.function (suc c.at) ≡ true =
      subst (λ s. is_there whole.functions s.function (suc s.at) ≡ true) caller.same step.there in
      let code = code_there whole.functions x.function x.at there in
      let below : x.function < length whole.functions = slice_get_within whole.functions x.function code.0 code.1 in
      let after : Spot = record { function = c.function; at = suc c.at; fact = step.fact } in
      record {
        x = after;
        entry = outer;
        stack = stack;
        is = subst (λ s. y ≡ node_at whole s.function (suc s.at) (code_of outer) step.fact) caller.same step.is;
        callers = callers;
        chain =
            leaves n c x after stack chain
            (record {
              call = record { its = caller.its; there = caller.placed; calls = calls; of_function = below };
              its = site.its;
              there = site.placed;
              returns = returns;
              exit = step.exit;
              exits = exits;
              next = refl;
              same = refl;
              has = gets;
            });
        there = after_there;
        small = small_some (leave_of (known.of x.function) (known.at c.function c.at) c.fact step.exit) step.fact
            (leave_small (known.of x.function) (known.at c.function c.at) (fits.places c.function c.at) c.fact step.exit small_c
            (small_among (next_in whole x.function (known.at x.function x.at) op.Return x.fact) step.exit
            (subst (λ its. SmallFacts (next_in whole x.function (known.at x.function x.at) its x.fact)) returns
            (step_small whole known fits x.function x.at site.its x.fact site.placed small)) exits)) gets;
      }

  by_back : (n : ℕ) (c : Node) (y : Node) (nodes : List Node) (x : Spot) (entry : Fact) (stack : List Spot)
      → AreCallers whole known stack x.function entry (c ∷ nodes) → Chain whole known n x stack → is_there whole.functions x.function x.at ≡ true
      → IsSmall x.fact → (flow_of whole known).leaves c (node_of whole x entry) ≡ Some y → IsChain whole known (suc n) y nodes
  by_back n c y nodes x entry [] callers chain there small is = absurd callers
  by_back n c y nodes x entry (spot ∷ stack) callers chain there small is =
      by_return n spot x callers.0 entry stack y nodes callers.5 callers.2 callers.3 chain there small
      (subst (λ c. (flow_of whole known).leaves c (node_of whole x entry) ≡ Some y) callers.1 is)

  module _ (main : is_there whole.functions whole.program.main 0 ≡ true) where
    -- each way in the graph is that of a chain
    pub chain_of : (n : ℕ) (node : Node) (nodes : List Node) → Way (flow_of whole known) n node nodes → IsChain whole known n node nodes
    chain_of _ _ _ starts = record {
      x = first_spot whole known;
      entry = first_fact;
      stack = [];
      is = start_is whole known;
      callers = refl;
      chain = begins;
      there = main;
      small = first_small whole known;
    }
    chain_of _ _ _ (goes_on n x y nodes way has) =
        let before = chain_of n x nodes way in
        by_step n before.x before.entry before.stack y nodes before.callers before.chain before.there before.small
        (subst (λ x. Has ((flow_of whole known).steps x) y) before.is has)
    chain_of _ _ _ (goes_in n x y nodes way is) =
        let before = chain_of n x nodes way in
        subst (λ x. IsChain whole known (suc n) y (x ∷ nodes)) (sym before.is)
        (by_call n before.x before.entry before.stack y nodes before.callers before.chain before.there before.small
        (subst (λ x. (flow_of whole known).enters x ≡ Some y) before.is is))
    chain_of _ _ _ (goes_back n c x y nodes way is) =
        let before = chain_of n x (c ∷ nodes) way in
        by_back n c y nodes before.x before.entry before.stack before.callers before.chain before.there before.small
        (subst (λ x. (flow_of whole known).leaves c x ≡ Some y) before.is is)

    -- ---- pairs

    -- a pair in which a chain ends is a node that is reached
    pub ends_reach : (n f at : ℕ) (entry fact : Fact) → is_there whole.functions f at ≡ true → EndsIn whole known n f at entry fact
        → Reaches (flow_of whole known) n (node_at whole f at (code_of entry) fact)
    ends_reach n f at entry fact there ends =
        let way = way_of whole known fits n (record { function = f; at = at; fact = fact }) ends.stack ends.chain there in
        let same = one_entry ends.stack f way.entry entry (entry_of_callers ends.stack f way.entry way.nodes way.callers) ends.entered in
        (way.nodes, subst (λ entry. Way (flow_of whole known) n (node_at whole f at (code_of entry) fact) way.nodes) same way.way)

    -- what is said of a node that is reached
    pub record IsPair (n : ℕ) (node : Node) : Type 0 where
      pub f : ℕ
      pub at : ℕ
      pub entry : Fact
      pub fact : Fact
      pub there : is_there whole.functions f at ≡ true
      pub is : node ≡ node_at whole f at (code_of entry) fact
      pub small_entry : IsSmall entry
      pub small : IsSmall fact
      pub ends : EndsIn whole known n f at entry fact

    -- and a node that is reached is a pair in which a chain ends
    pub reach_ends : (n : ℕ) (node : Node) → Reaches (flow_of whole known) n node → IsPair n node
    reach_ends n node reaches =
        let it = chain_of n node reaches.0 reaches.1 in
        record {
          f = it.x.function;
          at = it.x.at;
          entry = it.entry;
          fact = it.x.fact;
          there = it.there;
          is = it.is;
          small_entry = callers_small it.stack it.x.function it.entry reaches.0 it.callers;
          small = it.small;
          ends = record { stack = it.stack; chain = it.chain; entered = entry_of_callers it.stack it.x.function it.entry reaches.0 it.callers };
        }
