-- The graph of a program keeps to its calls.
--     framed                        if main has an operation
use Rattle.hs_chains.specs.Chains.{first_fact}
use Rattle.hs_chains.specs.Knowledge.{Knowledge}
use Rattle.hs_code.specs.Following.{successors_of}
use Rattle.hs_code.specs.declared.function_code.Case.{Case}
use Rattle.hs_code.specs.declared.op.Op.TheVariants as op
use Rattle.hs_code.specs.declared.op.Op.{Op}
use Rattle.hs_effects.specs.Calling.{callee_of}
use Rattle.hs_facts.specs.Effects.{WholeCode}
use Rattle.hs_flow.specs.Among.{Among}
use Rattle.hs_flow.specs.Calls.{entered}
use Rattle.hs_flow.specs.declared.fact.Fact.{Fact}
use Rattle.hs_search.specs.Graphs.{Has, IsFramed}
use Rattle.hs_search.specs.declared.graph.Node.{Node}
use Rattle.hs_taint.specs.Coding.{fact_of}
use Rattle.hs_taint.specs.Laws.Following.{return_is}
use Rattle.hs_taint.specs.Laws.Nodes.{entered_of, entry_of, left_of, node_below, point_there, site_there, step_of}
use Rattle.hs_taint.specs.Points.{Point, count_of, is_there, point_of, start_of}
use Rattle.hs_taint.specs.Routes.{Site, cases_of, ends_at, enters_at, enters_by, entry_at, entry_node, facts_after, flow_of, node_at, nodes_each, site_of, steps_at, targets_of}
use Rattle.std.proofs.Common.{◌≡◌, ◌<◌, inl, inr, ◌∙◌, ℕ, suc, ◌+◌, Bool, true, List, [], slice_get, Option, Some, None, ap, sym, subst, refl, arith}

module _ (whole : WholeCode) (known : Knowledge) where
  entry_at_point : (n : ℕ) (p : Point) → point_of whole.functions n ≡ Some p → entry_at whole known
      (point_of whole.functions n) ≡ start_of whole.functions p.function
  entry_at_point n p is = ap (entry_at whole known) is

  -- the node with which the call of a node began, by its function
  entry_is : (x : Node) (p : Point) → point_of whole.functions x.at ≡ Some p
      → (flow_of whole known).entry x ≡ record { at = start_of whole.functions p.function; fact = x.entered; entered = x.entered }
  entry_is x p is = ap (λ at. record { at = at; fact = x.entered; entered = x.entered }) (entry_at_point x.at p is)

  entry_of_node : (f at entered : ℕ) (fact : Fact) → is_there whole.functions f at ≡ true
      → (flow_of whole known).entry (node_at whole f at entered fact) ≡ record { at = start_of whole.functions f; fact = entered; entered = entered }
  entry_of_node f at entered fact there =
      entry_is (node_at whole f at entered fact) (record { function = f; at = at }) (point_there whole.functions f at there)

  entry_of_site : (x : Node) (s : Site) → site_of whole x.at ≡ Some s
      → (flow_of whole known).entry x ≡ record { at = start_of whole.functions s.function; fact = x.entered; entered = x.entered }
  entry_of_site x s is = entry_is x (record { function = s.function; at = s.at }) (site_there whole x.at s is).point

  entry_of_entry : (f : ℕ) (fact : Fact) → is_there whole.functions f 0 ≡ true → (flow_of whole known).entry
      (entry_node whole f fact) ≡ entry_node whole f fact
  entry_of_entry f fact there = entry_is (entry_node whole f fact) (record { function = f; at = 0 }) (entry_of whole.functions f there).0

  by_step : (x y : Node) → Has ((flow_of whole known).steps x) y → (flow_of whole known).entry y ≡ (flow_of whole known).entry x
  by_step x y is =
      let step = step_of whole known x y is in
      ap (flow_of whole known).entry step.node.is
      ∙ (entry_of_node step.s.function step.node.at x.entered step.node.fact step.node.there ∙ sym (entry_of_site x step.s step.site))

  by_call : (x y : Node) → (flow_of whole known).enters x ≡ Some y → (flow_of whole known).entry y ≡ y
  by_call x y is =
      let step = entered_of whole known x y is in
      ap (flow_of whole known).entry step.is ∙ (entry_of_entry step.g step.fact step.there ∙ sym step.is)

  by_return : (c x y : Node) → (flow_of whole known).leaves c x ≡ Some y → (flow_of whole known).entry y ≡ (flow_of whole known).entry c
  by_return c x y is =
      let step = left_of whole known c x y is in
      ap (flow_of whole known).entry step.is
      ∙ (entry_of_node step.c.function (suc step.c.at) c.entered step.fact step.there ∙ sym (entry_of_site c step.c step.caller_site))

  step_within : (x y : Node) → Has ((flow_of whole known).steps x) y → y.at < count_of whole.functions
  step_within x y is =
      let step = step_of whole known x y is in
      subst (λ y. y.at < count_of whole.functions) (sym step.node.is) (node_below whole.functions step.s.function step.node.at step.node.there)

  call_within : (x y : Node) → (flow_of whole known).enters x ≡ Some y → y.at < count_of whole.functions
  call_within x y is =
      let step = entered_of whole known x y is in
      subst (λ y. y.at < count_of whole.functions) (sym step.is) (entry_of whole.functions step.g step.there).1

  return_within : (c x y : Node) → (flow_of whole known).leaves c x ≡ Some y → y.at < count_of whole.functions
  return_within c x y is =
      let step = left_of whole known c x y is in
      subst (λ y. y.at < count_of whole.functions) (sym step.is) (node_below whole.functions step.c.function (suc step.c.at) step.there)

  ended : (c x y : Node) → (flow_of whole known).leaves c x ≡ Some y → (flow_of whole known).ends x ≡ true
  ended c x y is =
      let step = left_of whole known c x y is in
      ap ends_at_site step.last_site ∙ step.returns
    where
      ends_at_site : Option Site → Bool
      ends_at_site o = ends_at whole known o

  -- a return goes on nowhere
  no_steps : (o : Option Site) (x : Node) → ends_at whole known o ≡ true → (steps_at whole known o x ≡ []) × (enters_at whole known o x ≡ None)
  no_steps None x is = absurd (cc)
  no_steps (Some s) x is =
      let returns = return_is s.its.op is in (
        ap (λ its. nodes_each whole s.function x.entered (facts_after whole known s.function s.at its (fact_of x.fact))
            (targets_of (successors_of its s.at) (cases_of (slice_get whole.functions s.function)))) returns,
        ap (λ its. enters_by whole known (callee_of its) s.function s.at (fact_of x.fact)) returns,
      )

  some_point : {a b : Point} → Some a ≡ Some b → a ≡ b
  some_point same = cc

  same_site : (x : Node) (a b : Site) → site_of whole x.at ≡ Some a → site_of whole x.at ≡ Some b → a ≡ b
  same_site x a b first second = some_site (sym first ∙ second)
    where
      some_site : {a b : Site} → Some a ≡ Some b → a ≡ b
      some_site same = cc

  suc_no_zero : (at : ℕ) → suc at ≡ 0 → ⊥
  suc_no_zero at same = omega (arith)

  -- its number in the function
  abbrev at_of : Point → ℕ
  at_of p = p.at

  -- after a call comes the next operation
  pub after_call : (its : Op) (g at next : ℕ) (cases : List Case) → its ≡ op.Call g → Among (targets_of (successors_of its at) cases) next → next ≡ suc at
  after_call its g at next cases calls is = first (subst (λ its. Among (targets_of (successors_of its at) cases) next) calls is)
    where
      first : Among (targets_of (successors_of (op.Call g) at) cases) next → next ≡ suc at
      first (inl same) = same
      first (inr none) = absurd none

  not_first : (x y b : Node) → Has ((flow_of whole known).steps x) y → (flow_of whole known).enters x ≡ Some b → y.at ≡ b.at → ⊥
  not_first x y b steps calls same =
      let step = step_of whole known x y steps in
      let call = entered_of whole known x b calls in
      let site = same_site x call.s step.s call.site step.site in
      let calls : step.s.its.op ≡ op.Call call.g = subst (λ s. s.its.op ≡ op.Call call.g) site call.calls in
      let next = after_call step.s.its.op call.g step.s.at step.node.at (cases_of (slice_get whole.functions step.s.function)) calls step.node.among in
      let number : start_of whole.functions step.s.function + step.node.at ≡ start_of whole.functions call.g =
      ap (λ y. y.at) (sym step.node.is) ∙ (same ∙ ap (λ b. b.at) call.is) in
      let before : Point = record { function = step.s.function; at = step.node.at } in
      let first : Point = record { function = call.g; at = 0 } in
      let points : before ≡ first =
      some_point (sym (point_there whole.functions step.s.function step.node.at step.node.there)
      ∙ (ap (point_of whole.functions) number ∙ (entry_of whole.functions call.g call.there).0)) in
      absurd (suc_no_zero step.s.at (sym next ∙ ap at_of points))

  -- if main has an operation
  pub framed : is_there whole.functions whole.program.main 0 ≡ true → IsFramed (flow_of whole known)
  framed main = record {
    at_start = entry_of_entry whole.program.main first_fact main;
    by_step = by_step;
    by_call = by_call;
    by_return = by_return;
    own = λ x. refl;
    start_within = (entry_of whole.functions whole.program.main main).1;
    step_within = step_within;
    call_within = call_within;
    return_within = return_within;
    ended = ended;
    stops = λ x is. no_steps (site_of whole x.at) x is;
    apart = not_first;
  }
