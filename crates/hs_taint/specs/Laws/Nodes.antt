-- Nodes of the graph of a program.
--     nodes_of_each, nodes_each_of        lists of nodes
--     point_there, node_below, entry_of   operations that are there
--     site_there, site_of_number          the operation of a number
--     step_of, entered_of, left_of        what the steps are
use Rattle.hs_chains.specs.Knowledge.{Knowledge}
use Rattle.hs_code.specs.Following.{successors_of}
use Rattle.hs_code.specs.declared.function_code.FunctionCode.{FunctionCode}
use Rattle.hs_code.specs.declared.function_code.Placed.{Placed}
use Rattle.hs_code.specs.declared.op.Op.TheVariants as op
use Rattle.hs_effects.specs.Calling.{callee_of}
use Rattle.hs_facts.specs.Effects.{WholeCode, placed_in}
use Rattle.hs_facts.specs.Effects.{ops_in}
use Rattle.hs_flow.specs.Among.{Among}
use Rattle.hs_flow.specs.Calls.{enter_of, leave_of}
use Rattle.hs_flow.specs.Given.{Given}
use Rattle.hs_flow.specs.Next.{at_each}
use Rattle.hs_flow.specs.Programs.{next_in, parameters_of}
use Rattle.hs_flow.specs.Slots.{returned, slot_if}
use Rattle.hs_flow.specs.declared.fact.Fact.{Fact}
use Rattle.hs_flow.specs.declared.fact.FactStatus.{FactStatus}
use Rattle.hs_flow.specs.declared.fact.Slot.TheVariants as slot
use Rattle.hs_flow.specs.declared.fact.Slot.{Slot}
use Rattle.hs_search.specs.Graphs.{Has}
use Rattle.hs_search.specs.declared.graph.Node.{Node}
use Rattle.hs_taint.specs.Coding.{fact_of}
use Rattle.hs_taint.specs.Laws.Following.{is_call}
use Rattle.hs_taint.specs.Laws.Points.{number_below, point_number}
use Rattle.hs_taint.specs.Nodes.{nodes_in}
use Rattle.hs_taint.specs.Points.{Point, count_of, is_there, point_of, start_of}
use Rattle.hs_taint.specs.Routes.{Site, cases_of, enters_at, enters_by, entry_node, facts_after, flow_of, is_callee, is_return, leaves_at, leaves_by, left_by, node_at, nodes_each, site_at, site_by, site_of, steps_at, targets_of}
use Rattle.hs_tree.specs.declared.head.Variable.TheVariants as name
use Rattle.std.proofs.Common.{⊎_elim}
use Rattle.std.proofs.Common.{◌≡◌, ◌<◌, ◌⊎◌, inl, inr, ◌∙◌, ℕ, suc, ◌+◌, ◌-◌, ◌==◌, nat_lt, Bool, true, false, ◌&&◌, if◌then◌else◌, List, [], ◌∷◌, ◌++◌, length, map, slice_get, Option, Some, None, ap, sym, subst, refl, arith}
use Rattle.std.proofs.lemmas.Bool.Decides.{nat_tests}
use Rattle.std.proofs.lemmas.Option.{slice_get_within}
use Rattle.std.specs.Prelude.{option_map}

-- ---- lists of nodes

has_left : (xs ys : List Node) (y : Node) → Has xs y → Has (xs ++ ys) y
has_left [] ys y is = absurd is
has_left (x ∷ xs) ys y (inl is) = inl is
has_left (x ∷ xs) ys y (inr is) = inr (has_left xs ys y is)

has_right : (xs ys : List Node) (y : Node) → Has ys y → Has (xs ++ ys) y
has_right [] ys y is = is
has_right (x ∷ xs) ys y is = inr (has_right xs ys y is)

has_either : (xs ys : List Node) (y : Node) → Has (xs ++ ys) y → Has xs y ⊎ Has ys y
has_either [] ys y is = inr is
has_either (x ∷ xs) ys y (inl is) = inl (inl is)
has_either (x ∷ xs) ys y (inr is) = ⊎_elim (λ left. inl (inr left)) inr (has_either xs ys y is)

has_map : (h : Fact → Node) (facts : List Fact) (fact : Fact) → Among facts fact → Has (map h facts) (h fact)
has_map h [] fact is = absurd is
has_map h (it ∷ rest) fact (inl is) = inl (ap h (sym is))
has_map h (it ∷ rest) fact (inr is) = inr (has_map h rest fact is)

map_has : (h : Fact → Node) (facts : List Fact) (y : Node) → Has (map h facts) y → (fact : Fact) × Among facts fact × (y ≡ h fact)
map_has h [] y is = absurd is
map_has h (it ∷ rest) y (inl is) = (it, inl refl, sym is)
map_has h (it ∷ rest) y (inr is) = let more = map_has h rest y is in (more.0, inr more.1, more.2)

module _ (whole : WholeCode) (f entered : ℕ) (facts : List Fact) where
  -- the node of one of the facts at one of the operations, which is there
  pub record IsNodeOf (ats : List ℕ) (y : Node) : Type 0 where
    pub at : ℕ
    pub among : Among ats at
    pub there : is_there whole.functions f at ≡ true
    pub fact : Fact
    pub has : Among facts fact
    pub is : y ≡ node_at whole f at entered fact

  first_of : (b : Bool) (at : ℕ) (rest : List ℕ) (y : Node) → is_there whole.functions f at ≡ b
      → Has (if b then map (node_at whole f at entered) facts else []) y → IsNodeOf (at ∷ rest) y
  first_of true at rest y there is =
      let it = map_has (node_at whole f at entered) facts y is in
      record { at = at; among = inl refl; there = there; fact = it.0; has = it.1; is = it.2 }
  first_of false at rest y there is = absurd is

  rest_of : (at : ℕ) (rest : List ℕ) (y : Node) → IsNodeOf rest y → IsNodeOf (at ∷ rest) y
  rest_of at rest y it = record { at = it.at; among = inr it.among; there = it.there; fact = it.fact; has = it.has; is = it.is }

  pub nodes_each_of : (ats : List ℕ) (y : Node) → Has (nodes_each whole f entered facts ats) y → IsNodeOf ats y
  nodes_each_of [] y is = absurd is
  nodes_each_of (at ∷ rest) y is =
      ⊎_elim (first_of (is_there whole.functions f at) at rest y refl) (λ more. rest_of at rest y (nodes_each_of rest y more))
      (has_either (nodes_in whole.functions f entered facts at) (nodes_each whole f entered facts rest) y is)

  first_has : (b : Bool) (at : ℕ) (fact : Fact) → b ≡ true → Among facts fact
      → Has (if b then map (node_at whole f at entered) facts else []) (node_at whole f at entered fact)
  first_has true at fact there is = has_map (node_at whole f at entered) facts fact is
  first_has false at fact there is = absurd (cc)

  pub nodes_of_each : (ats : List ℕ) (at : ℕ) (fact : Fact) → Among ats at → is_there whole.functions f at ≡ true → Among facts fact
      → Has (nodes_each whole f entered facts ats) (node_at whole f at entered fact)
  nodes_of_each [] at fact among there is = absurd among
  nodes_of_each (it ∷ rest) at fact (inl among) there is =
      has_left (nodes_in whole.functions f entered facts it) (nodes_each whole f entered facts rest) (node_at whole f at entered fact)
      (subst (λ a. Has (nodes_in whole.functions f entered facts a) (node_at whole f at entered fact)) among
      (first_has (is_there whole.functions f at) at fact there is))
  nodes_of_each (it ∷ rest) at fact (inr among) there is =
      has_right (nodes_in whole.functions f entered facts it) (nodes_each whole f entered facts rest) (node_at whole f at entered fact)
      (nodes_of_each rest at fact among there is)

-- ---- operations that are there

code_of_there : (o : Option FunctionCode) (at : ℕ) → nat_lt at (length (ops_in o)) ≡ true → (code : FunctionCode) × (o ≡ Some code) × (at < length code.ops)
code_of_there None at is = absurd (grind (arith, nat_tests))
code_of_there (Some code) at is = (code, refl, grind (arith, nat_tests))

pub code_there : (functions : List FunctionCode) (f at : ℕ) → is_there functions f at ≡ true
    → (code : FunctionCode) × (slice_get functions f ≡ Some code) × (at < length code.ops)
code_there functions f at is = code_of_there (slice_get functions f) at is

pub point_there : (functions : List FunctionCode) (f at : ℕ) → is_there functions f at ≡ true
    → point_of functions (start_of functions f + at) ≡ Some (record { function = f; at = at })
point_there functions f at is = let it = code_there functions f at is in point_number functions f at it.0 it.1 it.2

pub node_below : (functions : List FunctionCode) (f at : ℕ) → is_there functions f at ≡ true → start_of functions f + at < count_of functions
node_below functions f at is = let it = code_there functions f at is in number_below functions f at it.0 it.1 it.2

-- at the start of a function
pub entry_of : (functions : List FunctionCode) (f : ℕ) → is_there functions f 0 ≡ true
    → (point_of functions (start_of functions f) ≡ Some (record { function = f; at = 0 })) × (start_of functions f < count_of functions)
entry_of functions f is =
    let number : start_of functions f + 0 ≡ start_of functions f = omega (arith) in
    let below = node_below functions f 0 is in
    (subst (λ n. point_of functions n ≡ Some (record { function = f; at = 0 })) number (point_there functions f 0 is), omega (arith))

pub there_placed : (whole : WholeCode) (f at : ℕ) (its : Placed) → placed_in whole f at ≡ Some its → is_there whole.functions f at ≡ true
there_placed whole f at its is =
    let below = slice_get_within (ops_in (slice_get whole.functions f)) at its is in
    grind (arith, nat_tests)

module _ (whole : WholeCode) where
  -- what is said of the operation of a number
  pub record IsSite (n : ℕ) (s : Site) : Type 0 where
    pub point : point_of whole.functions n ≡ Some (record { function = s.function; at = s.at })
    pub placed : placed_in whole s.function s.at ≡ Some s.its

  some_site : {a b : Site} → Some a ≡ Some b → a ≡ b
  some_site same = cc

  site_placed : (n : ℕ) (p : Point) (s : Site) (o : Option Placed) → point_of whole.functions n ≡ Some p → placed_in whole p.function p.at ≡ o
      → site_at p o ≡ Some s → IsSite n s
  site_placed n p s None point placed is = absurd (cc)
  site_placed n p s (Some its) point placed is = subst (IsSite n) (some_site is) (record { point = point; placed = placed })

  site_by_point : (n : ℕ) (s : Site) (o : Option Point) → point_of whole.functions n ≡ o → site_by whole o ≡ Some s → IsSite n s
  site_by_point n s None point is = absurd (cc)
  site_by_point n s (Some p) point is = site_placed n p s (placed_in whole p.function p.at) point refl is

  pub site_there : (n : ℕ) (s : Site) → site_of whole n ≡ Some s → IsSite n s
  site_there n s is = site_by_point n s (point_of whole.functions n) refl is

  pub site_of_number : (f at : ℕ) (its : Placed) → placed_in whole f at ≡ Some its
      → site_of whole (start_of whole.functions f + at) ≡ Some (record { function = f; at = at; its = its })
  site_of_number f at its is =
      ap (site_by whole) (point_there whole.functions f at (there_placed whole f at its is))
      ∙ ap (site_at (record { function = f; at = at })) is

-- ---- steps

guard_is : {A : Type 0} (b : Bool) (o : Option A) (y : A) → (if b then o else None) ≡ Some y → (b ≡ true) × (o ≡ Some y)
guard_is true o y is = (refl, is)
guard_is false o y is = absurd (cc)

some_node : {a b : Node} → Some a ≡ Some b → a ≡ b
some_node same = cc

mapped_is : (h : Fact → Node) (o : Option Fact) (y : Node) → option_map h o ≡ Some y → (fact : Fact) × (o ≡ Some fact) × (y ≡ h fact)
mapped_is h None y is = absurd (cc)
mapped_is h (Some fact) y is = (fact, refl, sym (some_node is))

and_left : (a b : Bool) → (a && b) ≡ true → a ≡ true
and_left true b is = refl
and_left false b is = absurd (cc)

and_right : (a b : Bool) → (a && b) ≡ true → b ≡ true
and_right true b is = is
and_right false b is = absurd (cc)

callee_is : (o : Option ℕ) (f : ℕ) → is_callee o f ≡ true → o ≡ Some f
callee_is None f is = absurd (cc)
callee_is (Some g) f is = let same : g ≡ f = grind (arith, nat_tests) in ap Some same

module _ (whole : WholeCode) (known : Knowledge) where
  -- a step inside a call, or over one
  pub record IsStep (x y : Node) : Type 0 where
    pub s : Site
    pub site : site_of whole x.at ≡ Some s
    pub node :
        IsNodeOf whole s.function x.entered (facts_after whole known s.function s.at s.its.op (fact_of x.fact))
        (targets_of (successors_of s.its.op s.at) (cases_of (slice_get whole.functions s.function))) y

  step_at : (x y : Node) (o : Option Site) → site_of whole x.at ≡ o → Has (steps_at whole known o x) y → IsStep x y
  step_at x y None site is = absurd is
  step_at x y (Some s) site is = record {
    s = s;
    site = site;
    node =
        nodes_each_of whole s.function x.entered (facts_after whole known s.function s.at s.its.op (fact_of x.fact))
        (targets_of (successors_of s.its.op s.at) (cases_of (slice_get whole.functions s.function))) y is;
  }

  pub step_of : (x y : Node) → Has ((flow_of whole known).steps x) y → IsStep x y
  step_of x y is = step_at x y (site_of whole x.at) refl is

  -- a step into a call
  pub record IsEntered (x y : Node) : Type 0 where
    pub s : Site
    pub site : site_of whole x.at ≡ Some s
    pub g : ℕ
    pub calls : s.its.op ≡ op.Call g
    pub there : is_there whole.functions g 0 ≡ true
    pub fact : Fact
    pub gets : enter_of (parameters_of whole g) (known.at s.function s.at) (fact_of x.fact) ≡ Some fact
    pub is : y ≡ entry_node whole g fact

  entered_by : (x y : Node) (s : Site) (o : Option ℕ) → site_of whole x.at ≡ Some s → callee_of s.its.op ≡ o
      → enters_by whole known o s.function s.at (fact_of x.fact) ≡ Some y → IsEntered x y
  entered_by x y s None site calls is = absurd (cc)
  entered_by x y s (Some g) site calls is =
      let guard = guard_is (is_there whole.functions g 0)
      (option_map (entry_node whole g) (enter_of (parameters_of whole g) (known.at s.function s.at) (fact_of x.fact))) y is in
      let it = mapped_is (entry_node whole g) (enter_of (parameters_of whole g) (known.at s.function s.at) (fact_of x.fact)) y guard.1 in
      record { s = s; site = site; g = g; calls = is_call s.its.op g calls; there = guard.0; fact = it.0; gets = it.1; is = it.2 }

  entered_at : (x y : Node) (o : Option Site) → site_of whole x.at ≡ o → enters_at whole known o x ≡ Some y → IsEntered x y
  entered_at x y None site is = absurd (cc)
  entered_at x y (Some s) site is = entered_by x y s (callee_of s.its.op) site refl is

  pub entered_of : (x y : Node) → (flow_of whole known).enters x ≡ Some y → IsEntered x y
  entered_of x y is = entered_at x y (site_of whole x.at) refl is

  -- a step back from one
  pub record IsLeft (caller last y : Node) : Type 0 where
    pub c : Site
    pub s : Site
    pub caller_site : site_of whole caller.at ≡ Some c
    pub last_site : site_of whole last.at ≡ Some s
    pub calls : c.its.op ≡ op.Call s.function
    pub returns : is_return s.its.op ≡ true
    pub there : is_there whole.functions c.function (suc c.at) ≡ true
    pub exit : Fact
    pub exits : Among (next_in whole s.function (known.at s.function s.at) op.Return (fact_of last.fact)) exit
    pub fact : Fact
    pub gets : leave_of (known.of s.function) (known.at c.function c.at) (fact_of caller.fact) exit ≡ Some fact
    pub is : y ≡ node_at whole c.function (suc c.at) caller.entered fact

  first_exit : (g f at : ℕ) (caller fact : Fact) (exits : List Fact) → left_by whole known g f at caller exits ≡ Some fact
      → (exit : Fact) × Among exits exit × (leave_of (known.of g) (known.at f at) caller exit ≡ Some fact)
  first_exit g f at caller fact [] is = absurd (cc)
  first_exit g f at caller fact (exit ∷ rest) is = (exit, inl refl, is)

  left_sites : (caller last y : Node) (c s : Site) → site_of whole caller.at ≡ Some c → site_of whole last.at ≡ Some s
      → leaves_by whole known c s caller last ≡ Some y → IsLeft caller last y
  left_sites caller last y c s caller_site last_site is =
      let exits : List Fact = next_in whole s.function (known.at s.function s.at) op.Return (fact_of last.fact) in
      let left : Option Fact = left_by whole known s.function c.function c.at (fact_of caller.fact) exits in
      let rest : Bool = is_return s.its.op && is_there whole.functions c.function (suc c.at) in
      let guard =
      guard_is (is_callee (callee_of c.its.op) s.function && rest) (option_map (node_at whole c.function (suc c.at) caller.entered) left) y is in
      let it = mapped_is (node_at whole c.function (suc c.at) caller.entered) left y guard.1 in
      let exit = first_exit s.function c.function c.at (fact_of caller.fact) it.0 exits it.1 in
      let callee = and_left (is_callee (callee_of c.its.op) s.function) rest guard.0 in
      let others = and_right (is_callee (callee_of c.its.op) s.function) rest guard.0 in
      record {
        c = c;
        s = s;
        caller_site = caller_site;
        last_site = last_site;
        calls = is_call c.its.op s.function (callee_is (callee_of c.its.op) s.function callee);
        returns = and_left (is_return s.its.op) (is_there whole.functions c.function (suc c.at)) others;
        there = and_right (is_return s.its.op) (is_there whole.functions c.function (suc c.at)) others;
        exit = exit.0;
        exits = exit.1;
        fact = it.0;
        gets = exit.2;
        is = it.2;
      }

  left_at : (caller last y : Node) (a b : Option Site) → site_of whole caller.at ≡ a → site_of whole last.at ≡ b
      → leaves_at whole known a b caller last ≡ Some y → IsLeft caller last y
  left_at caller last y None b caller_site last_site is = absurd (cc)
  left_at caller last y (Some c) None caller_site last_site is = absurd (cc)
  left_at caller last y (Some c) (Some s) caller_site last_site is = left_sites caller last y c s caller_site last_site is

  pub left_of : (caller last y : Node) → (flow_of whole known).leaves caller last ≡ Some y → IsLeft caller last y
  left_of caller last y is = left_at caller last y (site_of whole caller.at) (site_of whole last.at) refl refl is

-- ---- the result of a return

-- at most one slot
abbrev pub IsSingle : List Slot → Type 0
IsSingle [] = Unit {0}
IsSingle (of ∷ []) = Unit {0}
IsSingle (of ∷ next ∷ rest) = ⊥

if_single : (b : Bool) (of : Slot) → IsSingle (slot_if b of)
if_single true of = tt
if_single false of = tt

returned_single : (top : ℕ) (of : Slot) → IsSingle (returned top of)
returned_single top slot.Nothing = tt
returned_single top slot.Answer = tt
returned_single top (slot.Variable (name.Global place)) = tt
returned_single top (slot.Variable (name.Local place)) = tt
returned_single top (slot.Place place) = if_single (place == top) slot.Answer
returned_single top (slot.Class class) = tt

each_single : (its : FactStatus) (slots : List Slot) (exit : Fact) → IsSingle slots → Among (at_each its slots) exit → at_each its slots ≡ exit ∷ []
each_single its [] exit one is = absurd is
each_single its (of ∷ []) exit one (inl is) = ap (λ fact. fact ∷ []) (sym is)
each_single its (of ∷ []) exit one (inr is) = absurd is
each_single its (of ∷ next ∷ rest) exit one is = absurd one

pub exit_one : (whole : WholeCode) (f : ℕ) (given : Given) (fact exit : Fact) → Among (next_in whole f given op.Return fact) exit
    → next_in whole f given op.Return fact ≡ exit ∷ []
exit_one whole f given fact exit is = each_single fact.status (returned (given.places - 1) fact.slot) exit (returned_single (given.places - 1) fact.slot) is
