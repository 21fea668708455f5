-- A graph of two functions: `main` is 0, 1 and 2, and calls the function of 3 and 4 at 0 and at 1. At 1 it passes a fact of its own.
--     helper_graph fact other   the graph, which starts with the fact, and passes the other at 1
--     helper_framed             it keeps what each graph keeps
use Rattle.std.proofs.Common.{◌≡◌, ◌<◌, ℕ, ◌+◌, ◌==◌, nat_lt, Bool, true, false, if◌then◌else◌, List, [], ◌∷◌, Option, Some, None, inl, inr, ◌⊎◌, refl, ap, sym, ◌∙◌, subst, arith}
use Rattle.std.proofs.lemmas.Bool.Decides.{nat_tests}
use Rattle.hs_search.specs.Graphs.{FlowGraph, Has, IsFramed}
use Rattle.hs_search.specs.declared.graph.Node.{Node}

-- a node of those numbers
abbrev pub the_node : ℕ → ℕ → ℕ → Node
the_node at fact entered = record { at = at; fact = fact; entered = entered }

-- the function that is called steps to its end
abbrev pub next_of : Node → List Node
next_of x = if x.at == 3 then the_node 4 x.fact x.entered ∷ [] else []

-- at 0 it is called with the fact, and at 1 with the other one
abbrev pub called_by : ℕ → Node → Option Node
called_by other x = if x.at == 0 then Some (the_node 3 x.fact x.fact) else (if x.at == 1 then Some (the_node 3 other other) else None)

-- it is left at 4, with its fact
abbrev pub back_to : Node → Node → Option Node
back_to c x = if x.at == 4 then (if nat_lt c.at 2 then Some (the_node (c.at + 1) x.fact c.entered) else None) else None

-- the first operation of the function
abbrev pub first_of : ℕ → ℕ
first_of at = if nat_lt at 3 then 0 else 3

abbrev pub helper_graph : ℕ → ℕ → FlowGraph
helper_graph fact other = record {
  count = 5;
  start = the_node 0 fact fact;
  steps = next_of;
  enters = called_by other;
  ends = λ x. x.at == 4;
  leaves = back_to;
  entry = λ x. the_node (first_of x.at) x.entered x.entered;
}

-- ---- what it keeps

some_is : {a b : Node} → Some a ≡ Some b → a ≡ b
some_is h = cc

equal_is : (a b : ℕ) → (a == b) ≡ true → a ≡ b
equal_is a b is = grind (arith, nat_tests)

-- a step is from 3 to 4
step_is : (x y : Node) (test : Bool) → (x.at == 3) ≡ test → Has (if test then the_node 4 x.fact x.entered ∷ [] else []) y
    → (x.at ≡ 3) × (the_node 4 x.fact x.entered ≡ y)
step_is x y true is (inl same) = (equal_is x.at 3 is, same)
step_is x y true is (inr wrong) = absurd wrong
step_is x y false is wrong = absurd wrong

-- a call is from 0 or from 1, to 3
call_is : (other : ℕ) (x y : Node) (zero_test one_test : Bool) → (x.at == 0) ≡ zero_test → (x.at == 1) ≡ one_test
    → (if zero_test then Some (the_node 3 x.fact x.fact) else (if one_test then Some (the_node 3 other other) else None)) ≡ Some y
    → ((x.at ≡ 0) ⊎ (x.at ≡ 1)) × ((fact : ℕ) × (the_node 3 fact fact ≡ y))
call_is other x y true one zero_is one_is same = (inl (equal_is x.at 0 zero_is), (x.fact, some_is same))
call_is other x y false true zero_is one_is same = (inr (equal_is x.at 1 one_is), (other, some_is same))
call_is other x y false false zero_is one_is same = absurd cc

-- a return is from 4, to the operation after 0 or 1
return_is : (c x y : Node) (end_test early : Bool) → (x.at == 4) ≡ end_test → nat_lt c.at 2 ≡ early
    → (if end_test then (if early then Some (the_node (c.at + 1) x.fact c.entered) else None) else None) ≡ Some y
    → (x.at ≡ 4) × (c.at < 2) × (the_node (c.at + 1) x.fact c.entered ≡ y)
return_is c x y true true end_is early_is same = (equal_is x.at 4 end_is, (grind (arith, nat_tests)), some_is same)
return_is c x y true false end_is early_is same = absurd cc
return_is c x y false early end_is early_is same = absurd cc

first_low : (at : ℕ) → at < 3 → first_of at ≡ 0
first_low at low = ap (λ b. if b then 0 else 3) (test at low)
  where
    test : (n : ℕ) → n < 3 → nat_lt n 3 ≡ true
    test n low = grind (arith, nat_tests)

-- neither test of a call passes
no_call : (other : ℕ) (x : Node) → x.at ≡ 4 → called_by other x ≡ None
no_call other x is = subst (λ n. (if n == 0 then Some (the_node 3 x.fact x.fact) else (if n == 1 then Some (the_node 3 other other) else None)) ≡ None) (sym is) refl

no_step : (x : Node) → x.at ≡ 4 → next_of x ≡ []
no_step x is = subst (λ n. (if n == 3 then the_node 4 x.fact x.entered ∷ [] else []) ≡ []) (sym is) refl

pub helper_framed : (fact other : ℕ) → IsFramed (helper_graph fact other)
helper_framed fact other = record {
  at_start = refl;
  by_step = λ x y step. let its = step_is x y (x.at == 3) refl step in
      subst (λ (z : Node). the_node (first_of z.at) z.entered z.entered ≡ the_node (first_of x.at) x.entered x.entered) its.1
      (ap (λ n. the_node (first_of n) x.entered x.entered) (sym its.0));
  by_call = λ x y call. let its = call_is other x y (x.at == 0) (x.at == 1) refl refl call in
      subst (λ (z : Node). the_node (first_of z.at) z.entered z.entered ≡ z) its.1.1 refl;
  by_return = λ c x y back. let its = return_is c x y (x.at == 4) (nat_lt c.at 2) refl refl back in
      subst (λ (z : Node). the_node (first_of z.at) z.entered z.entered ≡ the_node (first_of c.at) c.entered c.entered) its.2
      (ap (λ n. the_node n c.entered c.entered) (first_low (c.at + 1) (let low = its.1 in omega arith) ∙ sym (first_low c.at (let low = its.1 in omega arith))));
  own = λ x. refl;
  start_within = omega arith;
  step_within = λ x y step. let its = step_is x y (x.at == 3) refl step in subst (λ (z : Node). z.at < 5) its.1 (let low : 4 < 5 = omega arith in low);
  call_within = λ x y call. let its = call_is other x y (x.at == 0) (x.at == 1) refl refl call in
      subst (λ (z : Node). z.at < 5) its.1.1 (let low : 3 < 5 = omega arith in low);
  return_within = λ c x y back. let its = return_is c x y (x.at == 4) (nat_lt c.at 2) refl refl back in
      subst (λ (z : Node). z.at < 5) its.2 (let low = its.1 in let less : c.at + 1 < 5 = omega arith in less);
  ended = λ c x y back. let its = return_is c x y (x.at == 4) (nat_lt c.at 2) refl refl back in subst (λ n. (n == 4) ≡ true) (sym its.0) refl;
  stops = λ x end_. let at = equal_is x.at 4 end_ in (no_step x at, no_call other x at);
  apart = λ x y b step call same. let its = step_is x y (x.at == 3) refl step in
      let called : ((x.at ≡ 0) ⊎ (x.at ≡ 1)) × ((fact : ℕ) × (the_node 3 fact fact ≡ b)) = call_is other x b (x.at == 0) (x.at == 1) refl refl call in neither x.at its.0 called.0;
}
  where
    neither : (n : ℕ) → n ≡ 3 → (n ≡ 0) ⊎ (n ≡ 1) → ⊥
    neither n three (inl zero_is) = absurd (omega arith)
    neither n three (inr one_is) = absurd (omega arith)
