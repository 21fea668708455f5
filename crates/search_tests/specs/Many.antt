-- A graph of two functions, whose second one has many facts at one operation. `main` is 0, 1 and 2, and calls the other at 0 and at 1. At 1 it
-- passes a fact of its own. The other is 3, 4 and 5. At 4 a fact is followed by the next one, up to 40, and by 0 once more.
--     many_graph fact other     the graph, which starts with the fact, and passes the other at 1
--     many_framed               it keeps what each graph keeps
use Rattle.std.proofs.Common.{◌≡◌, ◌<◌, ℕ, ◌+◌, ◌==◌, nat_lt, Bool, true, false, if◌then◌else◌, List, [], ◌∷◌, Option, Some, None, inl, inr, ◌⊎◌, refl, ap, sym, ◌∙◌, subst, arith}
use Rattle.std.proofs.lemmas.Bool.Decides.{nat_tests}
use Rattle.hs_search.specs.Graphs.{FlowGraph, Has, IsFramed}
use Rattle.hs_search.specs.declared.graph.Node.{Node}
use Rattle.search_tests.specs.Helper.{the_node, called_by, first_of}

-- the next fact, or the end
abbrev pub after_fact : Node → Node
after_fact x = if nat_lt x.fact 40 then the_node 4 (x.fact + 1) x.entered else the_node 5 x.fact x.entered

-- the steps of the function that is called
abbrev pub many_next : Node → List Node
many_next x = if x.at == 3 then the_node 4 0 x.entered ∷ [] else (if x.at == 4 then the_node 4 0 x.entered ∷ after_fact x ∷ [] else [])

-- it is left at 5, with its fact
abbrev pub many_back : Node → Node → Option Node
many_back c x = if x.at == 5 then (if nat_lt c.at 2 then Some (the_node (c.at + 1) x.fact c.entered) else None) else None

abbrev pub many_graph : ℕ → ℕ → FlowGraph
many_graph fact other = record {
  count = 6;
  start = the_node 0 fact fact;
  steps = many_next;
  enters = called_by other;
  ends = λ x. x.at == 5;
  leaves = many_back;
  entry = λ x. the_node (first_of x.at) x.entered x.entered;
}

-- ---- what it keeps

some_is : {a b : Node} → Some a ≡ Some b → a ≡ b
some_is h = cc

equal_is : (a b : ℕ) → (a == b) ≡ true → a ≡ b
equal_is a b is = grind (arith, nat_tests)

-- it is in the function that is called, after its first operation
record IsInside (x y : Node) : Type 0 where
  from : (x.at ≡ 3) ⊎ (x.at ≡ 4)
  to : (y.at ≡ 4) ⊎ (y.at ≡ 5)
  entered : y.entered ≡ x.entered

fact_inside : (x y : Node) (early : Bool) → nat_lt x.fact 40 ≡ early → x.at ≡ 4
    → (if early then the_node 4 (x.fact + 1) x.entered else the_node 5 x.fact x.entered) ≡ y → IsInside x y
fact_inside x y true is at same =
    record { from = inr at; to = inl (ap (λ (z : Node). z.at) (sym same)); entered = ap (λ (z : Node). z.entered) (sym same) }
fact_inside x y false is at same =
    record { from = inr at; to = inr (ap (λ (z : Node). z.at) (sym same)); entered = ap (λ (z : Node). z.entered) (sym same) }

step_inside : (x y : Node) (first second : Bool) → (x.at == 3) ≡ first → (x.at == 4) ≡ second
    → Has (if first then the_node 4 0 x.entered ∷ [] else (if second then the_node 4 0 x.entered ∷ after_fact x ∷ [] else [])) y → IsInside x y
step_inside x y true second is its (inl same) =
    record { from = inl (equal_is x.at 3 is); to = inl (ap (λ (z : Node). z.at) (sym same)); entered = ap (λ (z : Node). z.entered) (sym same) }
step_inside x y true second is its (inr wrong) = absurd wrong
step_inside x y false true is its (inl same) =
    record { from = inr (equal_is x.at 4 its); to = inl (ap (λ (z : Node). z.at) (sym same)); entered = ap (λ (z : Node). z.entered) (sym same) }
step_inside x y false true is its (inr (inl same)) = fact_inside x y (nat_lt x.fact 40) refl (equal_is x.at 4 its) same
step_inside x y false true is its (inr (inr wrong)) = absurd wrong
step_inside x y false false is its wrong = absurd wrong

-- a call is from 0 or from 1, to 3
call_is : (other : ℕ) (x y : Node) (zero_test one_test : Bool) → (x.at == 0) ≡ zero_test → (x.at == 1) ≡ one_test
    → (if zero_test then Some (the_node 3 x.fact x.fact) else (if one_test then Some (the_node 3 other other) else None)) ≡ Some y
    → ((x.at ≡ 0) ⊎ (x.at ≡ 1)) × ((fact : ℕ) × (the_node 3 fact fact ≡ y))
call_is other x y true one zero_is one_is same = (inl (equal_is x.at 0 zero_is), (x.fact, some_is same))
call_is other x y false true zero_is one_is same = (inr (equal_is x.at 1 one_is), (other, some_is same))
call_is other x y false false zero_is one_is same = absurd cc

-- a return is from 5, to the operation after 0 or 1
return_is : (c x y : Node) (end_test early : Bool) → (x.at == 5) ≡ end_test → nat_lt c.at 2 ≡ early
    → (if end_test then (if early then Some (the_node (c.at + 1) x.fact c.entered) else None) else None) ≡ Some y
    → (x.at ≡ 5) × (c.at < 2) × (the_node (c.at + 1) x.fact c.entered ≡ y)
return_is c x y true true end_is early_is same = (equal_is x.at 5 end_is, (grind (arith, nat_tests)), some_is same)
return_is c x y true false end_is early_is same = absurd cc
return_is c x y false early end_is early_is same = absurd cc

first_low : (at : ℕ) → at < 3 → first_of at ≡ 0
first_low at low = ap (λ b. if b then 0 else 3) (test at low)
  where
    test : (n : ℕ) → n < 3 → nat_lt n 3 ≡ true
    test n low = grind (arith, nat_tests)

-- no operation of the second function enters a call, and its last one does not step
no_call : (other : ℕ) (x : Node) → x.at ≡ 5 → called_by other x ≡ None
no_call other x is =
    subst (λ n. (if n == 0 then Some (the_node 3 x.fact x.fact) else (if n == 1 then Some (the_node 3 other other) else None)) ≡ None) (sym is) refl

no_step : (x : Node) → x.at ≡ 5 → many_next x ≡ []
no_step x is =
    subst (λ n. (if n == 3 then the_node 4 0 x.entered ∷ [] else (if n == 4 then the_node 4 0 x.entered ∷ after_fact x ∷ [] else [])) ≡ []) (sym is) refl

pub many_framed : (fact other : ℕ) → IsFramed (many_graph fact other)
many_framed fact other = record {
  at_start = refl;
  by_step = λ x y step. same_entry x y (step_inside x y (x.at == 3) (x.at == 4) refl refl step);
  by_call = λ x y call. let its = call_is other x y (x.at == 0) (x.at == 1) refl refl call in
      subst (λ (z : Node). the_node (first_of z.at) z.entered z.entered ≡ z) its.1.1 refl;
  by_return = λ c x y back. let its = return_is c x y (x.at == 5) (nat_lt c.at 2) refl refl back in
      subst (λ (z : Node). the_node (first_of z.at) z.entered z.entered ≡ the_node (first_of c.at) c.entered c.entered) its.2
      (ap (λ n. the_node n c.entered c.entered) (first_low (c.at + 1) (let low = its.1 in omega arith) ∙ sym (first_low c.at (let low = its.1 in omega arith))));
  own = λ x. refl;
  start_within = omega arith;
  step_within = λ x y step. inside_within x y (step_inside x y (x.at == 3) (x.at == 4) refl refl step);
  call_within = λ x y call. let its = call_is other x y (x.at == 0) (x.at == 1) refl refl call in
      subst (λ (z : Node). z.at < 6) its.1.1 (let low : 3 < 6 = omega arith in low);
  return_within = λ c x y back. let its = return_is c x y (x.at == 5) (nat_lt c.at 2) refl refl back in
      subst (λ (z : Node). z.at < 6) its.2 (let low = its.1 in let less : c.at + 1 < 6 = omega arith in less);
  ended = λ c x y back. let its = return_is c x y (x.at == 5) (nat_lt c.at 2) refl refl back in subst (λ n. (n == 5) ≡ true) (sym its.0) refl;
  stops = λ x end_. let at = equal_is x.at 5 end_ in (no_step x at, no_call other x at);
  apart = λ x y b step call same. let its = step_inside x y (x.at == 3) (x.at == 4) refl refl step in
      let called : ((x.at ≡ 0) ⊎ (x.at ≡ 1)) × ((fact : ℕ) × (the_node 3 fact fact ≡ b)) = call_is other x b (x.at == 0) (x.at == 1) refl refl call in
      neither x.at its.from called.0;
}
  where
    high : (x : Node) → (x.at ≡ 3) ⊎ (x.at ≡ 4) → first_of x.at ≡ 3
    high x (inl is) = ap first_of is
    high x (inr is) = ap first_of is

    high_next : (y : Node) → (y.at ≡ 4) ⊎ (y.at ≡ 5) → first_of y.at ≡ 3
    high_next y (inl is) = ap first_of is
    high_next y (inr is) = ap first_of is

    same_entry : (x y : Node) → IsInside x y → the_node (first_of y.at) y.entered y.entered ≡ the_node (first_of x.at) x.entered x.entered
    same_entry x y its = (λ i. the_node ((high_next y its.to ∙ sym (high x its.from)) i) (its.entered i) (its.entered i))

    inside_within : (x y : Node) → IsInside x y → y.at < 6
    inside_within x y its = within its.to
      where
        within : (y.at ≡ 4) ⊎ (y.at ≡ 5) → y.at < 6
        within (inl is) = omega arith
        within (inr is) = omega arith

    neither : (n : ℕ) → (n ≡ 3) ⊎ (n ≡ 4) → (n ≡ 0) ⊎ (n ≡ 1) → ⊥
    neither n (inl three) (inl zero_is) = absurd (omega arith)
    neither n (inl three) (inr one_is) = absurd (omega arith)
    neither n (inr four) (inl zero_is) = absurd (omega arith)
    neither n (inr four) (inr one_is) = absurd (omega arith)
