-- What a search of the graph of a program finds are the pairs in which chains end.
--     exact_if_found                if the operations are numbered as they are in the graph
use Rattle.hs_chains.specs.Chains.{EndsIn}
use Rattle.hs_chains.specs.Knowledge.{Knowledge}
use Rattle.hs_facts.specs.Effects.{WholeCode}
use Rattle.hs_flow.specs.Among.{Among}
use Rattle.hs_flow.specs.declared.fact.Fact.{Fact}
use Rattle.hs_search.specs.Chains.{IsFound, IsOnce, IsReached, Reaches, nodes_of, pairs_at}
use Rattle.hs_search.specs.Chains as search
use Rattle.hs_search.specs.Finding.{operations_of, pairs_of}
use Rattle.hs_search.specs.Graphs.{Has}
use Rattle.hs_search.specs.declared.found.Pair as found
use Rattle.hs_taint.specs.Coding.{IsSmall, code_of, fact_of}
use Rattle.hs_taint.specs.Laws.Chains.{callers_small, ends_reach, entry_of_callers, one_entry, reach_ends}
use Rattle.hs_taint.specs.Laws.Coding.{fact_of_code}
use Rattle.hs_taint.specs.Laws.Members.{among_filter, among_has, among_map, filter_among, has_among, has_map, map_among, map_has}
use Rattle.hs_taint.specs.Laws.Nodes.{code_there, node_below, point_there}
use Rattle.hs_taint.specs.Laws.Points.{start_at, starts_length}
use Rattle.hs_taint.specs.Laws.SmallCalls.{IsSmallProgram}
use Rattle.hs_taint.specs.Laws.Ways.{way_of}
use Rattle.hs_taint.specs.Points.{Point, count_of, is_there, point_of, start_of, starts_from}
use Rattle.hs_taint.specs.Reaching.{AreDifferent, AreExact, IsInRange, IsLength, IsPairOf, most_pairs, most_steps, number_in, pair_of, pairs_in}
use Rattle.hs_taint.specs.Routes.{flow_of, node_at}
use Rattle.hs_taint.specs.declared.reached.Pair.{Pair}
use Rattle.hs_taint.specs.declared.reached.Reached.{Reached}
use Rattle.std.proofs.Common.{◌≡◌, ◌≤◌, ◌∙◌, inl, inr, ℕ, suc, ◌+◌, ◌==◌, Bool, true, false, List, [], ◌∷◌, length, map, cond, slice_get, slice_index_or, Some, ap, sym, subst, refl, arith}
use Rattle.std.proofs.lemmas.Bool.Decides.{nat_tests}
use Rattle.std.proofs.lemmas.Option.{get_or_from_slice_get, slice_get_within}

-- the index of an item that is there
index_some : (xs : List ℕ) (n x : ℕ) → slice_get xs n ≡ Some x → slice_index_or xs n 0 ≡ x
index_some xs n x is = get_or_from_slice_get xs n x 0 is

module _ (whole : WholeCode) (known : Knowledge) (fits : IsSmallProgram whole known) (main : is_there whole.functions whole.program.main 0 ≡ true)
    (reached : Reached) (starts : reached.starts.items ≡ starts_from 0 whole.functions) (count : operations_of reached.found ≡ count_of whole.functions)
    (is_found : IsFound (flow_of whole known) most_steps (pairs_of reached.found)) (few : length (pairs_of reached.found) ≤ most_pairs)
  where
    -- ---- operations

    -- the number of an operation is its number in the graph
    number_is : (f at : ℕ) → is_there whole.functions f at ≡ true → number_in reached f at ≡ start_of whole.functions f + at
    number_is f at there =
        let it = code_there whole.functions f at there in
        let below = slice_get_within whole.functions f it.0 it.1 in
        ap (λ n. n + at) (ap (λ xs. slice_index_or xs f 0) starts ∙ index_some (starts_from 0 whole.functions) f (start_of whole.functions f)
        (start_at whole.functions f below))

    in_range : (f at : ℕ) → is_there whole.functions f at ≡ true → IsInRange reached f at
    in_range f at there =
        let it = code_there whole.functions f at there in
        let below = slice_get_within whole.functions f it.0 it.1 in
        let long : length reached.starts.items ≡ length whole.functions = ap length starts ∙ starts_length 0 whole.functions in
        let within = node_below whole.functions f at there in
        let is = number_is f at there in
        record { function = omega (arith); operation = omega (arith) }

    -- two operations of one number are one
    one_point : (f at g bt : ℕ) → is_there whole.functions f at ≡ true → is_there whole.functions g bt ≡ true
        → start_of whole.functions f + at ≡ start_of whole.functions g + bt → (f ≡ g) × (at ≡ bt)
    one_point f at g bt there_f there_g same =
        let p : Point = record { function = f; at = at } in
        let q : Point = record { function = g; at = bt } in
        let is : Some p ≡ Some q =
        sym (point_there whole.functions f at there_f) ∙ (ap (point_of whole.functions) same ∙ point_there whole.functions g bt there_g) in
        let one : p ≡ q = cc in
        (ap (λ (p : Point). p.function) one, ap (λ (p : Point). p.at) one)

    -- ---- pairs of facts and pairs of numbers

    -- a pair that was found, at an operation
    record IsFoundAt (f at : ℕ) (p : Pair) : Type 0 where
      q : found.Pair
      has : Has (pairs_of reached.found) q
      number : q.node.at ≡ start_of whole.functions f + at
      is : p ≡ pair_of q

    found_at : (f at : ℕ) (p : Pair) → is_there whole.functions f at ≡ true → Among (pairs_in reached f at) p → IsFoundAt f at p
    found_at f at p there among =
        let mapped = map_among pair_of (pairs_at (number_in reached f at) (pairs_of reached.found)) p among in
        let kept = filter_among (λ q. q.node.at == number_in reached f at) (pairs_of reached.found) mapped.0 mapped.1 in
        let same : mapped.0.node.at ≡ number_in reached f at = (let passes = kept.1 in grind (arith, nat_tests)) in
        record { q = mapped.0; has = among_has (pairs_of reached.found) mapped.0 kept.0; number = same ∙ number_is f at there; is = mapped.2 }

    -- what a chain of so many nodes to a pair that was found says of its facts
    record IsEnd (n f at : ℕ) (q : found.Pair) : Type 0 where
      entry : Fact
      fact : Fact
      small_entry : IsSmall entry
      small : IsSmall fact
      entry_is : q.node.entered ≡ code_of entry
      fact_is : q.node.fact ≡ code_of fact
      ends : EndsIn whole known n f at entry fact

    end_of : (n f at : ℕ) (q : found.Pair) → is_there whole.functions f at ≡ true → q.node.at ≡ start_of whole.functions f + at
        → Reaches (flow_of whole known) n q.node → IsEnd n f at q
    end_of n f at q there number reaches =
        let it = reach_ends whole known fits main n q.node reaches in
        let same = one_point it.f it.at f at it.there there (sym (ap (λ x. x.at) it.is) ∙ number) in
        record {
          entry = it.entry;
          fact = it.fact;
          small_entry = it.small_entry;
          small = it.small;
          entry_is = ap (λ x. x.entered) it.is;
          fact_is = ap (λ x. x.fact) it.is;
          ends = subst (λ f. EndsIn whole known n f at it.entry it.fact) same.0 (subst (λ at. EndsIn whole known n it.f at it.entry it.fact) same.1 it.ends);
        }

    -- its facts are those of the pair
    pair_entry : (n f at : ℕ) (q : found.Pair) (it : IsEnd n f at q) → it.entry ≡ (pair_of q).entry
    pair_entry n f at q it = sym (ap fact_of it.entry_is ∙ fact_of_code it.entry it.small_entry)

    pair_fact : (n f at : ℕ) (q : found.Pair) (it : IsEnd n f at q) → it.fact ≡ (pair_of q).fact
    pair_fact n f at q it = sym (ap fact_of it.fact_is ∙ fact_of_code it.fact it.small)

    ends_of : (n f at : ℕ) (q : found.Pair) → is_there whole.functions f at ≡ true → q.node.at ≡ start_of whole.functions f + at
        → Reaches (flow_of whole known) n q.node → EndsIn whole known n f at (pair_of q).entry (pair_of q).fact
    ends_of n f at q there number reaches =
        let it = end_of n f at q there number reaches in
        subst (λ entry. EndsIn whole known n f at entry (pair_of q).fact) (pair_entry n f at q it)
        (subst (EndsIn whole known n f at it.entry) (pair_fact n f at q it) it.ends)

    -- and back: a chain that ends in the pair leads to its node
    node_is : (m f at : ℕ) (q : found.Pair) → is_there whole.functions f at ≡ true → q.node.at ≡ start_of whole.functions f + at
        → Reaches (flow_of whole known) m q.node → node_at whole f at (code_of (pair_of q).entry) (pair_of q).fact ≡ q.node
    node_is m f at q there number reaches =
        let it = end_of m f at q there number reaches in
        let entered : code_of (pair_of q).entry ≡ q.node.entered = ap code_of (sym (pair_entry m f at q it)) ∙ sym it.entry_is in
        let fact : code_of (pair_of q).fact ≡ q.node.fact = ap code_of (sym (pair_fact m f at q it)) ∙ sym it.fact_is in
        λ i. record { at = sym number i; fact = fact i; entered = entered i }

    reaches_of : (n m f at : ℕ) (q : found.Pair) → is_there whole.functions f at ≡ true → q.node.at ≡ start_of whole.functions f + at
        → Reaches (flow_of whole known) m q.node → EndsIn whole known n f at (pair_of q).entry (pair_of q).fact → Reaches (flow_of whole known) n q.node
    reaches_of n m f at q there number reaches ends =
        subst (Reaches (flow_of whole known) n) (node_is m f at q there number reaches)
        (ends_reach whole known fits main n f at (pair_of q).entry (pair_of q).fact there ends)

    -- each pair that was found is reached
    reached_by : (q : found.Pair) → Has (pairs_of reached.found) q → IsReached (flow_of whole known) q.node
    reached_by q has = is_found.reached q.node (has_map (λ p. p.node) (pairs_of reached.found) q has)

    -- ---- what is exact

    ends : (f at : ℕ) (p : Pair) → is_there whole.functions f at ≡ true → Among (pairs_in reached f at) p
        → (n : ℕ) × EndsIn whole known n f at p.entry p.fact
    ends f at p there among =
        let it = found_at f at p there among in
        let reaches = reached_by it.q it.has in
        (reaches.0, subst (λ p. EndsIn whole known reaches.0 f at p.entry p.fact) (sym it.is) (ends_of reaches.0 f at it.q there it.number reaches.1))

    all : (n f at : ℕ) (entry fact : Fact) → is_there whole.functions f at ≡ true → EndsIn whole known n f at entry fact
        → IsPairOf whole known reached f at entry fact
    all n f at entry fact there ending =
        let reaches = ends_reach whole known fits main n f at entry fact there ending in
        let has = is_found.all (node_at whole f at (code_of entry) fact) (n, reaches) in
        let it = map_has (λ p. p.node) (pairs_of reached.found) (node_at whole f at (code_of entry) fact) has in
        let way = way_of whole known fits n (record { function = f; at = at; fact = fact }) ending.stack ending.chain there in
        let number : it.0.node.at ≡ number_in reached f at = ap (λ x. x.at) it.2 ∙ sym (number_is f at there) in
        let same : (it.0.node.at == number_in reached f at) ≡ true = grind (arith, nat_tests) in
        record {
          pair = pair_of it.0;
          among =
              among_map pair_of (pairs_at (number_in reached f at) (pairs_of reached.found)) it.0
              (among_filter (λ q. q.node.at == number_in reached f at) (pairs_of reached.found) it.0 (has_among (pairs_of reached.found) it.0 it.1) same);
          entry_is = ap (λ x. fact_of x.entered) it.2 ∙ fact_of_code entry (entry_small n f at entry fact there ending);
          fact_is = ap (λ x. fact_of x.fact) it.2 ∙ fact_of_code fact way.small;
        }
      where
        entry_small : (n f at : ℕ) (entry fact : Fact) → is_there whole.functions f at ≡ true → EndsIn whole known n f at entry fact → IsSmall entry
        entry_small n f at entry fact there ending =
            let way = way_of whole known fits n (record { function = f; at = at; fact = fact }) ending.stack ending.chain there in
            subst IsSmall (one_entry whole known fits ending.stack f way.entry entry
            (entry_of_callers whole known fits ending.stack f way.entry way.nodes way.callers) ending.entered)
            (callers_small whole known fits ending.stack f way.entry way.nodes way.callers)

    lengths : (f at : ℕ) (p : Pair) → is_there whole.functions f at ≡ true → Among (pairs_in reached f at) p → IsLength whole known f at p
    lengths f at p there among =
        let it = found_at f at p there among in
        subst (IsLength whole known f at) (sym it.is) (by it.q it.has it.number (is_found.lengths it.q it.has))
      where
        by : (q : found.Pair) → Has (pairs_of reached.found) q → q.node.at ≡ start_of whole.functions f + at
            → search.IsLength (flow_of whole known) most_steps q.length q.node → IsLength whole known f at (pair_of q)
        by q has number (inl short) =
            inl (
              short.0,
              record {
                ends = ends_of q.length f at q there number short.1.reaches;
                least = λ m ends. short.1.least m (reaches_of m q.length f at q there number short.1.reaches ends);
              },
            )
        by q has number (inr long) =
            let reaches = reached_by q has in
            inr (long.0, λ n ends. long.1 n (reaches_of n reaches.0 f at q there number reaches.1 ends))

    -- ---- each pair once

    -- two pairs with the same facts at one operation have one node
    one_node : (f at : ℕ) (p q : found.Pair) → is_there whole.functions f at ≡ true → Has (pairs_of reached.found) p → Has (pairs_of reached.found) q
        → p.node.at ≡ number_in reached f at → q.node.at ≡ number_in reached f at
        → (pair_of q).entry ≡ (pair_of p).entry → (pair_of q).fact ≡ (pair_of p).fact → q.node ≡ p.node
    one_node f at p q there has_p has_q at_p at_q entry fact =
        let number_p = at_p ∙ number_is f at there in
        let number_q = at_q ∙ number_is f at there in
        let reaches_p = reached_by p has_p in
        let reaches_q = reached_by q has_q in
        sym (node_is reaches_q.0 f at q there number_q reaches_q.1)
        ∙ ((λ i. node_at whole f at (code_of (entry i)) (fact i)) ∙ node_is reaches_p.0 f at p there number_p reaches_p.1)

    once_in : (f at : ℕ) → is_there whole.functions f at ≡ true → (ps : List found.Pair)
        → ((p : found.Pair) → Has ps p → Has (pairs_of reached.found) p) → IsOnce (nodes_of ps)
        → AreDifferent (map pair_of (pairs_at (number_in reached f at) ps))
    once_in f at there [] has once = tt
    once_in f at there (p ∷ ps) has once =
        by (once_in f at there ps (λ q among. has q (inr among)) once.1) (p.node.at == number_in reached f at) refl
      where
        apart : (p.node.at == number_in reached f at) ≡ true → (q : Pair) → Among (map pair_of (pairs_at (number_in reached f at) ps)) q
            → q.entry ≡ (pair_of p).entry → q.fact ≡ (pair_of p).fact → ⊥
        apart own q among entry fact =
            let mapped = map_among pair_of (pairs_at (number_in reached f at) ps) q among in
            let kept = filter_among (λ q. q.node.at == number_in reached f at) ps mapped.0 mapped.1 in
            let has_q = among_has ps mapped.0 kept.0 in
            let at_p : p.node.at ≡ number_in reached f at = grind (arith, nat_tests) in
            let at_q : mapped.0.node.at ≡ number_in reached f at = (let passes = kept.1 in grind (arith, nat_tests)) in
            let same = one_node f at p mapped.0 there (has p (inl refl)) (has mapped.0 (inr has_q)) at_p at_q
            (sym (ap (λ q. q.entry) mapped.2) ∙ entry) (sym (ap (λ q. q.fact) mapped.2) ∙ fact) in
            once.0 (subst (Has (nodes_of ps)) same (has_map (λ p. p.node) ps mapped.0 has_q))

        by : AreDifferent (map pair_of (pairs_at (number_in reached f at) ps)) → (b : Bool) → (p.node.at == number_in reached f at) ≡ b
            → AreDifferent (map pair_of (cond b (p ∷ pairs_at (number_in reached f at) ps) (pairs_at (number_in reached f at) ps)))
        by later true own = (apart own, later)
        by later false own = later

    -- ---- all of it

    -- what was found is exact
    pub exact_if_found : AreExact whole known reached
    exact_if_found = record {
      range = in_range;
      ends = ends;
      all = all;
      once = λ f at there. once_in f at there (pairs_of reached.found) (λ p has. has) is_found.once;
      lengths = lengths;
      few = subst (λ n. n ≤ most_pairs) (sym (length_map (pairs_of reached.found))) few;
    }
      where
        length_map : (ps : List found.Pair) → length (map pair_of ps) ≡ length ps
        length_map [] = refl
        length_map (p ∷ ps) = ap suc (length_map ps)
