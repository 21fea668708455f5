-- What flows out of a set, edge by edge, and how large it is.
use Rattle.std.proofs.Common.{◌≡◌, ℕ, ◌+◌, ◌*◌, ◌<◌, ◌≤◌, ℤ, pos, ◌+ℤ◌, ◌-ℤ◌, Bool, true, false, cond, List, length, drop, get_or, set, nat_eq, refl, ap, ◌∙◌, arith, length-set}
use Rattle.std.specs.Prelude.{nat_abs}
use Rattle.std.proofs.lemmas.List.{drop_more}
use Rattle.std.proofs.lemmas.Bool.Decides.{nat_tests}
use Rattle.std.proofs.lemmas.Int.{ints}
use Rattle.hs_cut.specs.declared.network.CutEdge.{CutEdge}
use Rattle.hs_cut.specs.Networks.{Side}
use Rattle.hs_cut.specs.Flows.{out_over, net_out}
use Rattle.hs_cut.specs.NetOut.{out_over-size}
use Rattle.hs_cert.proofs.Places.{written}

-- what the edges from this one on take out
pub net_out_more : (side : Side) (edges : List CutEdge) (flow : List ℤ) (i : ℕ) (d : CutEdge) (e : ℤ) → i < length edges → i < length flow
    → net_out side (drop i edges) (drop i flow) ≡ out_over side (get_or edges i d) (get_or flow i e) +ℤ net_out side (drop (i + 1) edges) (drop (i + 1) flow)
net_out_more side edges flow i d e below within = rw (drop_more edges i d below, drop_more flow i e within) refl

-- the sum so far, and what is left
pub total_more : (total out rest all : ℤ) → total +ℤ (out +ℤ rest) ≡ all → (total +ℤ out) +ℤ rest ≡ all
total_more total out rest all is = omega (arith, ints)

-- and how large it is at most
pub total_small : (total out : ℤ) (i bound : ℕ) → nat_abs total ≤ i * bound → nat_abs out ≤ bound → nat_abs (total +ℤ out) ≤ (i + 1) * bound
total_small total out i bound small one = omega (arith, ints)

-- what the test of two vertices says
same : (one other : ℕ) → nat_eq one other ≡ true → one ≡ other
same one other h = grind (arith, nat_tests)

-- two writes for an edge: what they bring to the place of a vertex
pub balanced : (sums first : List ℤ) (vertex from to : ℕ) (amount back : ℤ) → from < length sums → to < length sums → back ≡ pos 0 -ℤ amount
    → first ≡ set sums from (get_or sums from (pos 0) +ℤ amount)
    → get_or (set first to (get_or first to (pos 0) +ℤ back)) vertex (pos 0)
    ≡ get_or sums vertex (pos 0) +ℤ (cond (nat_eq vertex from) amount (pos 0) -ℤ cond (nat_eq vertex to) amount (pos 0))
balanced sums first vertex from to amount back from_within to_within is_back is_first =
    let long : length first ≡ length sums = ap length is_first ∙ length-set sums from (get_or sums from (pos 0) +ℤ amount) in
    let within : to < length first = omega arith in
    let here : get_or first vertex (pos 0) ≡ cond (nat_eq vertex from) (get_or sums from (pos 0) +ℤ amount) (get_or sums vertex (pos 0)) =
    rw is_first (written sums vertex from (get_or sums from (pos 0) +ℤ amount) from_within) in
    rw (written first vertex to (get_or first to (pos 0) +ℤ back) within)
    (at_vertex (nat_eq vertex from) (nat_eq vertex to) amount back (get_or sums vertex (pos 0)) (get_or sums from (pos 0))
    (get_or first vertex (pos 0)) (get_or first to (pos 0)) is_back here
    (λ h. ap (λ (v : ℕ). get_or sums v (pos 0)) (same vertex from h)) (λ h. ap (λ (v : ℕ). get_or first v (pos 0)) (same vertex to h)))
  where
    at_vertex : (is_from is_to : Bool) (amount back here at_from now at_to : ℤ) → back ≡ pos 0 -ℤ amount → now ≡ cond is_from (at_from +ℤ amount) here
        → (is_from ≡ true → here ≡ at_from) → (is_to ≡ true → now ≡ at_to)
        → cond is_to (at_to +ℤ back) now ≡ here +ℤ (cond is_from amount (pos 0) -ℤ cond is_to amount (pos 0))
    at_vertex true true amount back here at_from now at_to is_back is_now from_is to_is = omega (arith, ints, from_is refl, to_is refl)
    at_vertex true false amount back here at_from now at_to is_back is_now from_is to_is = omega (arith, ints, from_is refl)
    at_vertex false true amount back here at_from now at_to is_back is_now from_is to_is = omega (arith, ints, to_is refl)
    at_vertex false false amount back here at_from now at_to is_back is_now from_is to_is = omega (arith, ints)

-- the sums so far, with what is left: one edge more
pub balance_more : (edges : List CutEdge) (flow sums first second : List ℤ) (i bound : ℕ) (d : CutEdge) (back : ℤ) → i < length edges
    → i < length flow
    → (get_or edges i d).from < length sums → (get_or edges i d).to < length sums
    → back ≡ pos 0 -ℤ get_or flow i (pos 0)
    → first ≡ set sums (get_or edges i d).from (get_or sums (get_or edges i d).from (pos 0) +ℤ get_or flow i (pos 0))
    → second ≡ set first (get_or edges i d).to (get_or first (get_or edges i d).to (pos 0) +ℤ back)
    → nat_abs (get_or flow i (pos 0)) ≤ bound
    → (vertex : ℕ) → get_or sums vertex (pos 0) +ℤ net_out (nat_eq vertex) (drop i edges) (drop i flow) ≡ net_out (nat_eq vertex) edges flow
    → nat_abs (get_or sums vertex (pos 0)) ≤ i * bound
    → (get_or second vertex (pos 0) +ℤ net_out (nat_eq vertex) (drop (i + 1) edges) (drop (i + 1) flow) ≡ net_out (nat_eq vertex) edges flow)
    × (nat_abs (get_or second vertex (pos 0)) ≤ (i + 1) * bound)
balance_more edges flow sums first second i bound d back below within from_within to_within is_back is_first is_second small vertex before low =
    let edge = get_or edges i d in
    let amount = get_or flow i (pos 0) in
    let now : get_or second vertex (pos 0) ≡ get_or sums vertex (pos 0) +ℤ out_over (nat_eq vertex) (get_or edges i d) (get_or flow i (pos 0)) =
    rw is_second (balanced sums first vertex edge.from edge.to amount back from_within to_within is_back is_first) in
    let left = net_out_more (nat_eq vertex) edges flow i d (pos 0) below within in (
      rw now (total_more (get_or sums vertex (pos 0)) _ _ _ (rw (← left) before)),
      rw now (total_small (get_or sums vertex (pos 0)) _ i bound low (out_over-size (nat_eq vertex) edge amount bound small)),
    )

-- the place of a vertex after the first of the two writes
pub half_small : (sums first : List ℤ) (from vertex i bound : ℕ) (amount : ℤ) → from < length sums
    → first ≡ set sums from (get_or sums from (pos 0) +ℤ amount)
    → nat_abs amount ≤ bound → ((other : ℕ) → nat_abs (get_or sums other (pos 0)) ≤ i * bound)
    → nat_abs (get_or first vertex (pos 0)) ≤ (i + 1) * bound
half_small sums first from vertex i bound amount within is_first small low =
    rw (is_first, written sums vertex from (get_or sums from (pos 0) +ℤ amount) within)
    (of_test (nat_eq vertex from) (get_or sums from (pos 0)) (get_or sums vertex (pos 0)) amount i bound (low from) (low vertex) small)
  where
    of_test : (test : Bool) (at_from here amount : ℤ) (i bound : ℕ) → nat_abs at_from ≤ i * bound → nat_abs here ≤ i * bound
        → nat_abs amount ≤ bound → nat_abs (cond test (at_from +ℤ amount) here) ≤ (i + 1) * bound
    of_test true at_from here amount i bound low_from low small = omega (arith, ints)
    of_test false at_from here amount i bound low_from low small = omega (arith, ints)
