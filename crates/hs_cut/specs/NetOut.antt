-- What flows out of a set, less what flows in, over the edges of a list: sums, and their bounds.
--     net_out-empty, net_out-same, net_out-join, net_out-with     sets: none, the same, two without a common vertex, one vertex more
--     net_out-slice_set                                           one number changed
--     out_over-size, net_out-crossings                            how much it is at most
use Rattle.std.proofs.Common.{◌≡◌, ℕ, zero, suc, ◌+◌, ◌<◌, ◌≤◌, ℤ, pos, negsuc, ◌+ℤ◌, ◌-ℤ◌, ◌≤ℤ◌, nat_abs, Bool, true, false, ◌&&◌, ◌||◌, cond, List, [], ◌∷◌, length, IsFalse, nat_eq, get_or, slice_set, refl, arith, All, zip, true≢false}
use mathlib.Core.Bool.{xor}
use Rattle.std.proofs.lemmas.Int.{ints}
use Rattle.std.proofs.lemmas.Bool.Decides.{nat_tests}
use Rattle.std.proofs.lemmas.List.Elements.{All-head, All-tail}
use Rattle.std.proofs.lemmas.List.Sums.{sum_by-cons, count_by-le-length}
use Rattle.hs_cut.specs.declared.network.CutEdge.{CutEdge}
use Rattle.hs_cut.specs.Networks.{Side, crosses, crossings}
use Rattle.hs_cut.specs.Flows.{out_over, net_out, most}

-- nothing flows out of no vertex
pub net_out-empty : (edges : List CutEdge) (flow : List ℤ) → net_out (λ vertex. false) edges flow ≡ pos 0
net_out-empty [] flow = refl
net_out-empty (edge ∷ edges) [] = refl
net_out-empty (edge ∷ edges) (amount ∷ flow) = rw (net_out-empty edges flow) refl

-- both ends of the edge are below the limit
abbrev pub HasEndsBelow : ℕ → CutEdge → Type 0
HasEndsBelow limit edge = (edge.from < limit) × (edge.to < limit)

-- sets with the same vertices below the limit, over edges with their ends below it
pub net_out-same_below : (side other : Side) (limit : ℕ) → ((vertex : ℕ) → vertex < limit → side vertex ≡ other vertex)
    → (edges : List CutEdge) (flow : List ℤ) → All (HasEndsBelow limit) edges → net_out side edges flow ≡ net_out other edges flow
net_out-same_below side other limit same [] flow below = refl
net_out-same_below side other limit same (edge ∷ edges) [] below = refl
net_out-same_below side other limit same (edge ∷ edges) (amount ∷ flow) below =
    let ends : HasEndsBelow limit edge = All-head (HasEndsBelow limit) edge edges below in
    let rest = net_out-same_below side other limit same edges flow (All-tail (HasEndsBelow limit) edge edges below) in
    rw (same edge.from ends.0, same edge.to ends.1, rest) refl

-- sets with the same vertices
pub net_out-same : (side other : Side) → ((vertex : ℕ) → side vertex ≡ other vertex)
    → (edges : List CutEdge) (flow : List ℤ) → net_out side edges flow ≡ net_out other edges flow
net_out-same side other same [] flow = refl
net_out-same side other same (edge ∷ edges) [] = refl
net_out-same side other same (edge ∷ edges) (amount ∷ flow) =
    rw (same edge.from, same edge.to, net_out-same side other same edges flow) refl

-- what an edge takes out of two sets, neither end being in both
joined : (one other one_to other_to : Bool) (amount : ℤ) → (one && other) ≡ false → (one_to && other_to) ≡ false
    → cond (one || other) amount (pos 0) -ℤ cond (one_to || other_to) amount (pos 0)
    ≡ (cond one amount (pos 0) -ℤ cond one_to amount (pos 0)) +ℤ (cond other amount (pos 0) -ℤ cond other_to amount (pos 0))
joined true true one_to other_to amount apart apart_to = cc
joined one other true true amount apart apart_to = cc
joined true false true false amount apart apart_to = omega (arith, ints)
joined true false false true amount apart apart_to = omega (arith, ints)
joined true false false false amount apart apart_to = omega (arith, ints)
joined false true true false amount apart apart_to = omega (arith, ints)
joined false true false true amount apart apart_to = omega (arith, ints)
joined false true false false amount apart apart_to = omega (arith, ints)
joined false false true false amount apart apart_to = omega (arith, ints)
joined false false false true amount apart apart_to = omega (arith, ints)
joined false false false false amount apart apart_to = omega (arith, ints)

regrouped : (both one other rest rest_of_one rest_of_other : ℤ) → both ≡ one +ℤ other → rest ≡ rest_of_one +ℤ rest_of_other
    → both +ℤ rest ≡ (one +ℤ rest_of_one) +ℤ (other +ℤ rest_of_other)
regrouped both one other rest rest_of_one rest_of_other each more = omega (arith, ints)

grouped : (one all front back : ℤ) → all ≡ front +ℤ back → one +ℤ all ≡ (one +ℤ front) +ℤ back
grouped one all front back is = omega (arith, ints)

-- two sets without a common vertex
pub net_out-join : (side other : Side) → ((vertex : ℕ) → IsFalse (side vertex && other vertex))
    → (edges : List CutEdge) (flow : List ℤ)
    → net_out (λ vertex. side vertex || other vertex) edges flow ≡ net_out side edges flow +ℤ net_out other edges flow
net_out-join side other apart [] flow = refl
net_out-join side other apart (edge ∷ edges) [] = refl
net_out-join side other apart (edge ∷ edges) (amount ∷ flow) =
    regrouped (out_over (λ vertex. side vertex || other vertex) edge amount) (out_over side edge amount) (out_over other edge amount)
    (net_out (λ vertex. side vertex || other vertex) edges flow) (net_out side edges flow) (net_out other edges flow)
    (joined (side edge.from) (other edge.from) (side edge.to) (other edge.to) amount (apart edge.from) (apart edge.to))
    (net_out-join side other apart edges flow)

-- a set with one vertex more
pub net_out-with : (side : Side) (vertex : ℕ) → IsFalse (side vertex) → (edges : List CutEdge) (flow : List ℤ)
    → net_out (λ it. side it || nat_eq vertex it) edges flow ≡ net_out side edges flow +ℤ net_out (nat_eq vertex) edges flow
net_out-with side vertex absent edges flow = net_out-join side (nat_eq vertex) (λ it. apart it (nat_eq vertex it) refl) edges flow where
  apart : (it : ℕ) (test : Bool) → nat_eq vertex it ≡ test → (side it && nat_eq vertex it) ≡ false
  apart it true same = let at : vertex ≡ it = grind (arith, nat_tests) in rw (← at) (rw absent refl)
  apart it false other = grind (arith, nat_tests)

-- what a change of one number changes
pub net_out-slice_set : (side : Side) (edges : List CutEdge) (flow : List ℤ) (i : ℕ) (amount default : ℤ) (none : CutEdge)
    → i < length edges → i < length flow
    → net_out side edges (slice_set flow i amount)
    ≡ net_out side edges flow +ℤ (out_over side (get_or edges i none) amount -ℤ out_over side (get_or edges i none) (get_or flow i default))
net_out-slice_set side [] flow i amount default none low short = absurd (omega arith)
net_out-slice_set side (edge ∷ edges) [] i amount default none low short = absurd (omega arith)
net_out-slice_set side (edge ∷ edges) (before ∷ flow) zero amount default none low short =
    changed (out_over side edge amount) (out_over side edge before) (net_out side edges flow) where
      changed : (after before rest : ℤ) → after +ℤ rest ≡ (before +ℤ rest) +ℤ (after -ℤ before)
      changed after before rest = omega (arith, ints)
net_out-slice_set side (edge ∷ edges) (before ∷ flow) (suc i) amount default none low short =
    let further = net_out-slice_set side edges flow i amount default none (omega arith) (omega arith) in
    grouped (out_over side edge before) (net_out side edges (slice_set flow i amount)) (net_out side edges flow)
    (out_over side (get_or edges i none) amount -ℤ out_over side (get_or edges i none) (get_or flow i default)) further

-- an edge takes out no more than flows over it
pub out_over-size : (side : Side) (edge : CutEdge) (amount : ℤ) (limit : ℕ) → nat_abs amount ≤ limit → nat_abs (out_over side edge amount) ≤ limit
out_over-size side edge amount limit low = by_sides (side edge.from) (side edge.to) amount limit low
  where
    by_sides : (from to : Bool) (amount : ℤ) (limit : ℕ) → nat_abs amount ≤ limit → nat_abs (cond from amount (pos 0) -ℤ cond to amount (pos 0)) ≤ limit
    by_sides true true amount limit low = omega (arith, ints)
    by_sides true false amount limit low = omega (arith, ints)
    by_sides false true amount limit low = omega (arith, ints)
    by_sides false false amount limit low = omega (arith, ints)

-- no more cross than there are
pub crossings-length : (side : Side) (edges : List CutEdge) → crossings side edges ≤ length edges
crossings-length side edges = count_by-le-length (crosses side) edges

-- one edge and the others
pub crossings-cons : (side : Side) (edge : CutEdge) (edges : List CutEdge) → crossings side (edge ∷ edges) ≡ cond (crosses side edge) 1 0 + crossings side edges
crossings-cons side edge edges = sum_by-cons (λ it. cond (crosses side it) 1 0) edge edges

-- what is left of a number that is taken at both ends, at one, or at none
crossed : (one to slot : Bool) (amount : ℤ) → nat_abs amount ≤ cond slot 1 2147483647 → (IsFalse slot → IsFalse (xor one to))
    → (cond one amount (pos 0) -ℤ cond to amount (pos 0)) ≤ℤ pos (cond (xor one to) 1 0)
unfolding xor
crossed true true slot amount low slotless = omega (arith, ints)
crossed true false true (pos n) low slotless = omega (arith, ints)
crossed true false true (negsuc n) low slotless = omega (arith, ints)
crossed true false false amount low slotless = absurd (true≢false (slotless refl))
crossed false true true (pos n) low slotless = omega (arith, ints)
crossed false true true (negsuc n) low slotless = omega (arith, ints)
crossed false true false amount low slotless = absurd (true≢false (slotless refl))
crossed false false slot amount low slotless = omega (arith, ints)

-- over one edge no more flows out than crossings count
pub out_over-crosses : (side : Side) (edge : CutEdge) (amount : ℤ) → nat_abs amount ≤ most edge → (IsFalse edge.slot → IsFalse (crosses side edge))
    → out_over side edge amount ≤ℤ pos (cond (crosses side edge) 1 0)
out_over-crosses side edge amount low slotless = crossed (side edge.from) (side edge.to) edge.slot amount low slotless

-- no more flows over an edge than may
abbrev pub AreSized : List CutEdge → List ℤ → Type 0
AreSized edges flow = All (λ it. nat_abs it.1 ≤ most it.0) (zip edges flow)

-- no edge crosses that is no slot
abbrev pub CrossSlots : Side → List CutEdge → Type 0
CrossSlots side edges = All (λ edge. IsFalse edge.slot → IsFalse (crosses side edge)) edges

-- no more flows out than edges cross
pub net_out-crossings : (side : Side) (edges : List CutEdge) (flow : List ℤ) → AreSized edges flow → CrossSlots side edges
    → net_out side edges flow ≤ℤ pos (crossings side edges)
net_out-crossings side [] flow sized slotless = omega (arith, ints)
net_out-crossings side (edge ∷ edges) [] sized slotless = omega (arith, ints)
net_out-crossings side (edge ∷ edges) (amount ∷ flow) sized slotless =
    let one = out_over-crosses side edge amount (All-head (λ it. nat_abs it.1 ≤ most it.0) (edge, amount) (zip edges flow) sized)
    (All-head (λ it. IsFalse it.slot → IsFalse (crosses side it)) edge edges slotless) in
    let rest = net_out-crossings side edges flow (All-tail (λ it. nat_abs it.1 ≤ most it.0) (edge, amount) (zip edges flow) sized)
    (All-tail (λ it. IsFalse it.slot → IsFalse (crosses side it)) edge edges slotless) in
    rw crossings-cons (within (out_over side edge amount) (net_out side edges flow) (cond (crosses side edge) 1 0) (crossings side edges) one rest) where
      within : (one rest : ℤ) (a b : ℕ) → one ≤ℤ pos a → rest ≤ℤ pos b → (one +ℤ rest) ≤ℤ pos (a + b)
      within one rest a b low short = omega (arith, ints)
