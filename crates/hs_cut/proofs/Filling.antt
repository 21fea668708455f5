-- A flow grows by a unit, up to the crossings of any cut.
use Rattle.std.proofs.Common.{◌≡◌, ℕ, ℤ, pos, zero, suc, ◌+◌, ◌+ℤ◌, ◌-ℤ◌, ◌≤ℤ◌, ◌<◌, ◌≤◌, Bool, true, false, cond, ◌||◌, List, [], ◌∷◌, Some, length, nat_abs, replicate, refl, ap, ◌∙◌, Contains, arith, IsFalse, nat_eq, not}
use Rattle.std.specs.Bool.{IsTrue}
use Rattle.std.proofs.lemmas.Bool.{eqb-true}
use Rattle.std.proofs.lemmas.Int.{ints}
use Rattle.std.proofs.lemmas.List.{length-replicate}
use Rattle.std.proofs.lemmas.List.Elements.{All-head, All-tail}
use Rattle.std.specs.declared.vec.Vec.{Vec}
use Rattle.std.specs.declared.alloc.Global.{Global}
use Rattle.hs_base.specs.Tests.{not_first}
use Rattle.hs_cut.specs.Arcs.{IsGraph, arcs_from, goal}
use Rattle.hs_cut.specs.CutFlows.{net_out-cut}
use Rattle.hs_cut.specs.Flows.{net_out, out_over}
use Rattle.hs_cut.specs.Distances.{AreDistances, distance_at, opens, shut}
use Rattle.std.specs.List.{slice_index_or}
use Rattle.std.proofs.Common.{Option}
use mathlib.Core.Bool.{xor}
use Rattle.hs_cut.specs.NetOut.{CrossSlots, crossings-cons, crossings-length, out_over-crosses}
use Rattle.hs_cut.specs.Networks.{IsCut, IsNumbered, Side, among, crosses, crossings}
use Rattle.hs_cut.specs.Pushes.{IsPartial, IsPushed, IsSized, LeadsDown, amount_at, count, edge_at}
use Rattle.hs_cut.specs.declared.graph.Arc.{Arc}
use Rattle.hs_cut.specs.declared.distances.Gate.{Gate}
use Rattle.hs_cut.specs.declared.network.CutEdge.{CutEdge}
use Rattle.hs_cut.specs.declared.network.Network.{Network}
use Rattle.hs_cut.proofs.Among.{among-All}
use Rattle.hs_cut.proofs.Steps.{arc-complete, start-back, goal-back, step-sound}

-- nothing flows
net_out-zeros : (side : Side) (edges : List CutEdge) (long : ℕ) → net_out side edges (replicate long (pos 0)) ≡ pos 0
net_out-zeros side [] long = refl
net_out-zeros side (edge ∷ edges) zero = refl
net_out-zeros side (edge ∷ edges) (suc long) =
    nothing (side edge.from) (side edge.to) (net_out side edges (replicate long (pos 0))) (net_out-zeros side edges long)
  where
    nothing : (from to : Bool) (rest : ℤ) → rest ≡ pos 0 → (cond from (pos 0) (pos 0) -ℤ cond to (pos 0) (pos 0)) +ℤ rest ≡ pos 0
    nothing true true rest is = omega (arith, ints)
    nothing true false rest is = omega (arith, ints)
    nothing false true rest is = omega (arith, ints)
    nothing false false rest is = omega (arith, ints)

amount-zeros : (long index : ℕ) → amount_at (replicate long (pos 0)) index ≡ pos 0
amount-zeros zero index = refl
amount-zeros (suc long) zero = refl
amount-zeros (suc long) (suc index) = amount-zeros long index

-- a flow of no unit
pub IsPartial-none : (network : Network) (flow : List ℤ) → flow ≡ replicate (length network.edges) (pos 0) → IsPartial network 0 flow
IsPartial-none network flow is = rw is (record {
  long = length-replicate (length network.edges) (pos 0);
  size = λ index below. rw (amount-zeros (length network.edges) index) (omega arith);
  conservation = λ vertex below free. net_out-zeros (nat_eq vertex) network.edges (length network.edges);
  value = net_out-zeros (among network.inside) network.edges (length network.edges);
})

-- nothing flows out over an edge that does not cross
none_out : (from to : Bool) (amount : ℤ) → xor from to ≡ false → (cond from amount (pos 0) -ℤ cond to amount (pos 0)) ≤ℤ pos 0
unfolding xor
none_out true true amount same = omega (arith, ints)
none_out true false amount same = absurd cc
none_out false true amount same = absurd cc
none_out false false amount same = omega (arith, ints)

-- over one edge no more flows out than crossings count, if a slot carries one unit at most
edge-crosses : (side : Side) (edge : CutEdge) (amount : ℤ) (units : ℕ) → nat_abs amount ≤ cond edge.slot 1 units
    → (IsFalse edge.slot → IsFalse (crosses side edge))
    → out_over side edge amount ≤ℤ pos (cond (crosses side edge) 1 0)
edge-crosses side edge amount units size apart = split edge.slot refl
  where
    split : (slot : Bool) → edge.slot ≡ slot → out_over side edge amount ≤ℤ pos (cond (crosses side edge) 1 0)
    split true is = out_over-crosses side edge amount (rw is (let small : nat_abs amount ≤ cond edge.slot 1 units = size in rw is at small)) apart
    split false is = rw (apart is) (none_out (side edge.from) (side edge.to) amount (apart is))

-- and so over all of them
net_out-slots : (side : Side) (edges : List CutEdge) (flow : List ℤ) (units : ℕ)
    → ((index : ℕ) → index < length edges → nat_abs (amount_at flow index) ≤ cond (edge_at edges index).slot 1 units)
    → CrossSlots side edges → net_out side edges flow ≤ℤ pos (crossings side edges)
net_out-slots side [] flow units sized slots = omega (arith, ints)
net_out-slots side (edge ∷ edges) [] units sized slots = omega (arith, ints)
net_out-slots side (edge ∷ edges) (amount ∷ flow) units sized slots =
    let rest =
    net_out-slots side edges flow units (λ index below. sized (suc index) (omega arith))
    (All-tail (λ edge. IsFalse edge.slot → IsFalse (crosses side edge)) edge edges slots) in
    let first =
    edge-crosses side edge amount units (sized zero (omega arith))
    (All-head (λ edge. IsFalse edge.slot → IsFalse (crosses side edge)) edge edges slots) in
    let both = crossings-cons side edge edges in
    sum (out_over side edge amount) (net_out side edges flow) (cond (crosses side edge) 1 0) (crossings side edges)
    (crossings side (edge ∷ edges)) first rest both
  where
    sum : (one rest : ℤ) (a b all : ℕ) → one ≤ℤ pos a → rest ≤ℤ pos b → all ≡ a + b → (one +ℤ rest) ≤ℤ pos all
    sum one rest a b all first others both = omega (arith, ints)

-- no more units flow than edges cross a cut
units-crossings : (network : Network) (units : ℕ) (flow : List ℤ) (side : Side) → IsNumbered network → IsPartial network units flow → IsCut network side
    → units ≤ crossings side network.edges
units-crossings network units flow side numbered partial cut =
    let low = net_out-slots side network.edges flow units partial.size cut.slotless in
    let same : net_out side network.edges flow ≡ pos units =
    net_out-cut network flow side numbered partial.conservation cut.inside cut.outside ∙ partial.value in
    let bound : pos units ≤ℤ pos (crossings side network.edges) = rw (← same) low in
    omega (arith, ints)

-- nor than there are edges
pub units-length : (network : Network) (units : ℕ) (flow : List ℤ) (side : Side) → IsNumbered network → IsPartial network units flow → IsCut network side
    → units ≤ length network.edges
units-length network units flow side numbered partial cut =
    let low = units-crossings network units flow side numbered partial cut in
    let high = crossings-length side network.edges in
    omega arith

-- so each amount is one that may flow
pub IsSized-partial : (network : Network) (units : ℕ) (flow : List ℤ) → IsPartial network units flow → units ≤ 2147483647 → IsSized network.edges flow
IsSized-partial network units flow partial few index below = most (edge_at network.edges index).slot (partial.size index below)
  where
    most : (slot : Bool) → nat_abs (amount_at flow index) ≤ cond slot 1 units → nat_abs (amount_at flow index) ≤ cond slot 1 2147483647
    most true is = is
    most false is = omega arith

-- what must be outside is not what must be inside, if there is a cut
among-apart : (network : Network) (side : Side) (vertex : ℕ) → IsCut network side → among network.outside vertex ≡ true → among network.inside vertex ≡ false
among-apart network side vertex cut out = split (among network.inside vertex) refl
  where
    split : (b : Bool) → among network.inside vertex ≡ b → among network.inside vertex ≡ false
    split false is = is
    split true is =
        let inside : side vertex ≡ true = among-All (λ vertex. IsTrue (side vertex)) network.inside vertex cut.inside is in
        let outside : side vertex ≡ false = among-All (λ vertex. IsFalse (side vertex)) network.outside vertex cut.outside out in
        absurd cc

-- one unit more, from what must be inside to what must be outside
pub IsPartial-push : (network : Network) (units : ℕ) (before after : List ℤ) (from to : ℕ) (side : Side)
    → IsPartial network units before → IsPushed network.edges from to before after → IsCut network side
    → among network.inside from ≡ true → among network.outside to ≡ true → IsPartial network (suc units) after
IsPartial-push network units before after from to side partial pushed cut begins ends = record {
  long = pushed.long ∙ partial.long;
  size = λ index below. size index below (edge_at network.edges index).slot refl;
  conservation = λ vertex below free.
      let net = pushed.net (nat_eq vertex) in
      let out = away vertex from network.inside begins (not_first (among network.inside vertex) (among network.outside vertex) free) in
      let in_ = away vertex to network.outside ends (or-right (among network.inside vertex) (among network.outside vertex) free) in
      let was = partial.conservation vertex below free in
      still (net_out (nat_eq vertex) network.edges after) (net_out (nat_eq vertex) network.edges before) (count (nat_eq vertex to))
      (count (nat_eq vertex from)) net (ap count in_) (ap count out) was;
  value =
      more_ (net_out (among network.inside) network.edges after) (net_out (among network.inside) network.edges before)
      (count (among network.inside to)) (count (among network.inside from)) units
      (pushed.net (among network.inside)) (ap count (among-apart network side to cut ends)) (ap count begins) partial.value;
}
  where
    size : (index : ℕ) → index < length network.edges → (slot : Bool) → (edge_at network.edges index).slot ≡ slot
        → nat_abs (amount_at after index) ≤ cond (edge_at network.edges index).slot 1 (suc units)
    size index below true is = rw is (pushed.slots index below is)
    size index below false is =
        let old : nat_abs (amount_at before index) ≤ cond (edge_at network.edges index).slot 1 units = partial.size index below in
        let was : nat_abs (amount_at before index) ≤ units = rw is at old in
        let new_ = pushed.size index below in
        rw is (omega arith)

    or-right : (a b : Bool) → (a || b) ≡ false → b ≡ false
    or-right true b is = absurd cc
    or-right false b is = is

    away : (vertex other : ℕ) (numbers : List ℕ) → among numbers other ≡ true → among numbers vertex ≡ false → nat_eq vertex other ≡ false
    away vertex other numbers has none = split (nat_eq vertex other) refl
      where
        split : (b : Bool) → nat_eq vertex other ≡ b → nat_eq vertex other ≡ false
        split false is = is
        split true is = let same = ap (among numbers) (eqb-true vertex other is) in absurd cc

    still : (after before to from : ℤ) → after +ℤ to ≡ before +ℤ from → to ≡ pos 0 → from ≡ pos 0 → before ≡ pos 0 → after ≡ pos 0
    still after before to from net none nothing was = omega (arith, ints)

    more_ : (after before to from : ℤ) (units : ℕ) → after +ℤ to ≡ before +ℤ from → to ≡ pos 0 → from ≡ pos 1 → before ≡ pos units → after ≡ pos (suc units)
    more_ after before to from units net none one was = omega (arith, ints)

-- an arc leads down from each vertex above distance 0
pub leads_down : (edges : List CutEdge) (gates : List Gate) (rows : List (Vec Arc Global)) (starts : List ℕ) (distances : List (Option ℕ))
    → IsGraph edges rows → AreDistances gates rows starts distances
    → (vertex distance : ℕ) → distance_at distances vertex ≡ Some (distance + 1)
    → (arc : Arc) × Contains (arcs_from rows vertex) arc × LeadsDown gates distances distance arc
leads_down edges gates rows starts distances graph all vertex distance is =
    let same : distance + 1 ≡ suc distance = omega arith in
    let below = all.below vertex distance (is ∙ ap (λ n. Some n) same) in
    let step = step-sound edges gates rows below.0 vertex graph below.2 in
    let has = arc-complete edges rows vertex step.index step.edge (not step.along) graph step.found (start-back step.edge step.along ∙ step.ends) in (
      (record { to = goal step.edge (not step.along); edge = step.index; along = not step.along }),
      has,
      (
        ap (distance_at distances) (goal-back step.edge step.along ∙ step.begins) ∙ below.1,
        twice step.along (opens (slice_index_or gates step.index shut)) step.opened,
      ),
    )
  where
    twice : (b : Bool) (f : Bool → Bool) → f b ≡ true → f (not (not b)) ≡ true
    twice true f is = is
    twice false f is = is
