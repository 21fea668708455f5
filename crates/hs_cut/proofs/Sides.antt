-- If no more may flow, the vertices that the search reached are the cut that is chosen.
use Rattle.std.proofs.Common.{◌≡◌, ℕ, ℤ, pos, negsuc, zero, suc, ◌+◌, ◌+ℤ◌, ◌-ℤ◌, ◌<◌, ◌≤◌, Bool, true, false, cond, not, ◌||◌, List, [], ◌∷◌, Option, None, Some, length, nat_abs, get_or, refl, ap, sym, ◌∙◌, arith, is_some}
use Rattle.std.specs.Prelude.{int_lt}
use Rattle.std.specs.Bool.{IsTrue}
use Rattle.std.specs.List.{slice_get}
use mathlib.Core.Bool.{xor}
use Rattle.std.proofs.lemmas.Int.{ints}
use Rattle.std.proofs.lemmas.List.{get_or_default}
use Rattle.std.proofs.lemmas.Option.{get_or_from_slice_get, slice_get-get_or, slice_get_within}
use Rattle.std.proofs.lemmas.Slice.Zip.{get_or-zip, length-zip}
use Rattle.std.specs.declared.vec.Vec.{Vec}
use Rattle.std.specs.declared.alloc.Global.{Global}
use Rattle.hs_cut.specs.Arcs.{IsGraph, goal, start}
use Rattle.hs_cut.specs.CutFlows.{cut_carries_in, cut_carries_out, net_out-cut}
use Rattle.hs_cut.specs.Duality.{least}
use Rattle.hs_cut.specs.Flows.{AreOfSize, Fits, most, net_out, out_over}
use Rattle.hs_cut.specs.Distances.{IsWithinDistance, distance_at, opens}
use Rattle.hs_cut.specs.NetOut.{crossings-cons}
use Rattle.hs_cut.specs.WalkLaws.{alike as one_side}
use Rattle.hs_cut.specs.Networks.{IsChosen, IsCut, IsLeast, IsNumbered, Side, among, crosses, crossings}
use Rattle.hs_cut.specs.Pushes.{IsFull, IsPartial, IsSized, amount_at, edge_at, no_edge, residual, residuals}
use Rattle.hs_cut.specs.declared.network.CutEdge.{CutEdge}
use Rattle.hs_cut.specs.declared.network.Network.{Network}
use Rattle.hs_cut.specs.declared.graph.Arc.{Arc}
use Rattle.hs_cut.proofs.Among.{All-among, among-All}
use Rattle.hs_cut.proofs.Filling.{IsSized-partial, units-length}
use Rattle.hs_cut.proofs.Pushing.{residual_at}
use Rattle.hs_cut.proofs.Steps.{IsStep, step-complete, step-sound}

-- a way over an edge by which more may flow is a step
residual-step : (edges : List CutEdge) (flow : List ℤ) (index : ℕ) (edge : CutEdge) (along : Bool) → length flow ≡ length edges
    → slice_get edges index ≡ Some edge
    → opens (residual edge (amount_at flow index)) along ≡ true → IsStep edges (residuals edges flow) (start edge along) (goal edge along)
residual-step edges flow index edge along long found opened = record {
  index = index;
  edge = edge;
  along = along;
  found = found;
  begins = refl;
  ends = refl;
  opened = ap (λ gate. opens gate along) (residual_at edges flow index edge found long) ∙ opened;
}

-- a distance is there
some-distance : (own : Option ℕ) → is_some own ≡ true → (distance : ℕ) × (own ≡ Some distance)
some-distance None is = absurd cc
some-distance (Some distance) is = (distance, refl)

within-some : (distance : ℕ) (own : Option ℕ) → IsWithinDistance distance own → is_some own ≡ true
within-some distance None is = absurd is
within-some distance (Some own) is = refl

-- a step leads from what was reached to what was reached
pub reached-step : (network : Network) (rows : List (Vec Arc Global)) (flow : List ℤ) (distances : List (Option ℕ)) (side : Side)
    → IsGraph network.edges rows → IsFull network rows flow distances
    → ((vertex : ℕ) → side vertex ≡ is_some (distance_at distances vertex)) → (from to : ℕ)
    → IsStep network.edges (residuals network.edges flow) from to → side from ≡ true → side to ≡ true
reached-step network rows flow distances side graph full is from to step there =
    let own = some-distance (distance_at distances from) (sym (is from) ∙ there) in
    is to
    ∙ within-some (suc own.0) (distance_at distances to)
    (full.searched.above from to own.0 own.1 (step-complete network.edges (residuals network.edges flow) rows from to graph step))

-- over an edge that is no slot more may flow, either way
slotless-opens : (edge : CutEdge) (amount : ℤ) (along : Bool) → edge.slot ≡ false → opens (residual edge amount) along ≡ true
slotless-opens edge amount true slotless = ap (λ b. not b || int_lt amount (pos 1)) slotless
slotless-opens edge amount false slotless = ap (λ b. not b || int_lt (negsuc 0) amount) slotless

-- two ends of which each leads to the other
alike : (one other : Bool) → (one ≡ true → other ≡ true) → (other ≡ true → one ≡ true) → xor one other ≡ false
unfolding xor
alike true true there back = refl
alike true false there back = absurd (let both : false ≡ true = there refl in cc)
alike false true there back = absurd (let both : false ≡ true = back refl in cc)
alike false false there back = refl

-- what was reached is a cut
pub IsCut-reached : (network : Network) (rows : List (Vec Arc Global)) (flow : List ℤ) (distances : List (Option ℕ)) (side : Side)
    → IsGraph network.edges rows → IsFull network rows flow distances
    → ((vertex : ℕ) → side vertex ≡ is_some (distance_at distances vertex)) → IsCut network side
IsCut-reached network rows flow distances side graph full is = record {
  inside = All-among (λ vertex. IsTrue (side vertex)) network.inside (λ vertex there. is vertex ∙ ap is_some (full.searched.first vertex there));
  outside = λ index default below. is (get_or network.outside index default) ∙ ap is_some (full.outside index default below);
  slotless = λ index default below slotless.
      let edge = get_or network.edges index default in
      let found = slice_get-get_or network.edges index default below in
      let along = residual-step network.edges flow index edge true full.partial.1.long found (slotless-opens edge (amount_at flow index) true slotless) in
      let against = residual-step network.edges flow index edge false full.partial.1.long found (slotless-opens edge (amount_at flow index) false slotless) in
      alike (side edge.from) (side edge.to)
      (reached-step network rows flow distances side graph full is edge.from edge.to along)
      (reached-step network rows flow distances side graph full is edge.to edge.from against);
}

-- a slot by which no more may flow carries one unit
full-along : (edge : CutEdge) (amount : ℤ) → nat_abs amount ≤ most edge → opens (residual edge amount) true ≡ false → amount ≡ pos 1
full-along edge amount small shut_ = split edge.slot refl
  where
    split : (slot : Bool) → edge.slot ≡ slot → amount ≡ pos 1
    split true is =
        let size : nat_abs amount ≤ 1 = (let sized : nat_abs amount ≤ cond edge.slot 1 2147483647 = small in rw is at sized) in
        let full : int_lt amount (pos 1) ≡ false = ap (λ b. not b || int_lt amount (pos 1)) (sym is) ∙ shut_ in
        grind (arith, ints)
    split false is = absurd (let opened = slotless-opens edge amount true is in cc)

full-against : (edge : CutEdge) (amount : ℤ) → nat_abs amount ≤ most edge → opens (residual edge amount) false ≡ false → amount ≡ negsuc 0
full-against edge amount small shut_ = split edge.slot refl
  where
    split : (slot : Bool) → edge.slot ≡ slot → amount ≡ negsuc 0
    split true is =
        let size : nat_abs amount ≤ 1 = (let sized : nat_abs amount ≤ cond edge.slot 1 2147483647 = small in rw is at sized) in
        let full : int_lt (negsuc 0) amount ≡ false = ap (λ b. not b || int_lt (negsuc 0) amount) (sym is) ∙ shut_ in
        grind (arith, ints)
    split false is = absurd (let opened = slotless-opens edge amount false is in cc)

-- one unit out if the edge crosses, and nothing elsewhere
edge-full : (from to : Bool) (edge : CutEdge) (amount : ℤ) → nat_abs amount ≤ most edge → (opens (residual edge amount) true ≡ true → from ≡ true → to ≡ true)
    → (opens (residual edge amount) false ≡ true → to ≡ true → from ≡ true) → cond from amount (pos 0) -ℤ cond to amount (pos 0) ≡ pos (cond (xor from to) 1 0)
unfolding xor
edge-full true true edge amount small along against = omega (arith, ints)
edge-full false false edge amount small along against = omega (arith, ints)
edge-full true false edge amount small along against =
    let one : amount ≡ pos 1 = full-along edge amount small (closed (opens (residual edge amount) true) (λ opened. along opened refl)) in omega (arith, ints)
  where
    closed : (b : Bool) → (b ≡ true → false ≡ true) → b ≡ false
    closed true no_ = absurd (let both : false ≡ true = no_ refl in cc)
    closed false no_ = refl
edge-full false true edge amount small along against =
    let one : amount ≡ negsuc 0 =
    full-against edge amount small (closed (opens (residual edge amount) false) (λ opened. against opened refl)) in
    omega (arith, ints)
  where
    closed : (b : Bool) → (b ≡ true → false ≡ true) → b ≡ false
    closed true no_ = absurd (let both : false ≡ true = no_ refl in cc)
    closed false no_ = refl

-- the sum over the edges
net_out-full : (side : Side) (edges : List CutEdge) (flow : List ℤ) → length flow ≡ length edges
    → ((index : ℕ) → index < length edges → out_over side (edge_at edges index) (amount_at flow index) ≡ pos (cond (crosses side (edge_at edges index)) 1 0))
    → net_out side edges flow ≡ pos (crossings side edges)
net_out-full side [] flow long each = refl
net_out-full side (edge ∷ edges) [] long each = absurd (omega arith)
net_out-full side (edge ∷ edges) (amount ∷ flow) long each =
    let rest = net_out-full side edges flow (omega arith) (λ index below. each (suc index) (omega arith)) in
    sum (out_over side edge amount) (net_out side edges flow) (cond (crosses side edge) 1 0) (crossings side edges)
    (crossings side (edge ∷ edges)) (each zero (omega arith)) rest (crossings-cons side edge edges)
  where
    sum : (one rest : ℤ) (a b all : ℕ) → one ≡ pos a → rest ≡ pos b → all ≡ a + b → one +ℤ rest ≡ pos all
    sum one rest a b all first others both = omega (arith, ints)

-- the sizes, in the words of the flow
AreOfSize-sized : (network : Network) (flow : List ℤ) → length flow ≡ length network.edges → IsSized network.edges flow → AreOfSize network flow
AreOfSize-sized network flow long sized index default below =
    let many = length-zip network.edges flow in
    let within : index < length network.edges = omega arith in
    let inside : index < length flow = omega arith in
    rw (
      get_or-zip network.edges flow index default within inside,
      get_or_default network.edges index default.0 no_edge within,
      get_or_default flow index default.1 (pos 0) inside,
    ) (sized index within)

-- the flow fits what was reached
pub Fits-reached : (network : Network) (rows : List (Vec Arc Global)) (flow : List ℤ) (distances : List (Option ℕ)) (side : Side)
    → IsNumbered network → length network.edges < 2147483648 → IsGraph network.edges rows
    → IsFull network rows flow distances → ((vertex : ℕ) → side vertex ≡ is_some (distance_at distances vertex)) → Fits network side flow
Fits-reached network rows flow distances side numbered countable graph full is = record {
  each = partial.long;
  inside = cut.inside;
  outside = cut.outside;
  slotless = cut.slotless;
  size = AreOfSize-sized network flow partial.long sized;
  conservation = partial.conservation;
  value = sym (net_out-cut network flow side numbered partial.conservation cut.inside cut.outside) ∙ net_out-full side network.edges flow partial.long each;
}
  where
    partial : IsPartial network full.partial.0 flow
    partial = full.partial.1

    cut : IsCut network side
    cut = IsCut-reached network rows flow distances side graph full is

    sized : IsSized network.edges flow
    sized = IsSized-partial network full.partial.0 flow partial (let few = units-length network full.partial.0 flow side numbered partial cut in omega arith)

    each : (index : ℕ) → index < length network.edges
        → out_over side (edge_at network.edges index) (amount_at flow index) ≡ pos (cond (crosses side (edge_at network.edges index)) 1 0)
    each index below =
        let edge = edge_at network.edges index in
        let found = slice_get-get_or network.edges index no_edge below in
        edge-full (side edge.from) (side edge.to) edge (amount_at flow index) (sized index below)
        (λ opened. reached-step network rows flow distances side graph full is edge.from edge.to
        (residual-step network.edges flow index edge true partial.long found opened))
        (λ opened. reached-step network rows flow distances side graph full is edge.to edge.from
        (residual-step network.edges flow index edge false partial.long found opened))

-- no more may flow over an edge that leaves a least cut
leaves : (edge : CutEdge) (amount : ℤ) (along : Bool) → opens (residual edge amount) along ≡ true → amount ≡ cond along (pos 1) (negsuc 0) → edge.slot ≡ false
leaves edge amount true opened is = split edge.slot (sym (ap (λ n. not edge.slot || int_lt n (pos 1)) is) ∙ opened)
  where
    split : (slot : Bool) → (not slot || int_lt (pos 1) (pos 1)) ≡ true → slot ≡ false
    split false opened = refl
    split true opened = absurd (let less : int_lt (pos 1) (pos 1) ≡ true = opened in grind (arith, ints))
leaves edge amount false opened is = split edge.slot (sym (ap (λ n. not edge.slot || int_lt (negsuc 0) n) is) ∙ opened)
  where
    split : (slot : Bool) → (not slot || int_lt (negsuc 0) (negsuc 0)) ≡ true → slot ≡ false
    split false opened = refl
    split true opened = absurd (let less : int_lt (negsuc 0) (negsuc 0) ≡ true = opened in grind (arith, ints))

-- no step leaves a least cut
step-stays : (network : Network) (flow : List ℤ) (side other : Side) (from to : ℕ) → IsNumbered network → Fits network side flow → IsLeast network other
    → IsStep network.edges (residuals network.edges flow) from to → other from ≡ true → other to ≡ true
step-stays network flow side other from to numbered fits least_ step there = split (other to) refl
  where
    edge : CutEdge
    edge = step.edge

    value : net_out (among network.inside) network.edges flow ≡ pos (crossings other network.edges)
    value =
        let one = least_.least side (record { inside = fits.inside; outside = fits.outside; slotless = fits.slotless }) in
        let two = (least network side flow numbered fits).least other least_.cut in
        let same : crossings side network.edges ≡ crossings other network.edges = omega arith in
        fits.value ∙ ap (λ n. pos n) same

    below : step.index < length network.edges
    below = slice_get_within network.edges step.index step.edge step.found

    is : get_or network.edges step.index no_edge ≡ step.edge
    is = get_or_from_slice_get network.edges step.index step.edge no_edge step.found

    opened : opens (residual step.edge (amount_at flow step.index)) step.along ≡ true
    opened = ap (λ gate. opens gate step.along) (sym (residual_at network.edges flow step.index step.edge step.found fits.each)) ∙ step.opened

    carried : (along : Bool) → start step.edge along ≡ from → goal step.edge along ≡ to → other to ≡ false
        → amount_at flow step.index ≡ cond along (pos 1) (negsuc 0)
    carried true begins ends out =
        cut_carries_out network other flow numbered fits.each fits.size fits.conservation least_.cut value step.index no_edge (pos 0) below
        (rw is (ap other begins ∙ there)) (rw is (ap other ends ∙ out))
    carried false begins ends out =
        cut_carries_in network other flow numbered fits.each fits.size fits.conservation least_.cut value step.index no_edge (pos 0) below
        (rw is (ap other ends ∙ out)) (rw is (ap other begins ∙ there))

    alike_ : (along : Bool) → start step.edge along ≡ from → goal step.edge along ≡ to → other step.edge.from ≡ other step.edge.to → other to ≡ true
    alike_ true begins ends same = sym (ap other ends) ∙ sym same ∙ ap other begins ∙ there
    alike_ false begins ends same = sym (ap other ends) ∙ same ∙ ap other begins ∙ there

    split : (b : Bool) → other to ≡ b → other to ≡ true
    split true it = it
    split false it =
        let slotless = leaves step.edge (amount_at flow step.index) step.along opened (carried step.along step.begins step.ends it) in
        let apart = rw is at (least_.cut.slotless step.index no_edge below) in
        alike_ step.along step.begins step.ends (one_side (other step.edge.from) (other step.edge.to) (apart slotless))

-- what was reached is in each least cut
pub reached-within : (network : Network) (rows : List (Vec Arc Global)) (flow : List ℤ) (distances : List (Option ℕ)) (side other : Side)
    → IsNumbered network → IsGraph network.edges rows
    → IsFull network rows flow distances → Fits network side flow → IsLeast network other → (distance vertex : ℕ)
    → distance_at distances vertex ≡ Some distance → other vertex ≡ true
reached-within network rows flow distances side other numbered graph full fits least_ zero vertex at =
    among-All (λ vertex. IsTrue (other vertex)) network.inside vertex least_.cut.inside (full.searched.origin vertex at)
reached-within network rows flow distances side other numbered graph full fits least_ (suc distance) vertex at =
    let below = full.searched.below vertex distance at in
    let before = reached-within network rows flow distances side other numbered graph full fits least_ distance below.0 below.1 in
    step-stays network flow side other below.0 vertex numbered fits least_
    (step-sound network.edges (residuals network.edges flow) rows below.0 vertex graph below.2) before

-- so it is the cut that is chosen
pub IsChosen-reached : (network : Network) (rows : List (Vec Arc Global)) (flow : List ℤ) (distances : List (Option ℕ)) (side : Side)
    → IsNumbered network → length network.edges < 2147483648 → IsGraph network.edges rows
    → IsFull network rows flow distances → ((vertex : ℕ) → side vertex ≡ is_some (distance_at distances vertex)) → IsChosen network side
IsChosen-reached network rows flow distances side numbered countable graph full is = record {
  least = least network side flow numbered fits;
  within = λ other least_ vertex there.
      let own = some-distance (distance_at distances vertex) (sym (is vertex) ∙ there) in
      reached-within network rows flow distances side other numbered graph full fits least_ own.0 vertex own.1;
}
  where
    fits : Fits network side flow
    fits = Fits-reached network rows flow distances side numbered countable graph full is
