-- One unit more, as far as it has been pushed.
use Rattle.std.proofs.Common.{◌≡◌, ℕ, ℤ, pos, negsuc, zero, suc, ◌+◌, ◌+ℤ◌, ◌-ℤ◌, ◌<◌, ◌≤◌, Bool, true, false, cond, not, List, [], ◌∷◌, Option, Some, length, nat_abs, slice_set, refl, ap, sym, ◌∙◌, inl, inr, ◌⊎◌, arith}
use Rattle.std.specs.Prelude.{int_lt}
use Rattle.std.specs.Bool.{IsTrue}
use Rattle.std.specs.List.{slice_get, slice_index_or}
use Rattle.std.proofs.Math.ListN.{length-set}
use Rattle.std.proofs.lemmas.Bool.Decides.{eqb_tells}
use Rattle.std.proofs.lemmas.Int.{ints, to_z-of_z}
use mir.Syntax.{w64}
use mir.Val.{SFits, of_z, to_z}
use Rattle.std.proofs.lemmas.List.{get_or-set_other, get_or-set_same}
use Rattle.std.proofs.lemmas.Option.{slice_get_within, get_or_from_slice_get}
use Rattle.hs_cut.specs.Arcs.{IsArc, start, goal}
use Rattle.hs_cut.specs.Flows.{net_out, out_over}
use Rattle.hs_cut.specs.Distances.{distance_at, opens, shut}
use Rattle.hs_cut.specs.NetOut.{net_out-slice_set}
use Rattle.hs_cut.specs.Networks.{Side}
use Rattle.hs_cut.specs.Pushes.{IsSized, LeadsDown, amount_at, count, edge_at, no_edge, residual, residuals, with_unit}
use Rattle.hs_cut.specs.declared.graph.Arc.{Arc}
use Rattle.hs_cut.specs.declared.distances.Gate.{Gate}
use Rattle.hs_cut.specs.declared.network.CutEdge.{CutEdge}
use Rattle.std.proofs.Common.{Contains, get_or}
use Rattle.std.specs.declared.vec.Vec.{Vec}
use Rattle.std.specs.declared.alloc.Global.{Global}
use Rattle.hs_cut.specs.Arcs.{IsGraph, arcs_from}
use Rattle.hs_cut.proofs.Rows.{arcs_from-row}
use Rattle.hs_cut.proofs.Search.{distance-within}
use Rattle.hs_cut.proofs.Steps.{arc-sound, start-back, goal-back}

-- an end of the edge has a distance above
abbrev pub IsAbove : List (Option ℕ) → ℕ → CutEdge → Type 0
IsAbove distances distance edge = (own : ℕ) × (distance < own) × ((distance_at distances edge.from ≡ Some own) ⊎ (distance_at distances edge.to ≡ Some own))

-- the amount grew by one at most, and is one at most over a slot
pub record IsGrown (edge : CutEdge) (before after : ℤ) : Type 0 where
  pub size : nat_abs after ≤ nat_abs before + 1
  pub slot : IsTrue edge.slot → nat_abs after ≤ 1

-- One unit more flows from the vertex to the end, over edges above its distance.
pub record IsUnderway (edges : List CutEdge) (distances : List (Option ℕ)) (end vertex distance : ℕ) (before after : List ℤ) : Type 0 where
  pub at : distance_at distances vertex ≡ Some distance
  pub long : length after ≡ length before
  pub each : (index : ℕ) → index < length edges
      → (amount_at after index ≡ amount_at before index)
      ⊎ (IsAbove distances distance (edge_at edges index) × IsGrown (edge_at edges index) (amount_at before index) (amount_at after index))
  pub net : (side : Side) → net_out side edges after +ℤ count (side end) ≡ net_out side edges before +ℤ count (side vertex)

-- the ways over an edge by which more may flow
pub residual_at : (edges : List CutEdge) (flow : List ℤ) (index : ℕ) (edge : CutEdge) → slice_get edges index ≡ Some edge → length flow ≡ length edges
    → slice_index_or (residuals edges flow) index shut ≡ residual edge (amount_at flow index)
residual_at [] flow index edge found long = absurd cc
residual_at (first ∷ edges) [] index edge found long = absurd (omega arith)
residual_at (first ∷ edges) (amount ∷ flow) zero edge found long =
    let same : first ≡ edge = cc in ap (λ (edge : CutEdge). residual edge amount) same
residual_at (first ∷ edges) (amount ∷ flow) (suc index) edge found long = residual_at edges flow index edge found (omega arith)

-- there is one for each edge
pub residuals-length : (edges : List CutEdge) (flow : List ℤ) → length flow ≡ length edges → length (residuals edges flow) ≡ length edges
residuals-length [] flow long = refl
residuals-length (edge ∷ edges) [] long = absurd (omega arith)
residuals-length (edge ∷ edges) (amount ∷ flow) long = let rest = residuals-length edges flow (omega arith) in omega arith

-- the ends of the edge of a step down have the two distances
ends-within : (distances : List (Option ℕ)) (edge : CutEdge) (along : Bool) (vertex to distance own : ℕ) → start edge along ≡ vertex → goal edge along ≡ to
    → distance_at distances vertex ≡ Some (suc distance) → distance_at distances to ≡ Some distance
    → (distance_at distances edge.from ≡ Some own) ⊎ (distance_at distances edge.to ≡ Some own) → own ≤ suc distance
ends-within distances edge true vertex to distance own begins ends high low is = elim is [
  | inl from ↦ let same : own ≡ suc distance = some-same (sym from ∙ ap (distance_at distances) begins ∙ high) in omega arith
  | inr to_ ↦ let same : own ≡ distance = some-same (sym to_ ∙ ap (distance_at distances) ends ∙ low) in omega arith
]
  where
    some-same : {a b : ℕ} → Some a ≡ Some b → a ≡ b
    some-same is = cc
ends-within distances edge false vertex to distance own begins ends high low is = elim is [
  | inl from ↦ let same : own ≡ distance = some-same (sym from ∙ ap (distance_at distances) ends ∙ low) in omega arith
  | inr to_ ↦ let same : own ≡ suc distance = some-same (sym to_ ∙ ap (distance_at distances) begins ∙ high) in omega arith
]
  where
    some-same : {a b : ℕ} → Some a ≡ Some b → a ≡ b
    some-same is = cc

-- the edge of a step down was not gone over yet
pub untouched : (edges : List CutEdge) (distances : List (Option ℕ)) (end vertex distance : ℕ) (before after : List ℤ) (arc : Arc)
    → IsUnderway edges distances end vertex (suc distance) before after → IsArc edges vertex arc → distance_at distances arc.to ≡ Some distance
    → amount_at after arc.edge ≡ amount_at before arc.edge
untouched edges distances end vertex distance before after arc under way low =
    let edge = way.0 in
    let is : edge_at edges arc.edge ≡ edge = get_or_from_slice_get edges arc.edge edge no_edge way.1 in
    elim (under.each arc.edge (slice_get_within edges arc.edge edge way.1)) [
      | inl same ↦ same
      | inr above ↦ absurd (
          let high : IsAbove distances (suc distance) edge = rw is at above.0 in
          let within = ends-within distances edge arc.along vertex arc.to distance high.0 way.2 way.3 under.at low high.2 in
          let more_ : suc distance < high.0 = high.1 in
          omega arith)
    ]

-- one unit more, at most one more in size
pub unit-size : (amount : ℤ) (along : Bool) → nat_abs (with_unit amount along) ≤ nat_abs amount + 1
unit-size amount true = omega (arith, ints)
unit-size amount false = omega (arith, ints)

-- if more may flow over a slot, one unit more is one at most
pub unit-slot : (edge : CutEdge) (amount : ℤ) (along : Bool) → IsTrue edge.slot → nat_abs amount ≤ 1 → opens (residual edge amount) along ≡ true
    → nat_abs (with_unit amount along) ≤ 1
unit-slot edge amount true slot small opened =
    let less : int_lt amount (pos 1) ≡ true = rw slot at opened in grind (arith, ints)
unit-slot edge amount false slot small opened =
    let more_ : int_lt (negsuc 0) amount ≡ true = rw slot at opened in grind (arith, ints)

-- what one unit more takes out of a set
out_along : (from to : Bool) (amount : ℤ)
    → (cond from (amount +ℤ pos 1) (pos 0) -ℤ cond to (amount +ℤ pos 1) (pos 0)) -ℤ (cond from amount (pos 0) -ℤ cond to amount (pos 0))
    ≡ count from -ℤ count to
out_along true true amount = omega (arith, ints)
out_along true false amount = omega (arith, ints)
out_along false true amount = omega (arith, ints)
out_along false false amount = omega (arith, ints)

out_against : (from to : Bool) (amount : ℤ)
    → (cond from (amount +ℤ negsuc 0) (pos 0) -ℤ cond to (amount +ℤ negsuc 0) (pos 0))
    -ℤ (cond from amount (pos 0) -ℤ cond to amount (pos 0))
    ≡ count to -ℤ count from
out_against true true amount = omega (arith, ints)
out_against true false amount = omega (arith, ints)
out_against false true amount = omega (arith, ints)
out_against false false amount = omega (arith, ints)

-- the way over the edge begins where the unit comes from
pub unit-out : (side : Side) (edge : CutEdge) (amount : ℤ) (along : Bool)
    → out_over side edge (with_unit amount along) -ℤ out_over side edge amount ≡ count (side (start edge along)) -ℤ count (side (goal edge along))
unit-out side edge amount true = out_along (side edge.from) (side edge.to) amount
unit-out side edge amount false = out_against (side edge.from) (side edge.to) amount

-- one step down: the unit comes from the arc's end
pub IsUnderway-step : (edges : List CutEdge) (gates : List Gate) (distances : List (Option ℕ)) (end vertex distance : ℕ) (before after : List ℤ) (arc : Arc)
    → gates ≡ residuals edges before → length before ≡ length edges → IsSized edges before
    → IsUnderway edges distances end vertex (suc distance) before after → IsArc edges vertex arc → LeadsDown gates distances distance arc
    → IsUnderway edges distances end arc.to distance before (slice_set after arc.edge (with_unit (amount_at after arc.edge) (not arc.along)))
IsUnderway-step edges gates distances end vertex distance before after arc gates_are long sized under way leads = record {
  at = leads.0;
  long = length-set {A = ℤ} after arc.edge (with_unit (amount_at after arc.edge) (not arc.along)) ∙ under.long;
  each = λ index below. elim (eqb_tells index arc.edge) [
    | inl here ↦ inr (rw here.1 (above, grown))
    | inr apart ↦
        let same : amount_at (slice_set after arc.edge (with_unit (amount_at after arc.edge) (not arc.along))) index
        ≡ amount_at after index =
        get_or-set_other after arc.edge index (with_unit (amount_at after arc.edge) (not arc.along)) (pos 0) apart.1 in
        elim (under.each index below) [
          | inl old ↦ inl (same ∙ old)
          | inr up ↦ inr ((up.0.0, (let high : suc distance < up.0.0 = up.0.1 in omega arith), up.0.2), rw same up.1)
        ]
  ];
  net = λ side.
      let changes = net_out-slice_set side edges after arc.edge (with_unit (amount_at after arc.edge) (not arc.along)) (pos 0) no_edge within inside in
      let out : out_over side (edge_at edges arc.edge) (with_unit (amount_at after arc.edge) (not arc.along))
      -ℤ out_over side (edge_at edges arc.edge) (amount_at after arc.edge)
      ≡ count (side arc.to) -ℤ count (side vertex) =
      rw is
      (unit-out side way.0 (amount_at after arc.edge) (not arc.along)
      ∙ ap (λ n. count (side n) -ℤ count (side (goal way.0 (not arc.along)))) (start-back way.0 arc.along ∙ way.3)
      ∙ ap (λ n. count (side arc.to) -ℤ count (side n)) (goal-back way.0 arc.along ∙ way.2)) in
      moved (net_out side edges (slice_set after arc.edge (with_unit (amount_at after arc.edge) (not arc.along))))
      (net_out side edges after) (net_out side edges before)
      (out_over side (edge_at edges arc.edge) (with_unit (amount_at after arc.edge) (not arc.along))
      -ℤ out_over side (edge_at edges arc.edge) (amount_at after arc.edge))
      (count (side arc.to)) (count (side vertex)) (count (side end)) changes out (under.net side);
}
  where
    is : edge_at edges arc.edge ≡ way.0
    is = get_or_from_slice_get edges arc.edge way.0 no_edge way.1

    within : arc.edge < length edges
    within = slice_get_within edges arc.edge way.0 way.1

    inside : arc.edge < length after
    inside = let a = under.long in let b = within in omega arith

    old : amount_at after arc.edge ≡ amount_at before arc.edge
    old = untouched edges distances end vertex distance before after arc under way leads.0

    new : amount_at (slice_set after arc.edge (with_unit (amount_at after arc.edge) (not arc.along))) arc.edge
        ≡ with_unit (amount_at before arc.edge) (not arc.along)
    new =
        get_or-set_same after arc.edge (with_unit (amount_at after arc.edge) (not arc.along)) (pos 0) inside
        ∙ ap (λ amount. with_unit amount (not arc.along)) old

    opened : opens (residual (edge_at edges arc.edge) (amount_at before arc.edge)) (not arc.along) ≡ true
    opened =
        ap (λ (gate : Gate). opens gate (not arc.along)) (
        ap (λ (edge : CutEdge). residual edge (amount_at before arc.edge)) is
        ∙ sym (residual_at edges before arc.edge way.0 way.1 long)
        ∙ ap (λ (gates : List Gate). slice_index_or gates arc.edge shut) (sym gates_are))
        ∙ leads.1

    above : IsAbove distances distance (edge_at edges arc.edge)
    above = rw is (suc distance, omega arith, ends way.0 arc.along way.2)
      where
        ends : (edge : CutEdge) (along : Bool) → start edge along ≡ vertex
            → (distance_at distances edge.from ≡ Some (suc distance)) ⊎ (distance_at distances edge.to ≡ Some (suc distance))
        ends edge true begins = inl (ap (distance_at distances) begins ∙ under.at)
        ends edge false begins = inr (ap (distance_at distances) begins ∙ under.at)

    grown : IsGrown (edge_at edges arc.edge) (amount_at before arc.edge)
        (amount_at (slice_set after arc.edge (with_unit (amount_at after arc.edge) (not arc.along))) arc.edge)
    grown = rw new (record {
      size = unit-size (amount_at before arc.edge) (not arc.along);
      slot = λ slot. unit-slot (edge_at edges arc.edge) (amount_at before arc.edge) (not arc.along) slot
          (let small : nat_abs (amount_at before arc.edge) ≤ cond (edge_at edges arc.edge).slot 1 2147483647 = sized arc.edge within in
          rw slot at small)
          opened;
    })

    moved : (new after before change to vertex end : ℤ) → new ≡ after +ℤ change → change ≡ to -ℤ vertex
        → after +ℤ end ≡ before +ℤ vertex → new +ℤ end ≡ before +ℤ to
    moved new after before change to vertex end one two three = omega (arith, ints)

-- a small amount is what a signed number of 64 bits can be
pub to_z-small : (amount : ℤ) → nat_abs amount ≤ 2147483648 → to_z w64 (of_z w64 amount) ≡ amount
to_z-small amount small = let fits : SFits w64 amount = grind (arith, ints) in to_z-of_z w64 amount fits

-- before the unit comes to an edge, what flows over it is small
pub untouched-small : (edges : List CutEdge) (distances : List (Option ℕ)) (end vertex distance : ℕ) (before after : List ℤ) (arc : Arc) → IsSized edges before
    → IsUnderway edges distances end vertex (suc distance) before after → IsArc edges vertex arc → distance_at distances arc.to ≡ Some distance
    → nat_abs (amount_at after arc.edge) ≤ 2147483647
untouched-small edges distances end vertex distance before after arc sized under way low =
    rw (untouched edges distances end vertex distance before after arc under way low)
    (bounded (edge_at edges arc.edge).slot (nat_abs (amount_at before arc.edge)) (sized arc.edge (slice_get_within edges arc.edge way.0 way.1)))
  where
    bounded : (slot : Bool) (size : ℕ) → size ≤ cond slot 1 2147483647 → size ≤ 2147483647
    bounded true size is = omega arith
    bounded false size is = is

-- an arc that is read from the vertex's row goes over an edge, out of the vertex
pub IsArc-read : (edges : List CutEdge) (rows : List (Vec Arc Global)) (distances : List (Option ℕ)) (vertex distance : ℕ)
    (row : Vec Arc Global) (arcs : List Arc) (arc : Arc)
    → IsGraph edges rows → length distances ≡ length rows → distance_at distances vertex ≡ Some distance → row ≡ get_or rows vertex row
    → arcs ≡ row.items → Contains arcs arc
    → IsArc edges vertex arc
IsArc-read edges rows distances vertex distance row arcs arc graph long at is same has =
    let within = distance-within distances vertex distance at in
    let known : vertex < length rows = omega arith in
    let there : Contains (arcs_from rows vertex) arc = rw (arcs_from-row rows vertex row known is ∙ sym same) has in
    arc-sound edges rows vertex arc graph there

-- the amount that is read, with one unit more
pub with_unit-read : (amount read result : ℤ) (along : Bool) → read ≡ amount → nat_abs amount ≤ 2147483647 → result ≡ with_unit (to_z w64 (of_z w64 read)) along
    → to_z w64 (of_z w64 result) ≡ with_unit amount along
with_unit-read amount read result along same small is =
    let plain : result ≡ with_unit amount along =
    is ∙ ap (λ n. with_unit (to_z w64 (of_z w64 n)) along) same ∙ ap (λ n. with_unit n along) (to_z-small amount (omega arith)) in
    let size : nat_abs (with_unit amount along) ≤ 2147483648 = (let more_ = unit-size amount along in omega arith) in
    rw plain (to_z-small (with_unit amount along) size)
