use Rattle.std.proofs.Common.{◌≡◌, ◌<◌, ◌≤◌, ◌-◌, List, suc, true, length, nat_abs, ap, sym, ◌∙◌, arith, replicate, pos}
use Rattle.hs_cut.specs.Flows.{net_out}
use Rattle.hs_cut.specs.Distances.{AreInside}
use Rattle.hs_cut.specs.Networks.{among}
use Rattle.hs_cut.specs.Pushes.{IsPartial, IsPushed, IsSized}
use Rattle.hs_cut.specs.declared.network.CutEdge.{CutEdge}
use Rattle.hs_cut.proofs.Filling.{IsPartial-none, IsPartial-push, IsSized-partial, leads_down, units-length}
use Rattle.hs_cut.proofs.Pushing.{residuals-length}
use Rattle.hs_cut.proofs.Steps.{AreInside-graph}
use Rattle.hs_cut.proofs.augment.full_flow.Goals as goal

-- nothing flows yet
pub rounds-init : goal.rounds-init
rounds-init c = (
  0,
  IsPartial-none c.args.network.now c.in_ok-flow.flow.items
      (c.in_ok-flow.ensures.items_if_clones_equal (λ y h. h) ∙ ap (λ (edges : List CutEdge). replicate (length edges) (pos 0)) c.items-edges.ensures),
)

-- the arcs are those of the edges
pub distances_from-requires-clause-inside : goal.distances_from-requires-clause-inside
distances_from-requires-clause-inside c =
    let long : length c.as_slice.result.now ≡ length c.items-edges.result.now =
    ap length c.as_slice.ensures.value ∙ c.rounds.invariant.1.long ∙ ap length (sym c.items-edges.ensures) in
    let many : length c.as_slice-in-rounds.result.now ≡ length c.args.network.now.edges =
    ap length (c.as_slice-in-rounds.ensures.value ∙ c.in_ok-gates.ensures)
    ∙ residuals-length c.items-edges.result.now c.as_slice.result.now long
    ∙ ap length c.items-edges.ensures in
    let inside : AreInside (length c.as_slice-in-rounds.result.now) c.args.rows.now =
    rw many (AreInside-graph c.args.network.now.edges c.args.network.now.vertices c.args.rows.now c.requires.graph c.requires.each c.requires.numbered.edges) in
    inside

-- no more units flow than there are edges
pub pushed-flow-requires-clause-size : goal.pushed-flow-requires-clause-size
pushed-flow-requires-clause-size c =
    let partial = c.rounds.invariant.1 in
    let few = units-length c.args.network.now c.rounds.invariant.0 c.rounds.flow.items c.requires.open.0 c.requires.numbered partial c.requires.open.1 in
    let small : c.rounds.invariant.0 ≤ 2147483647 = omega (arith, c.requires.countable) in
    let sized : IsSized c.items-edges.result.now c.rounds.flow.items =
    rw c.items-edges.ensures (IsSized-partial c.args.network.now c.rounds.invariant.0 c.rounds.flow.items partial small) in
    sized

pub pushed-flow-requires-clause-inside : goal.pushed-flow-requires-clause-inside
pushed-flow-requires-clause-inside c =
    let inside : AreInside (length c.items-edges.result.now) c.args.rows.now =
    rw c.items-edges.ensures
    (AreInside-graph c.args.network.now.edges c.args.network.now.vertices c.args.rows.now c.requires.graph c.requires.each
    c.requires.numbered.edges) in
    inside

-- each distance has an arc to the one below
pub pushed-flow-requires-clause-below : goal.pushed-flow-requires-clause-below
pushed-flow-requires-clause-below c =
    rw (c.as_slice-in-rounds-4.ensures.value, c.as_slice-in-rounds-3.ensures.value ∙ sym c.as_slice-in-rounds.ensures.value)
    (leads_down c.args.network.now.edges c.as_slice-in-rounds.result.now c.args.rows.now c.items.result.now c.in_ok-distances.distances.items
    c.requires.graph c.in_ok-distances.ensures)

-- the flow has one unit more
grows : (c : goal.After-drop-gates-in-rounds) → IsPartial c.args.network.now (suc c.rounds.invariant.0) c.pushed-flow.result.items
grows c =
    let from = c.pushed-flow.ensures.0 in
    let pushed : IsPushed c.items-edges.result.now from c.in-Some.end.vertex c.rounds.flow.items c.pushed-flow.result.items = c.pushed-flow.ensures.2 in
    let pushes : IsPushed c.args.network.now.edges from c.in-Some.end.vertex c.rounds.flow.items c.pushed-flow.result.items =
    rw c.items-edges.ensures at pushed in
    let first = rw c.as_slice-in-rounds-4.ensures.value at c.pushed-flow.ensures.1 in
    let begins : among c.args.network.now.inside from ≡ true = rw c.items.ensures at (c.in_ok-distances.ensures.origin from first) in
    let ends : among c.args.network.now.outside c.in-Some.end.vertex ≡ true = rw c.items-in-rounds.ensures at c.in-Some.ensures.some.0 in
    IsPartial-push c.args.network.now c.rounds.invariant.0 c.rounds.flow.items c.pushed-flow.result.items from c.in-Some.end.vertex
    c.requires.open.0 c.rounds.invariant.1 pushes c.requires.open.1 begins ends

-- one unit more
pub rounds-preserved : goal.rounds-preserved
rounds-preserved c = (suc c.rounds.invariant.0, grows c)

-- there are no more than edges
pub rounds-smaller : goal.rounds-smaller
rounds-smaller c =
    let few =
    units-length c.args.network.now (suc c.rounds.invariant.0) c.pushed-flow.result.items c.requires.open.0 c.requires.numbered (grows c)
    c.requires.open.1 in
    let smaller : length c.args.network.now.edges - nat_abs (net_out (among c.args.network.now.inside) c.args.network.now.edges c.pushed-flow.result.items)
    < length c.args.network.now.edges - nat_abs (net_out (among c.args.network.now.inside) c.args.network.now.edges c.rounds.flow.items) =
    rw ((grows c).value, c.rounds.invariant.1.value) (omega arith) in
    smaller
