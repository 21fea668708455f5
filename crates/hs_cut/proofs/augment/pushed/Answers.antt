use Rattle.std.proofs.Common.{◌≡◌, ◌<◌, ◌-◌, ◌+◌, suc, Some, length, arith, subst, sym, ◌∙◌, ap, Contains, not, pos}
use Rattle.std.proofs.lemmas.List.Elements.{All-contains}
use Rattle.std.proofs.lemmas.List.{get_or_default}
use Rattle.std.proofs.lemmas.Option.{slice_get_within}
use Rattle.hs_cut.specs.Pushes.{LeadsDown, amount_at}
use Rattle.hs_cut.specs.declared.graph.Arc.{Arc}
use Rattle.hs_cut.proofs.Pushing.{IsUnderway, IsUnderway-step, residuals-length, IsArc-read, to_z-small, untouched-small, with_unit-read}
use Rattle.hs_cut.proofs.Rows.{arcs_from-row, inside-row}
use Rattle.hs_cut.proofs.Search.{distance-within}
use Rattle.hs_cut.proofs.augment.pushed.Goals as goal

-- the row is that of a vertex
pub arc_down-requires : goal.arc_down-requires
arc_down-requires c =
    let within : c.steps.vertex < length c.args.distances.now = distance-within c.args.distances.now c.steps.vertex c.steps.distance c.steps.invariant.at in
    let known : c.steps.vertex < length c.args.rows.now = omega (arith, c.requires.long) in
    let many : length c.args.gates.now ≡ length c.args.edges.now =
    ap length c.requires.gates ∙ residuals-length c.args.edges.now c.args.flow.items c.requires.each in
    let inside =
    inside-row c.args.rows.now c.steps.vertex c.index-rows-vertex.result c.as_slice-row.result.now (length c.args.edges.now)
    (length c.args.distances.now) c.requires.inside known c.index-rows-vertex.is c.as_slice-row.ensures.value (sym c.requires.long) in
    record { inside = rw many inside }

-- an arc leads down
pub unreachable-requires : goal.unreachable-requires
unreachable-requires c =
    let within : c.steps.vertex < length c.args.distances.now = distance-within c.args.distances.now c.steps.vertex c.steps.distance c.steps.invariant.at in
    let known : c.steps.vertex < length c.args.rows.now = omega (arith, c.requires.long) in
    let row = arcs_from-row c.args.rows.now c.steps.vertex c.index-rows-vertex.result known c.index-rows-vertex.is ∙ sym c.as_slice-row.ensures.value in
    let same : c.steps.distance ≡ (c.steps.distance - 1) + 1 = omega arith in
    let down = c.requires.below c.steps.vertex (c.steps.distance - 1) (c.steps.invariant.at ∙ ap (λ n. Some n) same) in
    let has : Contains c.as_slice-row.result.now down.0 = rw (sym row) down.1 in
    All-contains (λ (arc : Arc). LeadsDown c.args.gates.now c.args.distances.now (c.steps.distance - 1) arc → ⊥) c.as_slice-row.result.now down.0
    c.in_default.ensures.none has down.2

-- the edge has an amount
pub index-requires : goal.index-requires
index-requires c =
    let arc = c.in-Some.arc in
    let way = IsArc-read c.args.edges.now c.args.rows.now c.args.distances.now c.steps.vertex c.steps.distance c.index-rows-vertex.result
    c.as_slice-row.result.now arc
    c.requires.graph c.requires.long c.steps.invariant.at c.index-rows-vertex.is c.as_slice-row.ensures.value c.in-Some.ensures.some.0 in
    let edge = slice_get_within c.args.edges.now arc.edge way.0 way.1 in
    omega (arith, c.requires.each, c.steps.invariant.long)

-- it is small
pub with_unit-requires : goal.with_unit-requires
with_unit-requires c =
    let arc = c.in-Some.arc in
    let way = IsArc-read c.args.edges.now c.args.rows.now c.args.distances.now c.steps.vertex c.steps.distance c.index-rows-vertex.result
    c.as_slice-row.result.now arc
    c.requires.graph c.requires.long c.steps.invariant.at c.index-rows-vertex.is c.as_slice-row.ensures.value c.in-Some.ensures.some.0 in
    let edge = slice_get_within c.args.edges.now arc.edge way.0 way.1 in
    let inside : arc.edge < length c.steps.flow.items = omega (arith, c.requires.each, c.steps.invariant.long) in
    let same : c.steps.distance ≡ suc (c.steps.distance - 1) = omega arith in
    let under =
    subst (λ n. IsUnderway c.args.edges.now c.args.distances.now c.args.end.vertex c.steps.vertex n c.args.flow.items c.steps.flow.items) same
    c.steps.invariant in
    let read = c.index.ensures ∙ get_or_default c.steps.flow.items arc.edge c.index.result.now (pos 0) inside in
    let small =
    untouched-small c.args.edges.now c.args.distances.now c.args.end.vertex c.steps.vertex (c.steps.distance - 1) c.args.flow.items c.steps.flow.items arc
    c.requires.size under way c.in-Some.ensures.some.1.0 in
    record { small = rw (read, to_z-small (amount_at c.steps.flow.items arc.edge) (omega arith)) (omega arith) }

-- the edge has an amount
pub index_mut-requires : goal.index_mut-requires
index_mut-requires c =
    let arc = c.in-Some.arc in
    let way = IsArc-read c.args.edges.now c.args.rows.now c.args.distances.now c.steps.vertex c.steps.distance c.index-rows-vertex.result
    c.as_slice-row.result.now arc
    c.requires.graph c.requires.long c.steps.invariant.at c.index-rows-vertex.is c.as_slice-row.ensures.value c.in-Some.ensures.some.0 in
    let edge = slice_get_within c.args.edges.now arc.edge way.0 way.1 in
    omega (arith, c.requires.each, c.steps.invariant.long)

-- one step down
pub steps-preserved : goal.steps-preserved
steps-preserved c =
    let arc = c.in-Some.arc in
    let way = IsArc-read c.args.edges.now c.args.rows.now c.args.distances.now c.steps.vertex c.steps.distance c.index-rows-vertex.result
    c.as_slice-row.result.now arc
    c.requires.graph c.requires.long c.steps.invariant.at c.index-rows-vertex.is c.as_slice-row.ensures.value c.in-Some.ensures.some.0 in
    let edge = slice_get_within c.args.edges.now arc.edge way.0 way.1 in
    let inside : arc.edge < length c.steps.flow.items = omega (arith, c.requires.each, c.steps.invariant.long) in
    let same : c.steps.distance ≡ suc (c.steps.distance - 1) = omega arith in
    let under =
    subst (λ n. IsUnderway c.args.edges.now c.args.distances.now c.args.end.vertex c.steps.vertex n c.args.flow.items c.steps.flow.items) same
    c.steps.invariant in
    let read = c.index.ensures ∙ get_or_default c.steps.flow.items arc.edge c.index.result.now (pos 0) inside in
    let small =
    untouched-small c.args.edges.now c.args.distances.now c.args.end.vertex c.steps.vertex (c.steps.distance - 1) c.args.flow.items c.steps.flow.items arc
    c.requires.size under way c.in-Some.ensures.some.1.0 in
    rw (with_unit-read (amount_at c.steps.flow.items arc.edge) c.index.result.now c.with_unit.result (not arc.along) read small c.with_unit.ensures)
    (IsUnderway-step c.args.edges.now c.args.gates.now c.args.distances.now c.args.end.vertex c.steps.vertex (c.steps.distance - 1)
    c.args.flow.items c.steps.flow.items arc c.requires.gates c.requires.each c.requires.size under way c.in-Some.ensures.some.1)
