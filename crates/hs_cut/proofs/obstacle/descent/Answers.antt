use Rattle.std.proofs.Common.{◌≡◌, ◌<◌, ◌-◌, ◌+◌, suc, Some, length, arith, subst, sym, ◌∙◌, ap}
use Rattle.hs_cut.specs.Descents.{IsAt, IsLeastAt}
use Rattle.hs_cut.specs.Distances.{next_to, targets}
use Rattle.hs_cut.proofs.Descending.{IsDescent, IsDescent-step}
use Rattle.hs_cut.proofs.Rows.{arcs_from-row, inside-row}
use Rattle.hs_cut.proofs.Search.{distance-within}
use Rattle.hs_cut.proofs.obstacle.descent.Goals as goal

-- the row is that of a vertex
pub least_step-requires : goal.least_step-requires
least_step-requires c =
    let within : c.steps.vertex < length c.args.distances.now = distance-within c.args.distances.now c.steps.vertex c.steps.distance c.steps.invariant.at in
    let known : c.steps.vertex < length c.args.rows.now = omega (arith, c.requires.long) in
    record {
      inside = inside-row c.args.rows.now c.steps.vertex c.index-rows-vertex.result c.as_slice-row.result.now (length c.args.gates.now)
          (length c.args.distances.now) c.requires.inside known c.index-rows-vertex.is c.as_slice-row.ensures.value (sym c.requires.long);
    }

-- a vertex of the distance below is a step away
pub unreachable-requires : goal.unreachable-requires
unreachable-requires c =
    let within : c.steps.vertex < length c.args.distances.now = distance-within c.args.distances.now c.steps.vertex c.steps.distance c.steps.invariant.at in
    let known : c.steps.vertex < length c.args.rows.now = omega (arith, c.requires.long) in
    let found : next_to c.args.gates.now c.args.rows.now c.steps.vertex ≡ targets c.args.gates.now c.as_slice-row.result.now =
    ap (targets c.args.gates.now)
    (arcs_from-row c.args.rows.now c.steps.vertex c.index-rows-vertex.result known c.index-rows-vertex.is
    ∙ sym c.as_slice-row.ensures.value) in
    let same : c.steps.distance ≡ (c.steps.distance - 1) + 1 = omega arith in
    let next = c.requires.below c.steps.vertex (c.steps.distance - 1) (c.steps.invariant.at ∙ ap (λ n. Some n) same) in
    let is : IsAt c.args.distances.now (c.steps.distance - 1) (targets c.args.gates.now c.as_slice-row.result.now) next.0 = rw (sym found) next.1 in
    c.in_default.ensures next.0 is

-- one step down
pub steps-preserved : goal.steps-preserved
steps-preserved c =
    let within : c.steps.vertex < length c.args.distances.now = distance-within c.args.distances.now c.steps.vertex c.steps.distance c.steps.invariant.at in
    let known : c.steps.vertex < length c.args.rows.now = omega (arith, c.requires.long) in
    let found : next_to c.args.gates.now c.args.rows.now c.steps.vertex ≡ targets c.args.gates.now c.as_slice-row.result.now =
    ap (targets c.args.gates.now)
    (arcs_from-row c.args.rows.now c.steps.vertex c.index-rows-vertex.result known c.index-rows-vertex.is
    ∙ sym c.as_slice-row.ensures.value) in
    let same : c.steps.distance ≡ suc (c.steps.distance - 1) = omega arith in
    let least : IsLeastAt c.args.distances.now (c.steps.distance - 1) (next_to c.args.gates.now c.args.rows.now c.steps.vertex)
    (Some c.in-Some.next) =
    rw found c.in-Some.ensures in
    let down =
    subst (λ n. IsDescent c.args.gates.now c.args.rows.now c.args.distances.now c.args.first c.args.first_distance c.steps.vertex n c.steps.path.items)
    same c.steps.invariant in
    rw c.in_ok-push-2.ensures.items
    (IsDescent-step c.args.gates.now c.args.rows.now c.args.distances.now c.args.first c.args.first_distance c.steps.vertex (c.steps.distance - 1)
    c.steps.path.items c.in-Some.next down least)
