use Rattle.std.proofs.Common.{◌≡◌, length, ap, sym, ◌∙◌, map, Some, None, is_none}
use Rattle.hs_cut.specs.Descents.{IsLeastAt, IsLeastDistance, uncut_gate}
use Rattle.hs_cut.specs.Distances.{AreInside, distance_at}
use Rattle.hs_cut.proofs.Obstacles.{IsCut-unreached, IsLeastObstacle-descent, below-distance, uncut-length}
use Rattle.hs_cut.proofs.Steps.{AreInside-graph}
use Rattle.hs_cut.proofs.obstacle.least_obstacle.Goals as goal

-- the arcs are those of the edges
pub distances_from-requires-clause-inside : goal.distances_from-requires-clause-inside
distances_from-requires-clause-inside c =
    let gates = c.as_slice.ensures.value ∙ c.in_ok-gates.ensures ∙ ap (map uncut_gate) c.items.ensures in
    let many : length c.as_slice.result.now ≡ length c.args.network.now.edges = ap length gates ∙ uncut-length c.args.network.now.edges in
    let inside : AreInside (length c.as_slice.result.now) c.args.rows.now =
    rw many (AreInside-graph c.args.network.now.edges c.args.network.now.vertices c.args.rows.now c.requires.graph c.requires.each c.requires.numbered.edges) in
    inside

-- the vertices without a distance are a cut
pub returns-in_default-clause-open : goal.returns-in_default-clause-open
returns-in_default-clause-open c =
    let gates = c.as_slice.ensures.value ∙ c.in_ok-gates.ensures ∙ ap (map uncut_gate) c.items.ensures in
    let all = rw (gates, c.items-2.ensures) at c.in_ok-distances.ensures in
    let none : IsLeastDistance c.in_ok-distances.distances.items c.args.network.now.inside None =
    rw (sym c.as_slice-2.ensures.value, sym c.items-inside.ensures) c.in_default.ensures in (
      (λ vertex. is_none (distance_at c.in_ok-distances.distances.items vertex)),
      IsCut-unreached c.args.network.now c.args.rows.now c.in_ok-distances.distances.items c.requires.graph all none,
    )

pub descent-requires-clause-inside : goal.descent-requires-clause-inside
descent-requires-clause-inside c =
    let gates = c.as_slice-4.ensures.value ∙ c.in_ok-gates.ensures ∙ ap (map uncut_gate) c.items.ensures in
    let many : length c.as_slice-4.result.now ≡ length c.args.network.now.edges = ap length gates ∙ uncut-length c.args.network.now.edges in
    let inside : AreInside (length c.as_slice-4.result.now) c.args.rows.now =
    rw many (AreInside-graph c.args.network.now.edges c.args.network.now.vertices c.args.rows.now c.requires.graph c.requires.each c.requires.numbered.edges) in
    inside

-- a step leads down
pub descent-requires-clause-below : goal.descent-requires-clause-below
descent-requires-clause-below c =
    let gates = c.as_slice.ensures.value ∙ c.in_ok-gates.ensures ∙ ap (map uncut_gate) c.items.ensures in
    let all = rw (gates, c.items-2.ensures) at c.in_ok-distances.ensures in
    let back = c.as_slice-4.ensures.value ∙ c.in_ok-gates.ensures ∙ ap (map uncut_gate) c.items.ensures in
    rw (c.as_slice-5.ensures.value, back)
    (below-distance c.args.network.now.edges c.args.rows.now c.args.network.now.outside c.in_ok-distances.distances.items c.requires.graph all)

-- the way down is the least obstacle
pub returns-clause-found : goal.returns-clause-found
returns-clause-found c =
    let gates = c.as_slice.ensures.value ∙ c.in_ok-gates.ensures ∙ ap (map uncut_gate) c.items.ensures in
    let all = rw (gates, c.items-2.ensures) at c.in_ok-distances.ensures in
    let back = c.as_slice-4.ensures.value ∙ c.in_ok-gates.ensures ∙ ap (map uncut_gate) c.items.ensures in
    let rest = c.in_ok-path.ensures.begins.0 in
    let low : IsLeastDistance c.in_ok-distances.distances.items c.args.network.now.inside (Some c.in-Some.distance) =
    rw (sym c.as_slice-2.ensures.value, sym c.items-inside.ensures) c.in-Some.ensures in
    let least : IsLeastAt c.in_ok-distances.distances.items c.in-Some.distance c.args.network.now.inside (Some c.in-Some-least_at.first) =
    rw (sym c.as_slice-3.ensures.value, sym c.items-inside.ensures) c.in-Some-least_at.ensures in
    let down = rw (back, c.as_slice-5.ensures.value, c.in_ok-path.ensures.begins.1) at c.in_ok-path.ensures.descends in
    rw c.in_ok-path.ensures.begins.1
    (IsLeastObstacle-descent c.args.network.now c.args.rows.now c.in_ok-distances.distances.items c.in-Some.distance c.in-Some-least_at.first rest
    c.requires.graph all low least down)
