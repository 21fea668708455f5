use Rattle.std.proofs.Common.{sym, ◌∙◌, ap, get_or, length, ◌<◌, ◌≡◌, arith}
use Rattle.hs_cut.specs.Distances.{next_to, targets}
use Rattle.hs_cut.proofs.Reached.{IsReached-next}
use Rattle.hs_cut.proofs.Rows.{arcs_from-row, inside-row}
use Rattle.hs_cut.proofs.distances.reach_next.Goals as goal

-- the row is the one of the vertex
pub reach_row-requires : goal.reach_row-requires
reach_row-requires c =
    let vertex = get_or c.args.frontier.now c.loop-vertex.vertex-index 0 in
    let known : vertex < length c.args.rows.now = c.requires.known c.loop-vertex.vertex-index 0 c.loop-vertex-test.true in
    let long : length c.args.rows.now ≡ length c.loop-vertex.distances = omega (arith, c.requires.long, c.loop-vertex.invariant.long) in
    record {
      inside = inside-row c.args.rows.now vertex c.index-rows-vertex.result c.deref.result.now (length c.args.gates.now)
          (length c.loop-vertex.distances) c.requires.inside known c.index-rows-vertex.is c.deref.ensures.value long;
    }

-- one vertex more
pub loop-vertex-preserved : goal.loop-vertex-preserved
loop-vertex-preserved c =
    let vertex = get_or c.args.frontier.now c.loop-vertex.vertex-index 0 in
    let known : vertex < length c.args.rows.now = c.requires.known c.loop-vertex.vertex-index 0 c.loop-vertex-test.true in
    let found : next_to c.args.gates.now c.args.rows.now vertex ≡ targets c.args.gates.now c.deref.result.now =
    ap (targets c.args.gates.now) (arcs_from-row c.args.rows.now vertex c.index-rows-vertex.result known c.index-rows-vertex.is ∙ sym c.deref.ensures.value) in
    IsReached-next (next_to c.args.gates.now c.args.rows.now) c.args.distance c.args.frontier.now c.loop-vertex.vertex-index
    (targets c.args.gates.now c.deref.result.now)
    c.args.distances.now c.args.next.now.items c.loop-vertex.distances c.loop-vertex.next.items c.reach_row.new.distances c.reach_row.new.next.items
    c.loop-vertex-test.true found c.loop-vertex.invariant c.in_ok-reach_row.ensures
