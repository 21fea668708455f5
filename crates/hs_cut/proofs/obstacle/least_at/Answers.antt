use Rattle.std.proofs.Common.{ap, ◌∙◌, get_or, Some, sym}
use Rattle.hs_cut.specs.Distances.{distance_at}
use Rattle.hs_cut.proofs.Leasts.{IsLeastAt-then, IsLeastAt-else, option_eq-true, option_eq-false}
use Rattle.hs_cut.proofs.obstacle.least_at.Goals as goal
use Rattle.hs_cut.proofs.obstacle.least_at.Goals.{then-eq, else-eq}

-- one vertex more
pub loop-vertex-preserved : goal.loop-vertex-preserved
loop-vertex-preserved c =
    let vertex = get_or c.args.vertices.now c.loop-vertex.vertex-index 0 in
    elim c.if-eq.branch [
      | then-eq w ↦
          IsLeastAt-then c.args.distances.now c.args.distance c.args.vertices.now c.loop-vertex.vertex-index c.loop-vertex.least c.if-eq.least
          c.loop-vertex-test.true c.loop-vertex.invariant
          (option_eq-true (distance_at c.args.distances.now vertex) c.args.distance (sym w.if-eq.ensures)) (w.least-is ∙ ap (λ n. Some n) w.lesser.ensures)
      | else-eq w ↦
          IsLeastAt-else c.args.distances.now c.args.distance c.args.vertices.now c.loop-vertex.vertex-index c.loop-vertex.least c.if-eq.least
          c.loop-vertex-test.true c.loop-vertex.invariant
          (option_eq-false (distance_at c.args.distances.now vertex) c.args.distance (sym w.if-eq.ensures)) w.least-is
    ]
