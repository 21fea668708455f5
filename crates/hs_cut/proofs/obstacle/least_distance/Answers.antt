use Rattle.std.proofs.Common.{ap, ◌∙◌, Some, sym}
use Rattle.std.proofs.lemmas.List.{take_all}
use Rattle.hs_cut.proofs.Leasts.{IsLeastDistance-then, IsLeastDistance-else}
use Rattle.hs_cut.proofs.obstacle.least_distance.Goals as goal
use Rattle.hs_cut.proofs.obstacle.least_distance.Goals.{in-Some, in_default}

-- one vertex more
pub loop-vertex-preserved : goal.loop-vertex-preserved
loop-vertex-preserved c = elim c.match-distances-vertex.branch [
  | in-Some w ↦
      IsLeastDistance-then c.args.distances.now c.args.vertices.now c.loop-vertex.vertex-index w.in-Some.distance c.loop-vertex.least
      c.match-distances-vertex.least c.loop-vertex-test.true c.loop-vertex.invariant
      w.in-Some.is (w.least-is ∙ ap (λ n. Some n) w.lesser.ensures)
  | in_default w ↦
      IsLeastDistance-else c.args.distances.now c.args.vertices.now c.loop-vertex.vertex-index c.loop-vertex.least c.match-distances-vertex.least
      c.loop-vertex-test.true c.loop-vertex.invariant w.in_default.is w.least-is
]

-- all vertices were looked at
pub returns : goal.returns
returns c = rw (sym (take_all c.loop-vertex.vertex-index c.args.vertices.now c.loop-vertex-test.false)) c.loop-vertex.invariant
