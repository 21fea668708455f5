use Rattle.std.proofs.Common.{◌≡◌, None, sym}
use Rattle.std.proofs.lemmas.List.{take_all}
use Rattle.std.proofs.lemmas.List.Elements.{All-more, All-same}
use Rattle.hs_cut.specs.Distances.{distance_at}
use Rattle.hs_cut.proofs.augment.first_reached.Goals as goal

-- the vertex was not reached
pub loop-vertex-preserved : goal.loop-vertex-preserved
loop-vertex-preserved c =
    All-more (λ vertex. distance_at c.args.distances.now vertex ≡ None) c.args.vertices.now c.loop-vertex.vertex-index 0 c.loop-vertex-test.true
    c.loop-vertex.invariant c.in_default.is

-- nor was any
pub returns-clause-none : goal.returns-clause-none
returns-clause-none c =
    All-same (λ vertex. distance_at c.args.distances.now vertex ≡ None) c.args.vertices.now _
    (sym (take_all c.loop-vertex.vertex-index c.args.vertices.now c.loop-vertex-test.false)) c.loop-vertex.invariant
