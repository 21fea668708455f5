use Rattle.std.proofs.Common.{◌<◌, ◌≤◌, ◌*◌, length}
use Rattle.std.specs.List.{All}
use Rattle.cut_bench.proofs.slots.Given as goal

-- the slots so far are between vertices, at most two for each vertex so far
abbrev pub invariant-vertices : goal.invariant-vertices
invariant-vertices l =
    All (λ edge. (edge.from < l.vertices) × (edge.to < l.vertices)) l.edges.items × (length l.edges.items ≤ 2 * l.vertex)
