use Rattle.std.proofs.Common.{◌≡◌, ℕ, length, take}
use Rattle.hs_cut.specs.Arcs.{arcs_from, arcs_at}
use Rattle.hs_cut.proofs.graph.arcs_by_vertex.Given as goal

-- the rows have the arcs of the edges so far
abbrev pub invariant-loop-index : goal.invariant-loop-index
invariant-loop-index l = record {
  each : length l.rows.items ≡ l.network.vertices;
  graph : (vertex : ℕ) → arcs_from l.rows.items vertex ≡ arcs_at vertex 0 (take l.index l.network.edges);
}
