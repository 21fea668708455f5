use Rattle.std.proofs.Common.{◌≡◌, ℕ, length, []}
use Rattle.hs_cut.specs.Arcs.{arcs_from}
use Rattle.hs_cut.proofs.graph.empty_rows.Given as goal

-- the rows so far have no arc
abbrev pub invariant-loop-vertex : goal.invariant-loop-vertex
invariant-loop-vertex l = record {
  empty : (vertex : ℕ) → arcs_from l.rows.items vertex ≡ [];
  each : length l.rows.items ≡ l._vertex;
}
