use Rattle.std.proofs.Common.{◌<◌, length, get_or, sym, false, arith}
use Rattle.std.proofs.lemmas.List.{get_or_default}
use Rattle.hs_cut.specs.declared.network.CutEdge.{CutEdge}
use Rattle.hs_cut.proofs.Rows.{arcs_at-more}
use Rattle.hs_cut.proofs.graph.arcs_by_vertex.Goals as goal

-- both rows of the edge have its arc
pub loop-index-preserved : goal.loop-index-preserved
loop-index-preserved c =
    let edges = c.items-edge-items.result.now in
    let none : CutEdge = record { from = 0; to = 0; slot = false } in
    let edge = get_or edges c.loop-index.index none in
    let below : c.loop-index.index < length edges = omega arith in
    record {
      each = omega (arith, c.in_ok-put_arc.ensures.each, c.in_ok-put_arc-2.ensures.each, c.loop-index.invariant.each);
      graph =
          rw (sym c.items-edge-items.ensures)
          (arcs_at-more c.loop-index.rows.items c.put_arc.new.rows.items c.put_arc-in-loop-index.new.rows.items edges c.loop-index.index
          edge below (get_or_default edges c.loop-index.index none edge below)
          (rw c.items-edge-items.ensures c.loop-index.invariant.graph) c.in_ok-put_arc.ensures.put c.in_ok-put_arc-2.ensures.put);
    }
