use Rattle.hs_cut.proofs.Rows.{arcs_from-put}
use Rattle.hs_cut.proofs.graph.put_arc.Goals as goal

-- the row that is written has one arc more
pub returns-clause-put : goal.returns-clause-put
returns-clause-put c other =
    arcs_from-put c.args.rows.now.items c.args.vertex c.index_mut.result.now c.push.new.self c.args.arc other c.requires.known
    c.index_mut.ensures.value c.in_ok-push.ensures.items
