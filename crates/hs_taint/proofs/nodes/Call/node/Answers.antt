use Rattle.std.proofs.Common.{◌∙◌, ap, arith, length}
use Rattle.hs_taint.specs.Laws.Nodes.{node_below}
use Rattle.hs_taint.specs.Laws.Points.{owners_length}
use Rattle.hs_taint.proofs.nodes.Call.node.Goals as goal

-- an operation that is there has a number of 32 bits
pub overflow_add-result : goal.overflow_add-result
overflow_add-result c =
    let operations = c.args.self.now.operations.now in
    let below = node_below operations.functions.now c.args.self.now.function c.args.at c.requires.there in
    let long = ap length operations.owners_are ∙ owners_length 0 operations.functions.now in
    let few = operations.few in
    let start = c.start.ensures.start in
    omega (arith, below, long, few, start)
