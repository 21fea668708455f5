use Rattle.std.proofs.Common.{◌∙◌, ap, arith, length}
use Rattle.hs_taint.specs.Laws.Points.{owners_length}
use Rattle.hs_taint.proofs.operations.Operations.count.Goals as goal

-- each operation has its owner
pub returns : goal.returns
returns c =
    let long = ap length c.args.self.now.owners_are ∙ owners_length 0 c.args.self.now.functions.now in
    let len = c.len.ensures in
    omega (arith, long, len)
