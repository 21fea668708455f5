-- The program that was read, and its count.
use Rattle.std.proofs.Common.{arith}
use Rattle.hs_command.proofs.judge.tree_verdict.Goals as goal

pub returns-then-count-eq0 : goal.returns-then-count-eq0
returns-then-count-eq0 c source is reads names read have =
    (source, read, have, (c.args.tree.now, is, rw c.if-count-eq0.true at c.in-Ok.ensures))

pub returns-else-count-eq0 : goal.returns-else-count-eq0
returns-else-count-eq0 c source is reads names read have =
    (omega (arith, c.if-count-eq0.false), (source, read, have, (c.args.tree.now, is, c.in-Ok.ensures)))
