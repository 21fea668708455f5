use Rattle.std.proofs.Common.{arith}
use Rattle.std.proofs.lemmas.Grind.{common_steps}
use Rattle.hs_macros.proofs.pending.put_sources.Goals as goal

-- one more is put
pub loop-pending-preserved : goal.loop-pending-preserved
loop-pending-preserved c names =
    let before = c.loop-pending.invariant names in
    let source = c.in_ok-source.ensures names in
    grind (arith, common_steps)
