-- one fewer is missing
use Rattle.std.proofs.Common.{append_assoc}
use Rattle.hs_movers.specs.Movers.{no_block}
use Rattle.hs_movers.proofs.ScriptTextLaws.{replicate_one}
use Rattle.hs_movers.proofs.script_text.fill.Goals as goal

pub missing-preserved : goal.missing-preserved
missing-preserved c =
    let one = replicate_one c.args.missing c.missing._added no_block c.missing-test.true in
    rw (c.in_ok-push.ensures.items, c.no_block.ensures, append_assoc) (rw one at c.missing.invariant)
