use Rattle.std.proofs.Common.{rules}
use Rattle.hs_classes.specs.Blocks.{block_out}
use Rattle.hs_classes.proofs.Equations.{block_each}
use Rattle.hs_classes.proofs.statements.+named_in.Goals as goal

-- a block has its lists
pub block-returns : goal.block-returns
block-returns t c =
    rw (block_out c.args.it.now, ← c.deref-2.ensures.value, ← c.deref.ensures.value) (search (rules, block_each))
