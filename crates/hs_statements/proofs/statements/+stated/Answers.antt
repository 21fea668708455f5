use Rattle.std.proofs.Common.{rules}
use Rattle.hs_syntax.specs.StatementLaws.{view_block-out}
use Rattle.hs_syntax.specs.declared.stmt.Block.{out-Block}
use Rattle.hs_statements.proofs.StatementsNext.{statements_next}
use Rattle.hs_statements.proofs.statements.+stated.Goals as goal
use Rattle.hs_tree.specs.RowLaws.{block_seen}

-- the next statement is refused
pub all_stated-returns-in_err-statement : goal.all_stated-returns-in_err-statement
all_stated-returns-in_err-statement t c =
    rw (← c.its.invariant, statements_next c.args.its.now c.its.it-index c.it-item.result c.its-test.true c.it-item.is, ← c.deref.ensures.value)
    (search rules)

-- a block has its fields
pub block_inside-returns-in_err-declarations : goal.block_inside-returns-in_err-declarations
block_inside-returns-in_err-declarations t c = rw (view_block-out c.args.it.now, ← c.deref.ensures.value) (search rules)

pub block_inside-returns-in_err-statements : goal.block_inside-returns-in_err-statements
block_inside-returns-in_err-statements t c =
    rw (view_block-out c.args.it.now, ← c.deref-2.ensures.value, ← c.deref.ensures.value) (search rules)

pub block_inside-returns : goal.block_inside-returns
block_inside-returns t c =
    rw (
      view_block-out c.args.it.now,
      ← c.deref-2.ensures.value,
      ← c.deref.ensures.value,
      block_seen (out-Block c.args.it.now).opening
          (out-Block c.args.it.now).closing c.in_ok-declarations.declarations c.in_ok-statements.statements,
    )
    (search rules)
