use Rattle.std.proofs.Common.{map, ◌++◌}
use Rattle.std.specs.Prelude.{codes}
use Rattle.hs_syntax.specs.Forms.{mark, mark_at, keyword_at}
use Rattle.hs_syntax.specs.Grammar.{declarations_form, statements_form}
use Rattle.hs_syntax.specs.StatementViews.{view_labelled, statements_from}
use Rattle.hs_syntax.specs.Views.{view_declaration}
use Rattle.hs_syntax.specs.declared.stmt.Block.{out-Block}
use Rattle.hs_syntax.specs.StatementLaws.{view_block-out}
use Rattle.hs_spell.proofs.Written.{after}
use Rattle.hs_spell.proofs.statements.+spell_statement.Goals as goal

-- a block has its fields
pub block-returns : goal.block-returns
block-returns t c known =
    let it = out-Block c.args.it.now in
    rw (view_block-out c.args.it.now, ← c.deref-2.ensures.value, ← c.deref.ensures.value)
    (after _ _ c.mark_at.new.tokens.items _ (mark_at it.opening (codes "{")).pieces
    ((declarations_form known (map view_declaration c.deref.result.now)).pieces
    ++ ((statements_form known (statements_from (map view_labelled c.deref-2.result.now))).pieces
    ++ (mark_at it.closing (codes "}")).pieces)) c.in_ok-mark_at.ensures
    (after _ _ c.declarations.new.tokens.items _ (declarations_form known (map view_declaration c.deref.result.now)).pieces
    ((statements_form known (statements_from (map view_labelled c.deref-2.result.now))).pieces ++ (mark_at it.closing (codes "}")).pieces)
    (c.in_ok-declarations.ensures known)
    (after _ _ c.statements.new.tokens.items _ (statements_form known (statements_from (map view_labelled c.deref-2.result.now))).pieces
    (mark_at it.closing (codes "}")).pieces
    (c.in_ok-statements.ensures known) c.mark_at-2.ensures)))

pub statement-returns-in_ok-keyword_at-in-Continue : goal.statement-returns-in_ok-keyword_at-in-Continue
statement-returns-in_ok-keyword_at-in-Continue t c known =
    rw c.in-Continue.is
    (after _ _ c.keyword_at-in-Continue.new.tokens.items _ (keyword_at c.in-Continue.at (codes "continue")).pieces (mark (codes ";")).pieces
    c.in_ok-keyword_at-in-Continue.ensures c.mark-in-Continue.ensures)
