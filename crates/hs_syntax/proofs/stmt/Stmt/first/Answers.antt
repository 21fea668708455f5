use Rattle.std.proofs.Common.{sym, ap, ◌∙◌}
use Rattle.hs_syntax.specs.Positions.{first_of_block, first_of_statement}
use Rattle.hs_syntax.specs.StatementLaws.{view_block-out}
use Rattle.hs_syntax.specs.Views.{view_statement}
use Rattle.hs_syntax.specs.declared.stmt.Stmt.{Stmt}
use Rattle.hs_syntax.proofs.stmt.Stmt.first.Goals as goal

-- a block begins with its brace
pub returns-in-Block : goal.returns-in-Block
returns-in-Block c =
    sym (ap first_of_block (view_block-out c.in-Block.it)) ∙ sym (ap (λ (it : Stmt). first_of_statement (view_statement it)) c.in-Block.is)
