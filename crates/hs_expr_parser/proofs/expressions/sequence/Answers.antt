use Rattle.std.proofs.Common.{◌≡◌, ap, ◌∙◌, length, arith}
use Rattle.std.proofs.lemmas.Bool.Decides.{nat_tests}
use Rattle.hs_syntax.specs.Views.{view, view_lefts}
use Rattle.hs_syntax.specs.Trees as tree
use Rattle.hs_syntax.specs.declared.expr.Constant.TheBlock.{hidden-the_row-Left-3}
use Rattle.hs_expr_parser.proofs.Seen.{sequence_seen}
use Rattle.hs_expr_parser.proofs.expressions.sequence.Goals as goal

pub returns : goal.returns
returns c =
    ap (λ e. tree.comma (view_lefts (hidden-the_row-Left-3 c.args.lefts)) (view e)) c.in_ok-new.ensures.ok
    ∙ sequence_seen c.args.lefts (view c.args.right) (λ empty.
    let none : length c.args.lefts.items ≡ 0 = ap length empty in
    grind (arith, nat_tests, none, c.args.lefts.ok.0, c.is_empty.ensures, c.if-is_empty.false))
