use Rattle.hs_expr_parser.specs.Laws.Exact.{expression_only}
use Rattle.hs_expr_parser.proofs.laws.expressions_are_unambiguous.Goals as goal

pub returns : goal.returns
returns c = λ known tokens e other one two. expression_only known tokens e other one two
