use Rattle.hs_expr_parser.specs.Laws.Exact.{found_by_length}
use Rattle.hs_expr_parser.proofs.laws.what_is_read_is_an_expression.Goals as goal

pub returns : goal.returns
returns c = λ known tokens e rest is. found_by_length known tokens e rest is
