use Rattle.hs_expr_parser.specs.Laws.Exact.{longest_by_length}
use Rattle.hs_expr_parser.proofs.laws.reading_is_the_longest.Goals as goal

pub returns : goal.returns
returns c = λ known tokens e rest is n other within fits. longest_by_length known tokens e rest is n other within fits
