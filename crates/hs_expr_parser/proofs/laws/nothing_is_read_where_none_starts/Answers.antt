use Rattle.hs_expr_parser.specs.Laws.Exact.{none_by_length}
use Rattle.hs_expr_parser.proofs.laws.nothing_is_read_where_none_starts.Goals as goal

pub returns : goal.returns
returns c = λ known tokens is n other fits. none_by_length known tokens is n other fits
