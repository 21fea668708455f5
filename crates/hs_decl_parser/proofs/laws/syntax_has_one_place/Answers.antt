use Rattle.hs_decl_parser.proofs.Exact.{stuck_once}
use Rattle.hs_decl_parser.proofs.laws.syntax_has_one_place.Goals as goal

pub returns : goal.returns
returns c = λ tokens one other first second. stuck_once tokens one other first second
