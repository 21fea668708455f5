use Rattle.std.proofs.Common.{[]}
use Rattle.hs_decl_parser.proofs.Exact.{unit_only}
use Rattle.hs_decl_parser.proofs.laws.units_are_unambiguous.Goals as goal

pub returns : goal.returns
returns c = λ tokens one other fits also. unit_only [] one other tokens fits also
