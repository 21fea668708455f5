use Rattle.hs_syntax.proofs.Lawful.{specifiers_go_on}
use Rattle.hs_syntax.proofs.laws.specifiers_take_what_they_can.Goals as goal

pub returns : goal.returns
returns c = specifiers_go_on
