use Rattle.hs_syntax.proofs.Lawful.{groups_left}
use Rattle.hs_syntax.proofs.laws.binary_operators_group_to_the_left.Goals as goal

pub returns : goal.returns
returns c = groups_left
