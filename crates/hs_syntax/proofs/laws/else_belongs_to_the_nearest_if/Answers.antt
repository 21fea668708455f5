use Rattle.hs_syntax.proofs.Lawful.{else_is_nearest}
use Rattle.hs_syntax.proofs.laws.else_belongs_to_the_nearest_if.Goals as goal

pub returns : goal.returns
returns c = else_is_nearest
