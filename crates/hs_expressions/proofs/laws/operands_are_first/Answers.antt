use Rattle.hs_expressions.specs.Order.{operands_are_first}
use Rattle.hs_expressions.proofs.laws.operands_are_first.Goals as goal

-- the law
pub returns : goal.returns
returns c = operands_are_first
