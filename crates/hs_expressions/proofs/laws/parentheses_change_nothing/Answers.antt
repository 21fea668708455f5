use Rattle.hs_expressions.specs.Order.{parentheses_change_nothing}
use Rattle.hs_expressions.proofs.laws.parentheses_change_nothing.Goals as goal

-- the law
pub returns : goal.returns
returns c = parentheses_change_nothing
