use Rattle.hs_operands.specs.Laws.Typed.{operators_typed}
use Rattle.hs_operands.proofs.laws.operators_are_typed.Goals as goal

-- one lemma for each operator
pub returns : goal.returns
returns c = operators_typed
