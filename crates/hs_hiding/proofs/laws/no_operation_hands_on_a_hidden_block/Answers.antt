use Rattle.hs_hiding.specs.Operations.{operate_hands}
use Rattle.hs_hiding.proofs.laws.no_operation_hands_on_a_hidden_block.Goals as goal

pub returns : goal.returns
returns c = operate_hands
