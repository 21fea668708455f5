use Rattle.hs_hiding.specs.Disposing.{operate_alive}
use Rattle.hs_hiding.proofs.laws.no_operation_disposes_of_a_hidden_block.Goals as goal

pub returns : goal.returns
returns c = operate_alive
