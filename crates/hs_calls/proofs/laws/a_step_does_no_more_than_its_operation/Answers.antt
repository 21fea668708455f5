use Rattle.hs_calls.specs.Changing.{step_since}
use Rattle.hs_calls.proofs.laws.a_step_does_no_more_than_its_operation.Goals as goal

pub returns : goal.returns
returns c = step_since
