use Rattle.hs_still.specs.Steps.{step_still}
use Rattle.hs_still.proofs.laws.a_step_does_the_same_on_the_still_machine.Goals as goal

pub returns : goal.returns
returns c = step_still
