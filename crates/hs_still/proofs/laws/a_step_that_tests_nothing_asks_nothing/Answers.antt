use Rattle.hs_still.specs.Steps.{untested_step}
use Rattle.hs_still.proofs.laws.a_step_that_tests_nothing_asks_nothing.Goals as goal

pub returns : goal.returns
returns c = untested_step
