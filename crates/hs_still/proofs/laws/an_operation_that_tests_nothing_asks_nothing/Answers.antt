use Rattle.hs_still.specs.Operate.{untested_still}
use Rattle.hs_still.proofs.laws.an_operation_that_tests_nothing_asks_nothing.Goals as goal

pub returns : goal.returns
returns c = untested_still
