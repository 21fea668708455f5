-- By the operation.
use Rattle.hs_operations.specs.Works.{stepped_works}
use Rattle.hs_operations.proofs.laws.operations_are_steps.Goals as goal

pub returns : goal.returns
returns c = stepped_works
