use Rattle.hs_kinds.specs.Progress.{operation_typed}
use Rattle.hs_kinds.proofs.laws.an_operation_stops_for_no_operand_of_another_sort.Goals as goal

pub returns : goal.returns
returns c = operation_typed
