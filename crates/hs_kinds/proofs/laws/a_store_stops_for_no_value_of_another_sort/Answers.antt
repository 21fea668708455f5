use Rattle.hs_kinds.specs.Progress.{store_typed}
use Rattle.hs_kinds.proofs.laws.a_store_stops_for_no_value_of_another_sort.Goals as goal

pub returns : goal.returns
returns c = store_typed
