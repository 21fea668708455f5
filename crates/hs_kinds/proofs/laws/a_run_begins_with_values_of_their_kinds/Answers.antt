use Rattle.hs_kinds.specs.Starts.{run_begins}
use Rattle.hs_kinds.proofs.laws.a_run_begins_with_values_of_their_kinds.Goals as goal

pub returns : goal.returns
returns c = run_begins
