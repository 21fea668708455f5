use Rattle.hs_still.specs.Shifts.{decided_still}
use Rattle.hs_still.proofs.laws.no_decision_changes_the_still_state.Goals as goal

pub returns : goal.returns
returns c = decided_still
