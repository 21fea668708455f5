use Rattle.hs_tracked.specs.Runs.{values_are_tracked}
use Rattle.hs_tracked.proofs.laws.values_are_tracked_in_every_run.Goals as goal

pub returns : goal.returns
returns c = values_are_tracked
