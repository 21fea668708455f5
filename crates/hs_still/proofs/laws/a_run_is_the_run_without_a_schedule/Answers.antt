use Rattle.hs_still.specs.Runs.{runs_still}
use Rattle.hs_still.proofs.laws.a_run_is_the_run_without_a_schedule.Goals as goal

pub returns : goal.returns
returns c = runs_still
