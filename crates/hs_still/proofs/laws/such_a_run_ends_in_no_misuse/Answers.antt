use Rattle.hs_still.specs.Runs.{run_is_no_misuse}
use Rattle.hs_still.proofs.laws.such_a_run_ends_in_no_misuse.Goals as goal

pub returns : goal.returns
returns c = run_is_no_misuse
