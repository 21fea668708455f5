use Rattle.hs_meaning.proofs.laws.still_runs_are_no_misuse.Goals as goal
use Rattle.hs_meaning.specs.Laws.Still.{still_runs_are_no_misuse}

pub returns : goal.returns
returns c = still_runs_are_no_misuse
