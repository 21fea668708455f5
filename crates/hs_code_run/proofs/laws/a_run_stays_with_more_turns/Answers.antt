use Rattle.hs_code_run.proofs.laws.a_run_stays_with_more_turns.Goals as goal
use Rattle.hs_code_run.specs.Laws.Turns.{stays_with_more_turns}

pub returns : goal.returns
returns c = stays_with_more_turns
