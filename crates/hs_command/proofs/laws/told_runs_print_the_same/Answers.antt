use Rattle.hs_command.proofs.laws.told_runs_print_the_same.Goals as goal
use Rattle.hs_command.specs.Laws.Shown.{shown_again, shown_once}

pub returns-clause-once : goal.returns-clause-once
returns-clause-once c = shown_once

pub returns-clause-again : goal.returns-clause-again
returns-clause-again c = shown_again
