use Rattle.hs_machine.proofs.laws.told_runs_are_one.Goals as goal
use Rattle.hs_machine.specs.Laws.Scripts.{one_run, printed_again}

pub returns-clause-one : goal.returns-clause-one
returns-clause-one c = one_run

pub returns-clause-again : goal.returns-clause-again
returns-clause-again c = printed_again
