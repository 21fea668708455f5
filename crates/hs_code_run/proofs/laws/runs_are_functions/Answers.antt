use Rattle.hs_code_run.proofs.laws.runs_are_functions.Goals as goal
use Rattle.hs_code_run.specs.Laws.OneWay.{one_way}

pub returns : goal.returns
returns c = one_way
