use Rattle.hs_code_run.proofs.laws.only_shifts_move.Goals as goal
use Rattle.hs_code_run.specs.Laws.Epochs.{only_shifts_move}

pub returns : goal.returns
returns c = only_shifts_move
