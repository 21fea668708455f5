use Rattle.hs_lowering.proofs.laws.expressions_jump_inside.Goals as goal
use Rattle.hs_lowering.specs.Laws.Jumps.{right_within, left_within}

pub returns-clause-value : goal.returns-clause-value
returns-clause-value c = λ setting variables piece e start depth. (right_within setting variables piece e).at start depth

pub returns-clause-address : goal.returns-clause-address
returns-clause-address c = λ setting variables piece e start depth. (left_within setting variables piece e).at start depth
