use Rattle.std.proofs.Common.{◌≡◌, true}
use Rattle.hs_lowering.proofs.laws.expressions_keep_their_positions.Goals as goal
use Rattle.hs_lowering.specs.Laws.Positions.{right_placed, left_placed}

pub returns-clause-value : goal.returns-clause-value
returns-clause-value c = λ setting variables piece test e start depth is. (right_placed setting variables piece (λ at. test at ≡ true) e is).at start depth

pub returns-clause-address : goal.returns-clause-address
returns-clause-address c = λ setting variables piece test e start depth is. (left_placed setting variables piece (λ at. test at ≡ true) e is).at start depth
