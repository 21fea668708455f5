use Rattle.hs_meaning.proofs.laws.turns_are_enough_fuel.Goals as goal
use Rattle.hs_meaning.specs.Laws.Fuel.{enough_fuel}

pub returns : goal.returns
returns c = enough_fuel
