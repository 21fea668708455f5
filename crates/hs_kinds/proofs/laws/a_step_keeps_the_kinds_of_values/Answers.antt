use Rattle.hs_kinds.specs.Steps.{keeps_kinds}
use Rattle.hs_kinds.proofs.laws.a_step_keeps_the_kinds_of_values.Goals as goal

pub returns : goal.returns
returns c = keeps_kinds
