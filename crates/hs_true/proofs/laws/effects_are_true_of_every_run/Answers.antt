use Rattle.hs_true.specs.Runs.{effects_are_true}
use Rattle.hs_true.proofs.laws.effects_are_true_of_every_run.Goals as goal

pub returns : goal.returns
returns c = effects_are_true
