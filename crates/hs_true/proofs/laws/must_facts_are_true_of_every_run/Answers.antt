use Rattle.hs_true.specs.Runs.{must_facts_are_true}
use Rattle.hs_true.proofs.laws.must_facts_are_true_of_every_run.Goals as goal

pub returns : goal.returns
returns c = must_facts_are_true
