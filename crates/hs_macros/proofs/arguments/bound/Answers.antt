use Rattle.std.proofs.Common.{arith}
use Rattle.std.proofs.lemmas.Grind.{common_steps}
use Rattle.hs_macros.proofs.arguments.bound.Goals as goal

-- arguments that are not one that is empty are paired with the parameters
pub returns-clause-waiting : goal.returns-clause-waiting
returns-clause-waiting c names = let is = c.paired.ensures.waiting names in grind (arith, common_steps)
