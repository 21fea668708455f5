use Rattle.hs_fitting.specs.Functions.{functions_stand}
use Rattle.hs_fitting.proofs.laws.what_is_stated_stands.Goals as goal

-- by induction on the syntax
pub returns : goal.returns
returns c = functions_stand
