use Rattle.hs_fitting.specs.Units.{functions_fit}
use Rattle.hs_fitting.proofs.laws.what_is_defined_fits.Goals as goal

-- by induction on the syntax
pub returns : goal.returns
returns c = functions_fit
