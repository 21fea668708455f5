use Rattle.hs_fitting.specs.Names.{functions_are_named}
use Rattle.hs_fitting.proofs.laws.functions_have_their_names.Goals as goal

-- by induction on the syntax
pub returns : goal.returns
returns c = functions_are_named
