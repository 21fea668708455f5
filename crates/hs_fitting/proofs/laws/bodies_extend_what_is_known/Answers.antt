use Rattle.hs_fitting.specs.Extending.{bodies_extend}
use Rattle.hs_fitting.proofs.laws.bodies_extend_what_is_known.Goals as goal

-- by induction on the syntax
pub returns : goal.returns
returns c = bodies_extend
