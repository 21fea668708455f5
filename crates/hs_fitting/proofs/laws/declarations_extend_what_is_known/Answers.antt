use Rattle.hs_fitting.specs.Extending.{declarations_extend}
use Rattle.hs_fitting.proofs.laws.declarations_extend_what_is_known.Goals as goal

-- by induction on the syntax
pub returns : goal.returns
returns c = declarations_extend
