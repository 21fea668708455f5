use Rattle.hs_expressions.specs.Laws.Extending.{typing_extends}
use Rattle.hs_expressions.proofs.laws.typing_extends_what_is_known.Goals as goal

-- by induction on the syntax
pub returns : goal.returns
returns c = typing_extends
