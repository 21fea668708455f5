use Rattle.hs_expressions.specs.Laws.Typing.{typing_is_right}
use Rattle.hs_expressions.proofs.laws.what_is_typed_is_well_typed.Goals as goal

-- by induction on the expression
pub returns : goal.returns
returns c = typing_is_right
