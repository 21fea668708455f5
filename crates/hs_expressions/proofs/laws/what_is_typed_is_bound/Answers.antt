use Rattle.hs_expressions.specs.Binding.Typing.{typing_binds}
use Rattle.hs_expressions.proofs.laws.what_is_typed_is_bound.Goals as goal

-- by induction on the expression
pub returns : goal.returns
returns c = typing_binds
