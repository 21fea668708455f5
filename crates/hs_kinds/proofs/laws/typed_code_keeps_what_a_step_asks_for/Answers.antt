use Rattle.hs_kinds.specs.Starts.{code_is_typed}
use Rattle.hs_kinds.proofs.laws.typed_code_keeps_what_a_step_asks_for.Goals as goal

pub returns : goal.returns
returns c = code_is_typed
