use Rattle.hs_hiding.specs.Calls.{opened_lacks}
use Rattle.hs_hiding.proofs.laws.a_call_begins_without_hidden_handles.Goals as goal

pub returns : goal.returns
returns c = opened_lacks
