use Rattle.hs_calls.specs.CallsSince.{calls_since}
use Rattle.hs_calls.proofs.laws.a_call_does_no_more_than_its_function.Goals as goal

pub returns : goal.returns
returns c = calls_since
