use Rattle.hs_tracked.specs.Misuses.{used_or_hazard}
use Rattle.hs_tracked.proofs.laws.a_misuse_is_a_hazard.Goals as goal

pub returns : goal.returns
returns c whole answers exact are known knowledge fits classes = used_or_hazard whole known knowledge answers exact are fits classes
