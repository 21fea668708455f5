use Rattle.hs_tracked.specs.Misuses.{none_is_misused}
use Rattle.hs_tracked.proofs.laws.a_program_without_hazards_misuses_nothing.Goals as goal

pub returns : goal.returns
returns c whole answers exact are known knowledge fits classes = none_is_misused whole known knowledge answers exact are fits classes
