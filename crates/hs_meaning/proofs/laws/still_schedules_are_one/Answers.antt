use Rattle.hs_meaning.proofs.laws.still_schedules_are_one.Goals as goal
use Rattle.hs_meaning.specs.Laws.Schedules.{still_schedules_are_one}

pub returns : goal.returns
returns c = still_schedules_are_one
