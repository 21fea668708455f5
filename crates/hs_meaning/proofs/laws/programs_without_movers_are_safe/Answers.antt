use Rattle.hs_meaning.proofs.laws.programs_without_movers_are_safe.Goals as goal
use Rattle.hs_meaning.specs.Laws.Still.{safe_without_movers}

pub returns : goal.returns
returns c = safe_without_movers
