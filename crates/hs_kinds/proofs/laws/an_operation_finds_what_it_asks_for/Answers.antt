use Rattle.hs_kinds.specs.Suits.{stepped_suits}
use Rattle.hs_kinds.proofs.laws.an_operation_finds_what_it_asks_for.Goals as goal

pub returns : goal.returns
returns c = stepped_suits
