use Rattle.std.proofs.Common.{◌∙◌}
use Rattle.hs_facts.specs.Effects.{purges}
use Rattle.hs_flow.proofs.calls.purges.Goals as goal

-- the flag is in the set
pub returns : goal.returns
returns c = c.contains.ensures (tt {0}) ∙ c.of.ensures purges
