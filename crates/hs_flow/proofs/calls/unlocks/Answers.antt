use Rattle.std.proofs.Common.{◌∙◌}
use Rattle.hs_facts.specs.Effects.{unlocks}
use Rattle.hs_flow.proofs.calls.unlocks.Goals as goal

-- the flag is in the set
pub returns : goal.returns
returns c = c.contains.ensures (tt {0}) ∙ c.of.ensures unlocks
