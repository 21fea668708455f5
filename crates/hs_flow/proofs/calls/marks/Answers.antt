use Rattle.std.proofs.Common.{◌∙◌}
use Rattle.hs_facts.specs.Effects.{marks}
use Rattle.hs_flow.proofs.calls.marks.Goals as goal

-- the flag is in the set
pub returns : goal.returns
returns c = c.contains.ensures (tt {0}) ∙ c.of.ensures marks
