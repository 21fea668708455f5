use Rattle.std.proofs.Common.{◌∙◌}
use Rattle.hs_command.proofs.command.refuse.Goals as goal

pub returns-in-Usage-clause-usage : goal.returns-in-Usage-clause-usage
returns-in-Usage-clause-usage g c is = rw (c.as_bytes.ensures.value ∙ c.usage_line.ensures) at c.put.ensures
