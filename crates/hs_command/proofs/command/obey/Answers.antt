-- There is no mover of that number.
use Rattle.std.proofs.Common.{sym, ◌∙◌}
use Rattle.hs_words.specs.Words.{asked_of}
use Rattle.hs_command.proofs.Answering.{no_mover}
use Rattle.hs_command.proofs.command.obey.Goals as goal

pub returns-in-None-clause-answered : goal.returns-in-None-clause-answered
returns-in-None-clause-answered g c words is_command =
    no_mover g.F.Files.leads_to g.F.Files.listing g.F.Files.counts c.args.files.now words _ _ _ c.put.result (asked_of c.in-Run.asked)
    (rw c.in-Run.is at is_command) (sym c.in-None.ensures) (rw (c.as_bytes.ensures.value ∙ c.usage_line.ensures) at c.put.ensures)
