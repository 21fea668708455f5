-- The program was run, and the text of the report was put.
use Rattle.hs_words.specs.Words.{asked_of}
use Rattle.hs_command.proofs.Answering.{ran}
use Rattle.hs_command.proofs.command.run_chosen.Goals as goal

pub returns-clause-answered : goal.returns-clause-answered
returns-clause-answered g c words movers is_run chosen =
    ran g.F.Files.leads_to g.F.Files.listing g.F.Files.counts c.args.files.now words movers _ _ c.put_run.result c.run_named-report.new.files
    (asked_of c.args.asked.now) _ c.run_named-report.result is_run chosen c.run_named-report.ensures.means c.put_run.ensures
