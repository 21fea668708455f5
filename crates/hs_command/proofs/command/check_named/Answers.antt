-- The files were judged, and the line of the report was put.
use Rattle.std.proofs.Common.{map}
use Rattle.std.specs.String.{string_bytes}
use Rattle.hs_command.proofs.Answering.{checked}
use Rattle.hs_command.proofs.command.check_named.Goals as goal

pub returns-clause-answered : goal.returns-clause-answered
returns-clause-answered g c words movers is_check =
    checked g.F.Files.leads_to g.F.Files.listing g.F.Files.counts c.args.files.now words movers _ _ c.put_report.result c.judge-report.new.files
    (map string_bytes c.args.names.now) c.judge-report.result is_check c.judge-report.ensures.means c.put_report.ensures
