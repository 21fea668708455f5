-- What the words ask for was done, or they ask for nothing.
use Rattle.std.proofs.Common.{map}
use Rattle.std.specs.String.{string_bytes}
use Rattle.hs_command.proofs.Answering.{nothing_asked}
use Rattle.hs_command.proofs.command.answer.Goals as goal

pub returns-in-Ok-clause-answered : goal.returns-in-Ok-clause-answered
returns-in-Ok-clause-answered g c = c.obey.ensures.answered (map string_bytes c.args.words.now) c.in-Ok.ensures

pub returns-in-Err-clause-answered : goal.returns-in-Err-clause-answered
returns-in-Err-clause-answered g c =
    nothing_asked g.F.Files.leads_to g.F.Files.listing g.F.Files.counts c.args.files.now _ _ _ _ c.refuse.result c.in-Err.error c.in-Err.ensures
    c.refuse.ensures.usage c.refuse.ensures.memory
