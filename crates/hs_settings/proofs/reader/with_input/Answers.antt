-- The input, and then nothing more.
use Rattle.std.proofs.Common.{refl, []}
use Rattle.hs_base.specs.Reads.{Makes}
use Rattle.hs_words.specs.Words.{asked_of}
use Rattle.hs_settings.specs.Settings.{IsNamed, IsWhole, input_in, no_input}
use Rattle.hs_settings.specs.Stages.{no_more, then_on}
use Rattle.hs_settings.proofs.reader.with_input.Goals as goal

pub returns-in-Ok-clause-means : goal.returns-in-Ok-clause-means
returns-in-Ok-clause-means g c =
    then_on (Makes g.F.Files.leads_to g.F.Files.listing g.F.Files.counts) (IsNamed no_input input_in (asked_of c.args.words.now).input)
    (IsWhole c.args.table c.args.script) c.args.files.now c.input.new.files c.input.new.files c.in-Ok.input _ c.in-Ok.ensures.means
    ([], refl, (refl, refl))

pub returns-in-Err-clause-means : goal.returns-in-Err-clause-means
returns-in-Err-clause-means g c =
    no_more (Makes g.F.Files.leads_to g.F.Files.listing g.F.Files.counts) (IsNamed no_input input_in (asked_of c.args.words.now).input)
    (IsWhole c.args.table c.args.script) c.args.files.now c.input.new.files c.in-Err.error c.in-Err.ensures.means
