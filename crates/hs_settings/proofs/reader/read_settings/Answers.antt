-- The table, and then what follows it.
use Rattle.hs_base.specs.Reads.{Makes}
use Rattle.hs_words.specs.Words.{asked_of}
use Rattle.hs_settings.specs.Settings.{HasScript, IsPart, table_in}
use Rattle.hs_settings.specs.Stages.{no_more, then_on}
use Rattle.hs_settings.proofs.reader.read_settings.Goals as goal

pub returns-in-Ok-clause-means : goal.returns-in-Ok-clause-means
returns-in-Ok-clause-means g c =
    then_on (Makes g.F.Files.leads_to g.F.Files.listing g.F.Files.counts) (IsPart (asked_of c.args.words.now).table table_in)
    (HasScript (asked_of c.args.words.now)) c.args.files.now c.table.new.files c.with_script.new.files c.in-Ok.table c.with_script.result
    (rw c.as_str.ensures.value at c.in-Ok.ensures.means) c.with_script.ensures.means

pub returns-in-Err-clause-means : goal.returns-in-Err-clause-means
returns-in-Err-clause-means g c =
    no_more (Makes g.F.Files.leads_to g.F.Files.listing g.F.Files.counts) (IsPart (asked_of c.args.words.now).table table_in)
    (HasScript (asked_of c.args.words.now)) c.args.files.now c.table.new.files c.in-Err.error (rw c.as_str.ensures.value at c.in-Err.ensures.means)
