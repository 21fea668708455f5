-- The script, and then what follows it.
use Rattle.std.proofs.Common.{None}
use Rattle.hs_base.specs.Reads.{Makes}
use Rattle.hs_words.specs.Words.{asked_of}
use Rattle.hs_settings.specs.Settings.{HasInput, IsNamed, script_in}
use Rattle.hs_settings.specs.Stages.{no_more, then_on}
use Rattle.hs_settings.proofs.reader.with_script.Goals as goal

pub returns-in-Ok-clause-means : goal.returns-in-Ok-clause-means
returns-in-Ok-clause-means g c =
    then_on (Makes g.F.Files.leads_to g.F.Files.listing g.F.Files.counts) (IsNamed None script_in (asked_of c.args.words.now).script)
    (HasInput (asked_of c.args.words.now) c.args.table) c.args.files.now c.script.new.files c.with_input.new.files c.in-Ok.script c.with_input.result
    c.in-Ok.ensures.means c.with_input.ensures.means

pub returns-in-Err-clause-means : goal.returns-in-Err-clause-means
returns-in-Err-clause-means g c =
    no_more (Makes g.F.Files.leads_to g.F.Files.listing g.F.Files.counts) (IsNamed None script_in (asked_of c.args.words.now).script)
    (HasInput (asked_of c.args.words.now) c.args.table) c.args.files.now c.script.new.files c.in-Err.error c.in-Err.ensures.means
