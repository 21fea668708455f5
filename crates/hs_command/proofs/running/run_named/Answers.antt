-- What the words name was read and run, or it is not there.
use Rattle.hs_base.specs.Reads.{Makes}
use Rattle.hs_words.specs.Words.{asked_of}
use Rattle.hs_command.proofs.Runs.{settled, unsettled}
use Rattle.hs_command.proofs.running.run_named.Goals as goal

pub returns-in-Ok-clause-means : goal.returns-in-Ok-clause-means
returns-in-Ok-clause-means g c =
    settled (Makes g.F.Files.leads_to g.F.Files.listing g.F.Files.counts) _ (asked_of c.args.words.now) c.args.files.now c.read_settings.new.files
    c.run_with.new.files c.in-Ok.settings c.run_with.result c.in-Ok.ensures.means c.run_with.ensures.means

pub returns-in-Err-clause-means : goal.returns-in-Err-clause-means
returns-in-Err-clause-means g c =
    unsettled (Makes g.F.Files.leads_to g.F.Files.listing g.F.Files.counts) _ (asked_of c.args.words.now) c.args.files.now c.read_settings.new.files
    c.in-Err.error c.unsettled.result c.in-Err.ensures.means c.unsettled.ensures
