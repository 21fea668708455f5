use Rattle.hs_settings.specs.Settings.{input_in}
use Rattle.hs_settings.proofs.Texts.{part_of, no_part}
use Rattle.hs_settings.proofs.reader.input_named.Goals as goal

pub returns-in-Ok-clause-means : goal.returns-in-Ok-clause-means
returns-in-Ok-clause-means g c =
    part_of g.F.Files.leads_to g.F.Files.listing g.F.Files.counts c.args.files.now c.text.new.files c.args.name.now input_in c.in-Ok.text c.input_in.result
    c.in-Ok.ensures.read (rw c.as_slice.ensures.value at c.input_in.ensures)

pub returns-in-Err-clause-means : goal.returns-in-Err-clause-means
returns-in-Err-clause-means g c =
    no_part g.F.Files.leads_to g.F.Files.listing g.F.Files.counts c.args.files.now c.text.new.files c.args.name.now input_in c.in-Err.error
    c.in-Err.ensures.read
