use Rattle.hs_settings.specs.Settings.{table_in}
use Rattle.hs_settings.proofs.Texts.{part_of, no_part}
use Rattle.hs_settings.proofs.reader.table.Goals as goal

pub returns-in-Ok-clause-means : goal.returns-in-Ok-clause-means
returns-in-Ok-clause-means g c =
    part_of g.F.Files.leads_to g.F.Files.listing g.F.Files.counts c.args.files.now c.text.new.files c.args.name.now table_in c.in-Ok.text c.table_in.result
    c.in-Ok.ensures.read (rw c.as_slice.ensures.value at c.table_in.ensures)

pub returns-in-Err-clause-means : goal.returns-in-Err-clause-means
returns-in-Err-clause-means g c =
    no_part g.F.Files.leads_to g.F.Files.listing g.F.Files.counts c.args.files.now c.text.new.files c.args.name.now table_in c.in-Err.error
    c.in-Err.ensures.read
