-- The reads that were made through the named files are reads of the files, and their names were noted.
use Rattle.hs_command.specs.Report.{names_of}
use Rattle.hs_command.proofs.Through.{leads_through, from_none}
use Rattle.hs_command.proofs.reading.read_named.Goals as goal

pub returns-clause-same_files : goal.returns-clause-same_files
returns-clause-same_files g c =
    (leads_through (λ named. named.files.now) (λ named. named.files.ghost_name) (λ named. named.names.ghost_name) (λ named. named.names.now)
    g.F.Files.leads_to g.F.Files.listing g.F.Files.counts
    c.args.named.now c.read_program.new.files c.read_program.ensures.means.0 c.read_program.ensures.means.1).0

pub returns-clause-same_names : goal.returns-clause-same_names
returns-clause-same_names g c =
    (leads_through (λ named. named.files.now) (λ named. named.files.ghost_name) (λ named. named.names.ghost_name) (λ named. named.names.now)
    g.F.Files.leads_to g.F.Files.listing g.F.Files.counts
    c.args.named.now c.read_program.new.files c.read_program.ensures.means.0 c.read_program.ensures.means.1).1

pub returns-clause-means : goal.returns-clause-means
returns-clause-means g c =
    let made = c.read_program.ensures.means in
    let through = leads_through (λ named. named.files.now) (λ named. named.files.ghost_name) (λ named. named.names.ghost_name)
    (λ named. named.names.now) g.F.Files.leads_to g.F.Files.listing g.F.Files.counts
    c.args.named.now c.read_program.new.files made.0 made.1 in (
      made.0,
      through.2,
      (
        made.2.0,
        from_none c.args.named.now.names.now c.read_program.new.files.names.now (names_of made.0) c.requires through.3,
        made.2.1,
      ),
    )
