use Rattle.hs_base.specs.Reads.{Makes}
use Rattle.hs_directives.proofs.InTurn.{read_without_memory_as, read_on, read_refused_on, passed_on, unit_file_step, unit_walk_step}
use Rattle.hs_directives.proofs.Units.{unit_reached}
use Rattle.hs_directives.proofs.unit.unit_of.Goals as goal

-- the root file was walked
pub returns-clause-means : goal.returns-clause-means
returns-clause-means g c =
    unit_reached c.args.name.now c.args.state.now.progress c.found_file.new.progress c.in_ok-known.known c.args.state.now.unit
    c.replace-unit.result c.walk.new.state c.requires c.replace-unit.ensures.value c.in_ok-known.ensures.means c.in_ok-walk.ensures.means

-- the root file is not there
pub returns-in_err-known-clause-reads : goal.returns-in_err-known-clause-reads
returns-in_err-known-clause-reads g c =
    passed_on c.found_file.new.progress.files c.from_residual.result c.in_err-known.field-0.0 c.from_residual.ensures
    (read_refused_on
    (unit_file_step (Makes g.F.Files.leads_to g.F.Files.listing g.F.Files.counts) c.args.files.now c.args.name.now c.args.state.now.progress)
    c.found_file.new.files c.in_err-known.field-0.0 c.in_err-known.ensures.reads)

-- its walk is refused
pub returns-in_err-walk-clause-reads : goal.returns-in_err-walk-clause-reads
returns-in_err-walk-clause-reads g c =
    passed_on c.walk.new.state.progress.files c.from_residual-in_err-walk.result c.in_err-walk.field-0.0 c.from_residual-in_err-walk.ensures
    (read_refused_on (unit_walk_step c.args.name.now c.args.state.now.progress c.found_file.new.progress c.in_ok-known.known c.args.state.now.unit
    (read_on (unit_file_step (Makes g.F.Files.leads_to g.F.Files.listing g.F.Files.counts) c.args.files.now c.args.name.now c.args.state.now.progress)
    c.found_file.new.files c.found_file.new.progress.files c.in_ok-known.ensures.reads)
    c.requires c.in_ok-known.ensures.means.1) c.walk.new.files c.in_err-walk.field-0.0 c.in_err-walk.ensures.reads)

-- it was walked
pub returns-in_err-fresh-clause-reads : goal.returns-in_err-fresh-clause-reads
returns-in_err-fresh-clause-reads g c =
    read_without_memory_as
    (read_on (unit_walk_step c.args.name.now c.args.state.now.progress c.found_file.new.progress c.in_ok-known.known c.args.state.now.unit
    (read_on (unit_file_step (Makes g.F.Files.leads_to g.F.Files.listing g.F.Files.counts) c.args.files.now c.args.name.now c.args.state.now.progress)
    c.found_file.new.files c.found_file.new.progress.files c.in_ok-known.ensures.reads)
    c.requires c.in_ok-known.ensures.means.1) c.walk.new.files
    c.walk.new.state.progress.files c.in_ok-walk.ensures.reads)
    c.walk.new.state.progress.files c.from_residual-in_err-fresh.result c.in_err-fresh.field-0.0 c.in_err-fresh.ensures.reads_none
    c.from_residual-in_err-fresh.ensures

pub returns-clause-reads : goal.returns-clause-reads
returns-clause-reads g c =
    read_on (unit_walk_step c.args.name.now c.args.state.now.progress c.found_file.new.progress c.in_ok-known.known c.args.state.now.unit
    (read_on (unit_file_step (Makes g.F.Files.leads_to g.F.Files.listing g.F.Files.counts) c.args.files.now c.args.name.now c.args.state.now.progress)
    c.found_file.new.files c.found_file.new.progress.files c.in_ok-known.ensures.reads)
    c.requires c.in_ok-known.ensures.means.1) c.walk.new.files
    c.walk.new.state.progress.files c.in_ok-walk.ensures.reads
