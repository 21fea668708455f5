use Rattle.std.proofs.Common.{◌≡◌, IsErr, IsErrAnd, map, [], ap, refl, subst, inl}
use Rattle.std.specs.String.{string_bytes}
use Rattle.hs_base.specs.Reads.{Makes}
use Rattle.hs_directives.specs.Preprocessing.{preprocessed}
use Rattle.hs_directives.specs.declared.error.ReadError.TheVariants.{NoMemory}
use Rattle.hs_directives.specs.declared.state.Progress.{Progress}
use Rattle.hs_directives.proofs.InTurn.{read_none, read_refused, read_on, read_refused_on, source_step}
use Rattle.hs_directives.proofs.Through.{read_through, read_partly, through_as}
use Rattle.hs_directives.proofs.sources.preprocess.Goals as goal

-- all units
pub returns-clause-reads : goal.returns-clause-reads
returns-clause-reads g c =
    read_through (map string_bytes c.args.roots.now) c.start.result c.units_of.new.state.progress c.in_ok-units.units.items
    c.in_ok-source_of.field-0 c.start.ensures
    (read_on
    (source_step (Makes g.F.Files.leads_to g.F.Files.listing g.F.Files.counts) c.args.files.now (map string_bytes c.args.roots.now)
    c.start.result c.start.ensures)
    c.units_of.new.files c.units_of.new.state.progress.files c.in_ok-units.ensures.reads)
    c.in_ok-units.ensures.means.0 c.in_ok-units.ensures.means.1 c.in_ok-source_of.ensures

-- there is no room for their source
pub returns-in_err-source_of-clause-reads : goal.returns-in_err-source_of-clause-reads
returns-in_err-source_of-clause-reads g c =
    through_as c.from_residual-in_err-source_of.result NoMemory c.from_residual-in_err-source_of.ensures
    (read_partly (map string_bytes c.args.roots.now) c.start.result.files NoMemory (ap (λ (progress : Progress). progress.files) c.start.ensures)
    (read_refused
    (read_on
    (source_step (Makes g.F.Files.leads_to g.F.Files.listing g.F.Files.counts) c.args.files.now (map string_bytes c.args.roots.now)
    c.start.result c.start.ensures)
    c.units_of.new.files c.units_of.new.state.progress.files c.in_ok-units.ensures.reads)
    NoMemory tt (λ listing agrees. inl refl)))

-- a unit is refused
pub returns-in_err-units-clause-reads : goal.returns-in_err-units-clause-reads
returns-in_err-units-clause-reads g c =
    through_as c.from_residual-in_err-units.result c.in_err-units.field-0.0 c.from_residual-in_err-units.ensures
    (read_partly (map string_bytes c.args.roots.now) c.start.result.files c.in_err-units.field-0.0
    (ap (λ (progress : Progress). progress.files) c.start.ensures)
    (read_refused_on
    (source_step (Makes g.F.Files.leads_to g.F.Files.listing g.F.Files.counts) c.args.files.now (map string_bytes c.args.roots.now)
    c.start.result c.start.ensures)
    c.units_of.new.files c.in_err-units.field-0.0 c.in_err-units.ensures.reads))

-- nothing is read
pub returns-in_err-fresh-clause-reads : goal.returns-in_err-fresh-clause-reads
returns-in_err-fresh-clause-reads g c =
    through_as c.from_residual.result NoMemory
    (subst (λ error. IsErr c.from_residual.result × IsErrAnd c.from_residual.result (λ error'. error' ≡ error)) c.in_err-fresh.ensures.reads_none
    c.from_residual.ensures)
    (read_partly (map string_bytes c.args.roots.now) [] NoMemory refl
    (read_refused
    (read_none (Makes g.F.Files.leads_to g.F.Files.listing g.F.Files.counts) c.args.files.now []
    (λ listing. preprocessed listing (map string_bytes c.args.roots.now)))
    NoMemory tt (λ listing agrees. inl refl)))
