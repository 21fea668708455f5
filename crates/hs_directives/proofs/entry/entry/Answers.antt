use Rattle.std.proofs.Common.{inr}
use Rattle.hs_directives.specs.Ahead.{named_of}
use Rattle.hs_directives.specs.Readings.{entry}
use Rattle.hs_directives.proofs.InTurn.{read_none, read_refused, read_without_memory, read_on, read_refused_on, passed_on, entry_step, entry_unnamed, entry_deep}
use Rattle.hs_directives.proofs.entry.entry.Goals as goal

-- the line names no file
pub returns-in_err-named-clause-reads : goal.returns-in_err-named-clause-reads
returns-in_err-named-clause-reads g c =
    passed_on c.args.state.now.progress.files c.from_residual.result c.in_err-named.field-0.0 c.from_residual.ensures
    (read_refused (read_none _ c.args.files.now c.args.state.now.progress.files
    (λ listing. entry c.args.levels listing c.args.hash.now c.args.line.now c.args.state.now)) c.in_err-named.field-0.0
    c.in_err-named.ensures.1
    (λ listing agrees. entry_unnamed c.args.levels listing c.args.hash.now c.args.line.now c.args.state.now c.in_err-named.field-0.0 c.in_err-named.ensures.0))

-- no more levels may be opened
pub returns-then-levels-eq0-clause-reads : goal.returns-then-levels-eq0-clause-reads
returns-then-levels-eq0-clause-reads g c =
    read_refused (read_none _ c.args.files.now c.args.state.now.progress.files
    (λ listing. entry c.args.levels listing c.args.hash.now c.args.line.now c.args.state.now)) _ tt
    (λ listing agrees. inr (entry_deep c.args.levels listing c.args.hash.now c.args.line.now c.args.state.now (named_of c.in_ok-named.named)
    c.in_ok-named.ensures c.if-levels-eq0.true))

-- the file is not there
pub returns-in_err-known-clause-reads : goal.returns-in_err-known-clause-reads
returns-in_err-known-clause-reads g c =
    passed_on c.found_file.new.progress.files c.from_residual-in_err-known.result c.in_err-known.field-0.0 c.from_residual-in_err-known.ensures
    (read_refused_on
    (entry_step _ c.args.files.now c.args.levels c.args.hash.now c.args.line.now c.args.state.now (named_of c.in_ok-named.named)
    c.as_str.result.now c.in_ok-named.ensures c.as_str.ensures.value c.if-levels-eq0.false)
    c.found_file.new.files c.in_err-known.field-0.0 c.in_err-known.ensures.reads)

-- it is there, and memory is refused or not
pub returns-in_err-insert-clause-reads : goal.returns-in_err-insert-clause-reads
returns-in_err-insert-clause-reads g c =
    read_without_memory
    (read_on
    (entry_step _ c.args.files.now c.args.levels c.args.hash.now c.args.line.now c.args.state.now (named_of c.in_ok-named.named)
    c.as_str.result.now c.in_ok-named.ensures c.as_str.ensures.value c.if-levels-eq0.false)
    c.found_file.new.files c.found_file.new.progress.files c.in_ok-known.ensures.reads)
    c.found_file.new.progress.files c.from_residual-in_err-insert.result c.from_residual-in_err-insert.ensures

pub returns-clause-reads : goal.returns-clause-reads
returns-clause-reads g c =
    read_on
    (entry_step _ c.args.files.now c.args.levels c.args.hash.now c.args.line.now c.args.state.now (named_of c.in_ok-named.named)
    c.as_str.result.now c.in_ok-named.ensures c.as_str.ensures.value c.if-levels-eq0.false)
    c.found_file.new.files c.found_file.new.progress.files c.in_ok-known.ensures.reads
