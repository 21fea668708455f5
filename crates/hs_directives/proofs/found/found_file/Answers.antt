use Rattle.std.proofs.Common.{◌≡◌, ℕ, Result, Err, refl, arith, inr, sym, ap, ◌∙◌}
use Rattle.std.proofs.lemmas.Slice.Eq.{bytes_eq-Decides}
use Rattle.hs_base.specs.declared.limit.Limit.{Limit as LimitOf}
use Rattle.hs_base.specs.declared.limit.LimitKind.{LimitKind}
use Rattle.hs_base.specs.declared.limit.LimitKind.TheVariants.{Files}
use Rattle.hs_directives.specs.States.{Found, found_file, passed}
use Rattle.hs_directives.specs.declared.error.ReadError.{ReadError}
use Rattle.hs_directives.specs.declared.error.ReadError.TheVariants.{Limit}
use Rattle.hs_directives.proofs.InTurn.{read_none, read_refused, read_without_memory, found_text, found_text_refused, found_many, passed_on}
use Rattle.hs_directives.proofs.Reading.{found_scanned}
use Rattle.hs_directives.proofs.found.found_file.Goals as goal

-- a limit is that of its kind and its number
passed_is : (limit : LimitOf) → limit.kind ≡ Files → limit.reached ≡ 256 → ◌≡◌ {A = Result Found ReadError} (Err (passed Files)) (Err (Limit limit))
passed_is limit kind reached =
    ap (λ (kind' : LimitKind). Err (Limit (record { kind = kind'; reached = 256 }))) (sym kind)
    ∙ ap (λ (reached' : ℕ). Err (Limit (record { kind = limit.kind; reached = reached' }))) (sym reached)

-- the file was read now
pub returns-clause-means : goal.returns-clause-means
returns-clause-means g c =
    found_scanned c.args.name.now c.in_ok-text.text.items c.args.progress.now c.scanned_file.new.progress c.scanned_file.result
    (cc (c.in_default.is, c.in_ok-known.ensures, c.as_bytes.ensures.value)) (grind (arith, c.len.ensures.len, c.if-len-ge256.false))
    (grind (arith, c.in_ok-text.ensures.short)) ((bytes_eq-Decides c.args.name.now c.args.name.now).1 refl)
    c.scanned_file.ensures

pub returns-clause-reads : goal.returns-clause-reads
returns-clause-reads g c =
    found_text c.args.name.now c.args.progress.now (cc (c.in_default.is, c.in_ok-known.ensures, c.as_bytes.ensures.value))
    (grind (arith, c.len.ensures.len, c.if-len-ge256.false)) c.in_ok-text.text c.scanned_file.new.progress c.scanned_file.result
    (grind (arith, c.in_ok-text.ensures.short)) c.in_ok-text.ensures.read c.scanned_file.ensures

-- it was not read
pub returns-in_err-text-clause-reads : goal.returns-in_err-text-clause-reads
returns-in_err-text-clause-reads g c =
    passed_on c.args.progress.now.files c.from_residual-in_err-text.result c.in_err-text.field-0.0 c.from_residual-in_err-text.ensures
    (found_text_refused c.args.name.now c.args.progress.now (cc (c.in_default.is, c.in_ok-known.ensures, c.as_bytes.ensures.value))
    (grind (arith, c.len.ensures.len, c.if-len-ge256.false)) c.in_err-text.field-0.0 c.in_err-text.ensures.read)

-- nothing is read
pub returns-in_err-known-clause-reads : goal.returns-in_err-known-clause-reads
returns-in_err-known-clause-reads g c =
    read_without_memory (read_none _ c.args.files.now c.args.progress.now.files (λ listing. found_file listing c.args.name.now c.args.progress.now))
    c.args.progress.now.files c.from_residual.result c.from_residual.ensures

pub returns-in-Some-clause-reads : goal.returns-in-Some-clause-reads
returns-in-Some-clause-reads g c = read_none _ c.args.files.now c.args.progress.now.files (λ listing. found_file listing c.args.name.now c.args.progress.now)

-- there are too many files
pub returns-then-len-ge256-clause-reads : goal.returns-then-len-ge256-clause-reads
returns-then-len-ge256-clause-reads g c =
    read_refused (read_none _ c.args.files.now c.args.progress.now.files (λ listing. found_file listing c.args.name.now c.args.progress.now))
    (Limit c.passed.result) tt
    (λ listing agrees. inr (found_many listing c.args.name.now c.args.progress.now
    (cc (c.in_default.is, c.in_ok-known.ensures, c.as_bytes.ensures.value)) (grind (arith, c.len.ensures.len, c.if-len-ge256.true))
    ∙ passed_is c.passed.result c.passed.ensures.kind c.passed.ensures.reached))
