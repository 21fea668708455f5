use Rattle.std.proofs.Common.{rules, ◌≡◌, Ok, Err, Result, subst}
use Rattle.hs_linkage.specs.Linkage.{link_as, compatible_routines, noted}
use Rattle.hs_linkage.specs.Refusing.{both_refuse}
use Rattle.hs_linkage.specs.Works.{◌>>◌}
use Rattle.hs_linkage.specs.declared.translator.Linked.{Linked}
use Rattle.hs_linkage.specs.declared.translator.Translator.{Translator}
use Rattle.hs_names.specs.Scopes.{find}
use Rattle.hs_typer.specs.Steps.{Refuses}
use Rattle.hs_typer.specs.declared.type_error.TypeError.{TypeError}
use Rattle.hs_linkage.proofs.linkage.link.Goals as goal

-- the links that are found, then the tests, then the note
pub returns : goal.returns
returns c =
    let first : link_as c.args.internal c.args.word.now c.args.id (find c.args.word.now.text c.args.m.now.links) c.args.m.now
    ≡ Ok (c.in_ok-it.it, c.link_as.new.m) = search rules in
    let second : compatible_routines c.args.word.now c.args.id c.in_ok-it.it c.link_as.new.m ≡ Ok (tt, c.link_as.new.m) = search rules in
    rw (first, second) c.noted.ensures

-- a refusal of the first
pub returns-in_err-it : goal.returns-in_err-it
returns-in_err-it c =
    let given : Result (Linked × Translator) TypeError
    = link_as c.args.internal c.args.word.now c.args.id (find c.args.word.now.text c.args.m.now.links) c.args.m.now in
    let found : c.find-found.result ≡ find c.args.word.now.text c.args.m.now.links = search rules in
    let is : c.from_residual.result ≡ Err c.in_err-it.field-0.0 = search rules in
    rw is
    (both_refuse (λ it. compatible_routines c.args.word.now c.args.id it >> noted c.args.word.now c.args.id it) given c.in_err-it.field-0.0
    (subst (λ found. Refuses (link_as c.args.internal c.args.word.now c.args.id found c.args.m.now) c.in_err-it.field-0.0) found
    c.in_err-it.ensures))

-- or of the tests
pub returns-in_err-compatible_routines : goal.returns-in_err-compatible_routines
returns-in_err-compatible_routines c =
    let first : link_as c.args.internal c.args.word.now c.args.id (find c.args.word.now.text c.args.m.now.links) c.args.m.now
    ≡ Ok (c.in_ok-it.it, c.link_as.new.m) = search rules in
    let given : Result (Unit {0} × Translator) TypeError
    = compatible_routines c.args.word.now c.args.id c.in_ok-it.it c.link_as.new.m in
    let is : c.from_residual-in_err-compatible_routines.result ≡ Err c.in_err-compatible_routines.field-0.0 = search rules in
    rw (first, is)
    (both_refuse (λ done. noted c.args.word.now c.args.id c.in_ok-it.it) given c.in_err-compatible_routines.field-0.0
    c.in_err-compatible_routines.ensures)
