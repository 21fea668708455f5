use Rattle.std.proofs.Common.{rules, ◌≡◌, Ok, Err, Result, option_map, option_copied}
use Rattle.hs_declarations.specs.Declarations.{is_object, may_be_tentative, keeps_linkage, tentative, object_with_start}
use Rattle.hs_linkage.specs.Linkage.{linked}
use Rattle.hs_linkage.specs.Refusing.{both_refuse}
use Rattle.hs_linkage.specs.declared.translator.Translator.{Translator}
use Rattle.hs_syntax.specs.Views.{view_initialiser}
use Rattle.hs_typer.specs.declared.type_error.TypeError.{TypeError}
use Rattle.hs_typer.specs.declared.typer.Entity.{Entity}
use Rattle.hs_declarations.proofs.file_scope.file_object_as.Goals as goal

-- the tests and the note, then the link, then the initialiser
pub returns : goal.returns
returns c =
    let start = option_map view_initialiser (option_copied c.args.it) in
    let first : is_object c.args.word.now c.args.id c.args.m.now ≡ Ok (tt, c.args.m.now) = search rules in
    let second : may_be_tentative c.args.internal c.args.word.now c.args.id start c.args.m.now ≡ Ok (tt, c.args.m.now) = search rules in
    let third : keeps_linkage c.args.storage c.args.word.now c.args.m.now ≡ Ok (tt, c.args.m.now) = search rules in
    let fourth : tentative c.args.storage c.args.word.now c.args.id start c.args.m.now ≡ Ok (tt, c.note_tentative.new.m) = search rules in
    let fifth : linked c.args.internal c.args.word.now c.args.id c.note_tentative.new.m ≡ Ok (c.in_ok-its.its, c.linked.new.m) = search rules in
    rw (first, second, third, fourth, fifth) c.object_with_start.ensures

-- a name that cannot be linked
pub returns-in_err-its : goal.returns-in_err-its
returns-in_err-its c =
    let start = option_map view_initialiser (option_copied c.args.it) in
    let first : is_object c.args.word.now c.args.id c.args.m.now ≡ Ok (tt, c.args.m.now) = search rules in
    let second : may_be_tentative c.args.internal c.args.word.now c.args.id start c.args.m.now ≡ Ok (tt, c.args.m.now) = search rules in
    let third : keeps_linkage c.args.storage c.args.word.now c.args.m.now ≡ Ok (tt, c.args.m.now) = search rules in
    let fourth : tentative c.args.storage c.args.word.now c.args.id start c.args.m.now ≡ Ok (tt, c.note_tentative.new.m) = search rules in
    let given : Result (Entity × Translator) TypeError = linked c.args.internal c.args.word.now c.args.id c.note_tentative.new.m in
    let is : c.from_residual-in_err-its.result ≡ Err c.in_err-its.field-0.0 = search rules in
    rw (first, second, third, fourth, is)
    (both_refuse (λ its. object_with_start c.args.internal c.args.word.now start its) given c.in_err-its.field-0.0 c.in_err-its.ensures)
