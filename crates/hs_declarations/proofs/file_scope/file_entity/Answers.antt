use Rattle.std.proofs.Common.{rules, ◌≡◌, Bool, true, false, sym, subst, option_map, option_copied, if◌then◌else◌}
use Rattle.hs_declarations.specs.Declarations.{is_static, function_declared, file_object}
use Rattle.hs_linkage.specs.Linkage.{is_function}
use Rattle.hs_linkage.specs.Works.{Works}
use Rattle.hs_syntax.specs.Views.{view_initialiser}
use Rattle.hs_declarations.proofs.file_scope.file_entity.Goals as goal

-- the type is a function
pub returns-then-is_function : goal.returns-then-is_function
returns-then-is_function c =
    let start = option_map view_initialiser (option_copied c.args.it) in
    let is : is_function c.args.m.now.typer.types c.args.id ≡ true = search rules in
    let static : c.is_static.result ≡ is_static c.args.storage = search rules in
    subst
    (λ (b : Bool). Works {A = Unit {0}} {B = Unit {0}} (λ it. it) c.function_declared.new.m
    (if b
    then function_declared (is_static c.args.storage) c.args.word.now c.args.id start c.args.m.now
    else file_object c.args.storage c.args.word.now c.args.id start c.args.m.now) c.function_declared.result)
    (sym is)
    (subst
    (λ (b : Bool). Works {A = Unit {0}} {B = Unit {0}} (λ it. it) c.function_declared.new.m
    (function_declared b c.args.word.now c.args.id start c.args.m.now) c.function_declared.result) static c.function_declared.ensures)

-- or an object
pub returns-else-is_function : goal.returns-else-is_function
returns-else-is_function c =
    let start = option_map view_initialiser (option_copied c.args.it) in
    let is : is_function c.args.m.now.typer.types c.args.id ≡ false = search rules in
    subst
    (λ (b : Bool). Works {A = Unit {0}} {B = Unit {0}} (λ it. it) c.file_object.new.m
    (if b
    then function_declared (is_static c.args.storage) c.args.word.now c.args.id start c.args.m.now
    else file_object c.args.storage c.args.word.now c.args.id start c.args.m.now) c.file_object.result)
    (sym is) c.file_object.ensures
