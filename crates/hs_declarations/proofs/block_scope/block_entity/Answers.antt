use Rattle.std.proofs.Common.{rules, ◌≡◌, Bool, true, false, None, Ok, Option, Result, sym, subst, option_map, option_copied, if◌then◌else◌}
use Rattle.hs_declarations.specs.Declarations.{block_function, block_object}
use Rattle.hs_linkage.specs.Linkage.{is_function}
use Rattle.hs_linkage.specs.Works.{Works}
use Rattle.hs_linkage.specs.declared.translator.Translator.{Translator}
use Rattle.hs_syntax.specs.Views.{view_initialiser}
use Rattle.hs_tree.specs.Trees.{TypedItem}
use Rattle.hs_tree.specs.Views.{view_item as view_given}
use Rattle.hs_typer.specs.declared.type_error.TypeError.{TypeError}
use Rattle.hs_declarations.proofs.block_scope.block_entity.Goals as goal

-- the type is a function, which is refused
pub returns-in_err-block_function : goal.returns-in_err-block_function
returns-in_err-block_function c =
    let start = option_map view_initialiser (option_copied c.args.it) in
    let is : is_function c.args.m.now.typer.types c.args.id ≡ true = search rules in
    let refused : Works (option_map view_given) c.block_function.new.m
    (block_function c.args.stored c.args.storage c.args.word.now c.args.id start c.args.m.now) c.from_residual.result = search rules in
    subst
    (λ (b : Bool). Works (option_map view_given) c.block_function.new.m
    (if b
    then block_function c.args.stored c.args.storage c.args.word.now c.args.id start c.args.m.now
    else block_object c.args.storage c.args.word.now c.args.id start c.args.m.now) c.from_residual.result)
    (sym is) refused

-- or declared
pub returns-in_ok-block_function : goal.returns-in_ok-block_function
returns-in_ok-block_function c =
    let start = option_map view_initialiser (option_copied c.args.it) in
    let is : is_function c.args.m.now.typer.types c.args.id ≡ true = search rules in
    subst
    (λ (b : Bool). ◌≡◌ {A = Result (Option TypedItem × Translator) TypeError}
    (if b
    then block_function c.args.stored c.args.storage c.args.word.now c.args.id start c.args.m.now
    else block_object c.args.storage c.args.word.now c.args.id start c.args.m.now) (Ok (None, c.block_function.new.m)))
    (sym is) c.in_ok-block_function.ensures

-- or it is an object
pub returns-else-is_function : goal.returns-else-is_function
returns-else-is_function c =
    let start = option_map view_initialiser (option_copied c.args.it) in
    let is : is_function c.args.m.now.typer.types c.args.id ≡ false = search rules in
    subst
    (λ (b : Bool). Works (option_map view_given) c.block_object.new.m
    (if b
    then block_function c.args.stored c.args.storage c.args.word.now c.args.id start c.args.m.now
    else block_object c.args.storage c.args.word.now c.args.id start c.args.m.now) c.block_object.result)
    (sym is) c.block_object.ensures
