use Rattle.std.proofs.Common.{[], map, Bool, List, ap, sym, ◌∙◌}
use Rattle.std.proofs.lemmas.Result.{err_from_is_err_and}
use Rattle.hs_syntax.specs.RowViews.{OneConstant, view_constant}
use Rattle.hs_syntax.specs.Trees as tree
use Rattle.hs_expr_parser.specs.Steps.{enum_at, constants_at}
use Rattle.hs_expr_parser.specs.Laws.Fails.{fails_along}
use Rattle.hs_expr_parser.proofs.Stepping.{enum_list_none, enum_close_none, enum_whole}
use Rattle.hs_syntax.specs.RowLaws.{constants_seen}
use Rattle.hs_expr_parser.specs.Ahead.{mark_at}
use Rattle.std.specs.Prelude.{codes, Some}
use Rattle.hs_expr_parser.proofs.types.enum_specifier.Goals as goal

-- the list fails
pub returns-in_err-constants-clause-read : goal.returns-in_err-constants-clause-read
returns-in_err-constants-clause-read g c =
    let exit = err_from_is_err_and c.from_residual.result c.from_residual.ensures.1 in
    rw (exit.1, exit.2) (fails_along c.in_err-constants.field-0.0 (enum_at c.args.known.now c.args.at c.args.tag c.args.rest.now)
    (constants_at c.args.known.now [] c.in-Some.behind.now)
    (λ none. enum_list_none c.args.known.now c.args.at c.args.tag c.args.rest.now c.in-Some.brace c.in-Some.behind.now c.in-Some.ensures.read none)
    c.in_err-constants.ensures.read)

-- its end is missing
pub returns-in_err-left-clause-read : goal.returns-in_err-left-clause-read
returns-in_err-left-clause-read g c =
    let exit = err_from_is_err_and c.from_residual-in_err-left.result c.from_residual-in_err-left.ensures.1 in
    let its : List OneConstant × Bool = (map view_constant c.in_ok-constants.constants.items, c.in_ok-constants.comma) in
    rw (exit.1, exit.2) (fails_along c.in_err-left.field-0.0 (enum_at c.args.known.now c.args.at c.args.tag c.args.rest.now)
    (mark_at (codes "}") c.in_ok-constants.close.now)
    (λ none.
    enum_close_none c.args.known.now c.args.at c.args.tag c.args.rest.now c.in-Some.brace c.in-Some.behind.now its c.in_ok-constants.close.now
    c.in-Some.ensures.read c.in_ok-constants.ensures.read none)
    c.in_err-left.ensures.read)

-- all of it
pub returns-clause-read : goal.returns-clause-read
returns-clause-read g c =
    let its : List OneConstant × Bool = (map view_constant c.in_ok-constants.constants.items, c.in_ok-constants.comma) in
    enum_whole c.args.known.now c.args.at c.args.tag c.args.rest.now c.in-Some.brace c.in-Some.behind.now its c.in_ok-constants.close.now c.in_ok-left.field-0-0
    c.in_ok-left.left.now
    c.in-Some.ensures.read c.in_ok-constants.ensures.read c.in_ok-left.ensures.read
    ∙ ap (λ its. Some (tree.enum_body c.args.at c.args.tag c.in-Some.brace its c.in_ok-constants.comma, c.in_ok-left.left.now))
    (sym (constants_seen c.in_ok-constants.constants))
