use Rattle.std.proofs.Common.{List, Some, sym, ap, ◌∙◌}
use Rattle.hs_macros.specs.Stacks.{done, seen_argument}
use Rattle.hs_macros.specs.declared.pending.Pending.{Pending}
use Rattle.hs_macros.proofs.Places.{argument_by, at_place, at_past, at_index}
use Rattle.hs_macros.proofs.placing.argument_at.Goals as goal

-- the token names no parameter
pub returns-in_err-index : goal.returns-in_err-index
returns-in_err-index c names token is =
    ap (seen_argument names) c.from_residual.ensures
    ∙ sym (argument_by names token c.args.arguments.now c.args.place is ∙ ap (at_place names c.args.arguments.now) c.in_err-index.was)

-- no argument is at the place
pub returns-in_err-supplied : goal.returns-in_err-supplied
returns-in_err-supplied c names token is =
    ap (seen_argument names) c.from_residual-in_err-supplied.ensures
    ∙ sym (argument_by names token c.args.arguments.now c.args.place is
    ∙ ap (at_place names c.args.arguments.now) c.in_ok-index.was
    ∙ at_past names c.args.arguments.now c.in_ok-index.index c.in_err-supplied.ensures.lookup.3)

-- the argument at the place
pub returns : goal.returns
returns c names token is =
    let lookup = c.in_ok-supplied.ensures.lookup in
    ap (λ (tokens : List Pending). Some (done names tokens)) (c.as_slice.ensures.value ∙ ap (λ supplied. supplied.tokens.items) lookup.1)
    ∙ sym (argument_by names token c.args.arguments.now c.args.place is
    ∙ ap (at_place names c.args.arguments.now) c.in_ok-index.was
    ∙ at_index names c.args.arguments.now c.in_ok-index.index c.in_ok-supplied.supplied.now lookup.3.0)
