use Rattle.std.proofs.Common.{◌≡◌, [], ◌∷◌, ◌++◌, map, ap, sym, ◌∙◌, arith}
use Rattle.std.proofs.lemmas.List.{map-append}
use Rattle.std.proofs.lemmas.Result.{err_from_is_err_and}
use Rattle.hs_syntax.specs.Views.{view_item}
use Rattle.hs_decl_parser.specs.Steps.{item_at, items_at}
use Rattle.hs_expr_parser.specs.Laws.Fails.{fails_along}
use Rattle.hs_decl_parser.proofs.Stepping.{items_goes, items_fails}
use Rattle.hs_decl_parser.proofs.declarations.items.Goals as goal

-- one that fails
pub returns-in_err-it-clause-read : goal.returns-in_err-it-clause-read
returns-in_err-it-clause-read c =
    let exit = err_from_is_err_and c.from_residual-in_err-it.result c.from_residual-in_err-it.ensures.1 in
    rw (exit.1, exit.2) (fails_along c.in_err-it.field-0.0 (items_at c.args.known.now (view_item c.args.start ∷ []) c.args.tokens.now)
    (item_at c.args.known.now c.in-Some.next.now)
    (λ none. sym c.items.invariant.0
    ∙ items_fails c.args.known.now (map view_item c.items.its.items) c.items.rest.now c.in-Some.field-0-0 c.in-Some.next.now c.in-Some.ensures.read none)
    c.in_err-it.ensures.read)

-- one more
pub items-preserved : goal.items-preserved
items-preserved c =
    let items : map view_item c.push-in-Some.new.self.items ≡ map view_item c.items.its.items ++ view_item c.in_ok-it.it ∷ [] =
    ap (map view_item) c.in_ok-push-2.ensures.items ∙ map-append view_item c.items.its.items (c.in_ok-it.it ∷ []) in (
      ap (λ its. items_at c.args.known.now its c.in_ok-it.left.now) items
          ∙ sym (items_goes c.args.known.now (map view_item c.items.its.items) c.items.rest.now c.in-Some.field-0-0 c.in-Some.next.now
          (view_item c.in_ok-it.it) c.in_ok-it.left.now
          c.in-Some.ensures.read c.in_ok-it.ensures.read)
          ∙ c.items.invariant.0,
      omega (arith, c.in_ok-it.ensures.shorter, c.in-Some.ensures.shorter, c.items.invariant.1),
    )
