use Rattle.std.proofs.Common.{rules, ◌≡◌, false, [], ◌∷◌, ◌++◌, map, ap, sym, ◌∙◌, arith}
use Rattle.std.specs.Prelude.{codes}
use Rattle.std.proofs.lemmas.List.{map-append}
use Rattle.std.proofs.lemmas.Result.{err_from_is_err_and}
use Rattle.hs_syntax.specs.StatementViews.{view_labelled}
use Rattle.hs_expr_parser.specs.Ahead.{is_mark_ahead}
use Rattle.hs_decl_parser.specs.Steps.{labelled_at, statements_at}
use Rattle.hs_expr_parser.specs.Laws.Fails.{fails_along}
use Rattle.hs_decl_parser.proofs.Stepping.{statements_goes, statements_fails}
use Rattle.hs_decl_parser.proofs.statements.+statement.Goals as goal

-- one that fails
pub statements-returns-in_err-it-clause-read : goal.statements-returns-in_err-it-clause-read
statements-returns-in_err-it-clause-read t c =
    let exit = err_from_is_err_and c.from_residual.result c.from_residual.ensures.1 in
    let ahead : is_mark_ahead (codes "}") c.statements.rest.now ≡ false = search rules in
    rw (exit.1, exit.2) (fails_along c.in_err-it.field-0.0 (statements_at c.args.known.now [] c.args.tokens.now)
    (labelled_at c.args.known.now c.statements.rest.now)
    (λ none. sym c.statements.invariant.0
    ∙ statements_fails c.args.known.now (map view_labelled c.statements.its.items) c.statements.rest.now ahead none)
    c.in_err-it.ensures.read)

-- one more
pub statements-statements-preserved : goal.statements-statements-preserved
statements-statements-preserved t c =
    let ahead : is_mark_ahead (codes "}") c.statements.rest.now ≡ false = search rules in
    let items : map view_labelled c.push.new.self.items ≡ map view_labelled c.statements.its.items ++ view_labelled c.in_ok-it.it ∷ [] =
    ap (map view_labelled) c.in_ok-push.ensures.items ∙ map-append view_labelled c.statements.its.items (c.in_ok-it.it ∷ []) in (
      ap (λ its. statements_at c.args.known.now its c.in_ok-it.left.now) items
          ∙ sym (statements_goes c.args.known.now (map view_labelled c.statements.its.items) c.statements.rest.now
          (view_labelled c.in_ok-it.it) c.in_ok-it.left.now
          ahead c.in_ok-it.ensures.read)
          ∙ c.statements.invariant.0,
      omega (arith, c.in_ok-it.ensures.shorter, c.statements.invariant.1),
    )
