use Rattle.std.proofs.Common.{◌≡◌, [], ◌∷◌, ◌++◌, map, ap, sym, ◌∙◌, arith}
use Rattle.std.proofs.lemmas.List.{map-append}
use Rattle.std.proofs.lemmas.Result.{err_from_is_err_and}
use Rattle.hs_syntax.specs.Views.{view_initialiser}
use Rattle.hs_decl_parser.specs.Steps.{initialiser_at, initialisers_at}
use Rattle.hs_expr_parser.specs.Laws.Fails.{fails_along}
use Rattle.hs_decl_parser.proofs.Stepping.{initialisers_on, initialisers_goes, initialisers_fails}
use Rattle.hs_decl_parser.proofs.initialisers.+initialiser.Goals as goal

-- one that fails
pub initialisers-returns-in_err-it-clause-read : goal.initialisers-returns-in_err-it-clause-read
initialisers-returns-in_err-it-clause-read t c =
    let exit = err_from_is_err_and c.from_residual-in_err-it.result c.from_residual-in_err-it.ensures.1 in
    rw (exit.1, exit.2) (fails_along c.in_err-it.field-0.0 (initialisers_at c.args.known.now [] c.args.tokens.now)
    (initialiser_at c.args.known.now c.in-Some.next.now)
    (λ none. sym c.initialisers.invariant.0
    ∙ initialisers_fails c.args.known.now
    (map view_initialiser c.initialisers.values.items) c.initialisers.rest.now c.in-Some.field-0-0 c.in-Some.next.now c.in-Some.ensures.read
    (sym c.is_mark_ahead.ensures ∙ c.if-is_mark_ahead.false) none)
    c.in_err-it.ensures.read)

-- one more
pub initialisers-initialisers-preserved : goal.initialisers-initialisers-preserved
initialisers-initialisers-preserved t c =
    let items : map view_initialiser c.push-in-Some.new.self.items ≡ map view_initialiser c.initialisers.values.items ++ view_initialiser c.in_ok-it.it ∷ [] =
    ap (map view_initialiser) c.in_ok-push-2.ensures.items ∙ map-append view_initialiser c.initialisers.values.items (c.in_ok-it.it ∷ []) in (
      ap (λ its. initialisers_on c.args.known.now its c.in_ok-it.left.now) items
          ∙ sym (initialisers_goes c.args.known.now
          (map view_initialiser c.initialisers.values.items) c.initialisers.rest.now c.in-Some.field-0-0 c.in-Some.next.now
          (view_initialiser c.in_ok-it.it) c.in_ok-it.left.now c.in-Some.ensures.read
          (sym c.is_mark_ahead.ensures ∙ c.if-is_mark_ahead.false) c.in_ok-it.ensures.read)
          ∙ c.initialisers.invariant.0,
      omega (arith, c.in_ok-it.ensures.shorter, c.in-Some.ensures.shorter, c.initialisers.invariant.1),
    )
