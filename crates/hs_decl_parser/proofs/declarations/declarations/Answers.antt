use Rattle.std.proofs.Common.{rules, ◌≡◌, true, false, [], ◌∷◌, ◌++◌, map, ap, sym, ◌∙◌, arith}
use Rattle.std.proofs.lemmas.List.{map-append}
use Rattle.std.proofs.lemmas.Result.{err_from_is_err_and}
use Rattle.hs_syntax.specs.Views.{view_declaration}
use Rattle.hs_expr_parser.specs.Ahead.{is_ahead, begins_specifier}
use Rattle.hs_decl_parser.specs.Steps.{declaration_at, declarations_at}
use Rattle.hs_expr_parser.specs.Laws.Fails.{fails_along}
use Rattle.hs_decl_parser.proofs.Stepping.{declarations_goes, declarations_fails}
use Rattle.hs_decl_parser.proofs.declarations.declarations.Goals as goal

-- one that fails
pub returns-in_err-it-clause-read : goal.returns-in_err-it-clause-read
returns-in_err-it-clause-read c =
    let exit = err_from_is_err_and c.from_residual.result c.from_residual.ensures.1 in
    let begins : is_ahead (begins_specifier c.args.known.now false) c.declarations.rest.now ≡ true = search rules in
    rw (exit.1, exit.2) (fails_along c.in_err-it.field-0.0 (declarations_at c.args.known.now [] c.args.tokens.now)
    (declaration_at c.args.known.now c.declarations.rest.now)
    (λ none. sym c.declarations.invariant.0
    ∙ declarations_fails c.args.known.now (map view_declaration c.declarations.its.items) c.declarations.rest.now begins none)
    c.in_err-it.ensures.read)

-- one more
pub declarations-preserved : goal.declarations-preserved
declarations-preserved c =
    let begins : is_ahead (begins_specifier c.args.known.now false) c.declarations.rest.now ≡ true = search rules in
    let items : map view_declaration c.push.new.self.items ≡ map view_declaration c.declarations.its.items ++ view_declaration c.in_ok-it.it ∷ [] =
    ap (map view_declaration) c.in_ok-push.ensures.items ∙ map-append view_declaration c.declarations.its.items (c.in_ok-it.it ∷ []) in (
      ap (λ its. declarations_at c.args.known.now its c.in_ok-it.left.now) items
          ∙ sym (declarations_goes c.args.known.now (map view_declaration c.declarations.its.items) c.declarations.rest.now
          (view_declaration c.in_ok-it.it) c.in_ok-it.left.now
          begins c.in_ok-it.ensures.read)
          ∙ c.declarations.invariant.0,
      omega (arith, c.in_ok-it.ensures.shorter, c.declarations.invariant.1),
    )
