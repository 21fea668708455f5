use Rattle.std.proofs.Common.{◌≡◌, suc, true, [], ◌∷◌, ◌++◌, length, map, ap, sym, ◌∙◌, arith}
use Rattle.std.proofs.lemmas.List.{map-append}
use Rattle.std.proofs.lemmas.Result.{err_from_is_err_and}
use Rattle.hs_syntax.specs.Views.{view_label}
use Rattle.hs_decl_parser.specs.Steps.{label_at, labels_at}
use Rattle.hs_decl_parser.specs.Words.{begins_label}
use Rattle.hs_expr_parser.specs.Laws.Fails.{fails_along}
use Rattle.hs_decl_parser.proofs.Stepping.{labels_goes, labels_fails}
use Rattle.hs_decl_parser.proofs.labels.labels.Goals as goal

-- one that fails
pub returns-in_err-it-clause-read : goal.returns-in_err-it-clause-read
returns-in_err-it-clause-read c =
    let exit = err_from_is_err_and c.from_residual.result c.from_residual.ensures.1 in
    let begins : begins_label c.in-Some.source.now ≡ true = sym c.begins_label.ensures ∙ c.if-begins_label.true in
    rw (exit.1, exit.2) (fails_along c.in_err-it.field-0.0 (labels_at c.args.known.now [] c.args.tokens.now)
    (label_at c.args.known.now c.in-Some.source.now c.in-Some.behind.now)
    (λ none. sym c.labels.invariant.0 ∙ ap (labels_at c.args.known.now (map view_label c.labels.its.items)) c.in-Some.ensures.found
    ∙ labels_fails c.args.known.now (map view_label c.labels.its.items) c.in-Some.source.now c.in-Some.behind.now begins none)
    c.in_err-it.ensures.read)

-- one more
pub labels-preserved : goal.labels-preserved
labels-preserved c =
    let begins : begins_label c.in-Some.source.now ≡ true = sym c.begins_label.ensures ∙ c.if-begins_label.true in
    let items : map view_label c.push.new.self.items ≡ map view_label c.labels.its.items ++ view_label c.in_ok-it.it ∷ [] =
    ap (map view_label) c.in_ok-push.ensures.items ∙ map-append view_label c.labels.its.items (c.in_ok-it.it ∷ []) in
    let shorter : length c.labels.rest.now ≡ suc (length c.in-Some.behind.now) = ap length c.in-Some.ensures.found in (
      ap (λ its. labels_at c.args.known.now its c.in_ok-it.left.now) items
          ∙ sym (labels_goes c.args.known.now (map view_label c.labels.its.items) c.in-Some.source.now c.in-Some.behind.now
          (view_label c.in_ok-it.it) c.in_ok-it.left.now
          begins c.in_ok-it.ensures.read)
          ∙ sym (ap (labels_at c.args.known.now (map view_label c.labels.its.items)) c.in-Some.ensures.found)
          ∙ c.labels.invariant.0,
      omega (arith, c.in_ok-it.ensures.shorter, shorter, c.labels.invariant.1),
    )
