use Rattle.std.proofs.Common.{◌≡◌, List, length, take, drop, ap, sym, ◌∙◌}
use Rattle.std.specs.Prelude.{◌-◌}
use Rattle.hs_tokens.specs.declared.token.SourceToken.{SourceToken}
use Rattle.std.proofs.lemmas.Result.{err_from_is_err_and}
use Rattle.hs_syntax.specs.Views.{view}
use Rattle.hs_expr_parser.specs.Steps.{expression_at}
use Rattle.hs_expr_parser.specs.declared.parse_end.ParseEnd.TheVariants.{NotExpr}
use Rattle.hs_expr_parser.specs.Laws.Fails.{fails_none}
use Rattle.hs_expr_parser.proofs.Numbered.{slice_is, found_from, longest_from, only_from, none_from}
use Rattle.hs_expr_parser.proofs.longest.expr.Goals as goal

-- none starts there
pub returns-in_err-e-clause-none : goal.returns-in_err-e-clause-none
returns-in_err-e-clause-none c = λ is n other fits.
    let exit = err_from_is_err_and c.from_residual.result c.from_residual.ensures.1 in
    let one = exit.1 in
    let two = exit.2 in
    let what : c.in_err-e.field-0.0 ≡ NotExpr = cc in
    let tail : List SourceToken = take (length c.args.tokens.now - c.args.at) (drop c.args.at c.args.tokens.now) in
    none_from c.args.typedefs.now (drop c.args.at c.args.tokens.now)
    (sym (ap (expression_at c.args.typedefs.now) (slice_is c.args.tokens.now c.args.at))
    ∙ fails_none c.in_err-e.field-0.0 (expression_at c.args.typedefs.now tail) what c.in_err-e.ensures.read) n other fits

pub returns-clause-found : goal.returns-clause-found
returns-clause-found c =
    found_from c.args.typedefs.now c.args.tokens.now c.args.at (view c.in_ok-e.e) c.in_ok-e.rest.now c.requires.0
    (sym (ap (expression_at c.args.typedefs.now) (slice_is c.args.tokens.now c.args.at)) ∙ c.in_ok-e.ensures.read)

pub returns-clause-longest : goal.returns-clause-longest
returns-clause-longest c = λ n other longer most fits.
    longest_from c.args.typedefs.now c.args.tokens.now c.args.at (view c.in_ok-e.e) c.in_ok-e.rest.now c.requires.0
    (sym (ap (expression_at c.args.typedefs.now) (slice_is c.args.tokens.now c.args.at)) ∙ c.in_ok-e.ensures.read) n other longer most fits

pub returns-clause-only : goal.returns-clause-only
returns-clause-only c = λ other fits.
    let found = found_from c.args.typedefs.now c.args.tokens.now c.args.at (view c.in_ok-e.e) c.in_ok-e.rest.now c.requires.0
    (sym (ap (expression_at c.args.typedefs.now) (slice_is c.args.tokens.now c.args.at)) ∙ c.in_ok-e.ensures.read) in
    only_from c.args.typedefs.now c.args.tokens.now c.args.at _ (view c.in_ok-e.e) other found.2 fits
