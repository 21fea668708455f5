use Rattle.std.proofs.Common.{rules, ◌≡◌, [], Err, map, ap, sym, ◌∙◌}
use Rattle.std.proofs.lemmas.Result.{err_from_is_err_and}
use Rattle.hs_syntax.specs.Nesting.{IsShallow}
use Rattle.hs_syntax.specs.Views.{view_external}
use Rattle.hs_decl_parser.specs.declared.parse_error.ParseError.TheVariants.{Syntax}
use Rattle.hs_decl_parser.proofs.Exact.{unit_only, stuck_none}
use Rattle.hs_decl_parser.proofs.Failing.{same_error}
use Rattle.hs_decl_parser.proofs.units.unit.Goals as goal

-- they are no unit
pub returns-in_err-externals-clause-syntax : goal.returns-in_err-externals-clause-syntax
returns-in_err-externals-clause-syntax c = λ pos is.
    let exit = err_from_is_err_and c.from_residual.result c.from_residual.ensures.1 in
    let same : c.in_err-externals.field-0.0 ≡ Syntax pos = sym exit.2 ∙ same_error exit.0 (Syntax pos) (sym exit.1 ∙ is) in
    let shallow : IsShallow c.args.tokens.now = search rules in
    let stuck = c.in_err-externals.ensures.stuck pos (ap Err same) in
    (shallow, stuck, stuck_none c.args.tokens.now pos stuck)

-- no other tree has these tokens
pub returns-clause-only : goal.returns-clause-only
returns-clause-only c = λ other fits. unit_only [] other
    (map view_external c.in_ok-externals.externals.items) c.args.tokens.now fits c.in_ok-externals.ensures.found
