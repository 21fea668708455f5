use Rattle.std.proofs.Common.{rules, ◌≡◌, [], map, ◌∷◌, ◌++◌, ap, sym, ◌∙◌, arith}
use Rattle.std.proofs.lemmas.List.{map-append}
use Rattle.std.proofs.lemmas.Result.{err_from_is_err_and}
use Rattle.hs_syntax.specs.RowViews.{one_left, view_left}
use Rattle.hs_syntax.specs.Operators.{precedence_of}
use Rattle.hs_syntax.specs.Trees as tree
use Rattle.hs_syntax.specs.Views.{view}
use Rattle.hs_syntax.specs.declared.expr.Left.{Left}
use Rattle.hs_expr_parser.specs.Steps.{assignment_at, some_arguments_at, commas_at, climb_at, suffixes_at, unary_at, operand_of}
use Rattle.hs_expr_parser.specs.Laws.Fails.{fails_along}
use Rattle.hs_expr_parser.proofs.Stepping.{arguments_on, arguments_goes, arguments_fails, commas_more, climb_more, suffixes_more, unary_prefix_none, unary_prefix_some}
use Rattle.hs_expr_parser.specs.Ahead.{prefix_of}
use Rattle.hs_expr_parser.specs.Suffixes.{applied}
use Rattle.std.specs.Prelude.{Some}
use Rattle.hs_expr_parser.proofs.+read.Goals as goal

-- one that fails
pub postfixes::arguments-returns-in_err-it-clause-read : goal.postfixes::arguments-returns-in_err-it-clause-read
postfixes::arguments-returns-in_err-it-clause-read t c =
    let exit = err_from_is_err_and c.from_residual-in_err-it.result c.from_residual-in_err-it.ensures.1 in
    rw (exit.1, exit.2) (fails_along c.in_err-it.field-0.0 (some_arguments_at c.args.known.now c.args.tokens.now)
    (assignment_at c.args.known.now c.in-Some.next.now)
    (λ none. sym c.arguments.invariant.0 ∙ arguments_fails c.args.known.now
    (map view c.arguments.its.items) c.arguments.rest.now c.in-Some.field-0-0 c.in-Some.next.now c.in-Some.ensures.read none)
    c.in_err-it.ensures.read)

-- one more
pub postfixes::arguments-arguments-preserved : goal.postfixes::arguments-arguments-preserved
postfixes::arguments-arguments-preserved t c =
    let items : map view c.push-in-Some.new.self.items ≡ map view c.arguments.its.items ++ view c.in_ok-it.it ∷ [] =
    ap (map view) c.in_ok-push-2.ensures.items ∙ map-append view c.arguments.its.items (c.in_ok-it.it ∷ []) in (
      ap (λ its. arguments_on c.args.known.now its c.in_ok-it.left.now) items
          ∙ sym (arguments_goes c.args.known.now (map view c.arguments.its.items) c.arguments.rest.now c.in-Some.field-0-0 c.in-Some.next.now
          (view c.in_ok-it.it) c.in_ok-it.left.now
          c.in-Some.ensures.read c.in_ok-it.ensures.read)
          ∙ c.arguments.invariant.0,
      omega (arith, c.in_ok-it.ensures.shorter, c.in-Some.ensures.shorter, c.arguments.invariant.1),
    )

-- the operand fails
pub unaries::unary-returns-in_err-operand-clause-read : goal.unaries::unary-returns-in_err-operand-clause-read
unaries::unary-returns-in_err-operand-clause-read t c =
    let exit = err_from_is_err_and c.from_residual.result c.from_residual.ensures.1 in
    let is : prefix_of c.in-Some.source.now ≡ Some c.in-Some-prefix_of.operator = search rules in
    rw (exit.1, exit.2) (fails_along c.in_err-operand.field-0.0 (unary_at c.args.known.now c.args.tokens.now)
    (operand_of c.args.known.now c.in-Some-prefix_of.operator c.in-Some.behind.now)
    (λ none. ap (unary_at c.args.known.now) c.in-Some.ensures.found
    ∙ unary_prefix_none c.args.known.now c.in-Some.source.now c.in-Some.behind.now c.in-Some-prefix_of.operator is none)
    c.in_err-operand.ensures.read)

-- an operator and its operand
pub unaries::unary-returns-in-Some-prefix_of-clause-read : goal.unaries::unary-returns-in-Some-prefix_of-clause-read
unaries::unary-returns-in-Some-prefix_of-clause-read t c =
    let is : prefix_of c.in-Some.source.now ≡ Some c.in-Some-prefix_of.operator = search rules in
    ap (unary_at c.args.known.now) c.in-Some.ensures.found
    ∙ unary_prefix_some c.args.known.now c.in-Some.source.now c.in-Some.behind.now c.in-Some-prefix_of.operator
    (view c.in_ok-operand.operand) c.in_ok-operand.rest.now
    is c.in_ok-operand.ensures.read
    ∙ ap (λ at. Some (tree.prefix c.in-Some-prefix_of.operator at (view c.in_ok-operand.operand), c.in_ok-operand.rest.now)) (sym c.place_of.ensures)
    ∙ ap (λ e. Some (tree.prefix c.in-Some-prefix_of.operator c.place_of.result (view e), c.in_ok-operand.rest.now)) (sym c.in_ok-new.ensures.ok)

-- one more comma
pub expressions::expression-commas-preserved : goal.expressions::expression-commas-preserved
expressions::expression-commas-preserved t c =
    let pushed : Left = record { operand = c.commas.right; at = c.in-Ok.it.at } in
    let items : map view_left c.push.new.self.items ≡ map view_left c.commas.lefts.items ++ one_left (view c.commas.right) c.in-Ok.it.at ∷ [] =
    ap (map view_left) c.in_ok-push-in-Ok.ensures.items ∙ map-append view_left c.commas.lefts.items (pushed ∷ []) in (
      ap (λ its. commas_at c.args.known.now its (view c.in-Ok.it.right) c.in-Ok.left.now) items
          ∙ sym (commas_more c.args.known.now (map view_left c.commas.lefts.items) (view c.commas.right) c.commas.rest.now c.in-Ok.it.at
          (view c.in-Ok.it.right) c.in-Ok.left.now
          c.in-Ok.ensures.read)
          ∙ c.commas.invariant.0,
      omega (arith, c.in-Ok.ensures.shorter, c.commas.invariant.1),
    )

-- one more operator
pub expressions::binary-operators-preserved : goal.expressions::binary-operators-preserved
expressions::binary-operators-preserved t c = (
  ap (λ precedence. climb_at c.args.known.now c.args.least precedence
      (tree.binary (view c.in_ok-new-in-Ok.field-0.value) c.in-Ok.it.operator c.in-Ok.it.at
      (view c.in_ok-new-in-Ok-2.field-0.value)) c.in-Ok.next.now) c.precedence-most.ensures
      ∙ ap (λ e. climb_at c.args.known.now c.args.least (precedence_of c.in-Ok.it.operator)
      (tree.binary (view e) c.in-Ok.it.operator c.in-Ok.it.at (view c.in_ok-new-in-Ok-2.field-0.value)) c.in-Ok.next.now) c.in_ok-new-in-Ok.ensures.ok
      ∙ ap (λ e. climb_at c.args.known.now c.args.least (precedence_of c.in-Ok.it.operator)
      (tree.binary (view c.operators.left) c.in-Ok.it.operator c.in-Ok.it.at (view e)) c.in-Ok.next.now) c.in_ok-new-in-Ok-2.ensures.ok
      ∙ sym (climb_more c.args.known.now c.args.least c.operators.most (view c.operators.left) c.operators.rest.now
      (record { operator = c.in-Ok.it.operator; at = c.in-Ok.it.at; right = view c.in-Ok.it.right }) c.in-Ok.next.now c.in-Ok.ensures.read)
      ∙ c.operators.invariant.0,
  omega (arith, c.in-Ok.ensures.shorter, c.operators.invariant.1),
)

-- one more suffix
pub postfixes::postfix-suffixes-preserved : goal.postfixes::postfix-suffixes-preserved
postfixes::postfix-suffixes-preserved t c = (
  ap (λ e. suffixes_at c.args.known.now e c.in-Ok.left.now) c.in_ok-base-in-Ok.ensures
      ∙ sym (suffixes_more c.args.known.now (view c.suffixes.base) c.suffixes.rest.now (applied c.in-Ok.it (view c.suffixes.base)) c.in-Ok.left.now
      (c.in-Ok.ensures.read (view c.suffixes.base)))
      ∙ c.suffixes.invariant.0,
  omega (arith, c.in-Ok.ensures.shorter, c.suffixes.invariant.1),
)
