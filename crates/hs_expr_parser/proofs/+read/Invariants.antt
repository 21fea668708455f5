use Rattle.std.proofs.Common.{◌≡◌, ◌+◌, ◌*◌, ◌<◌, map, length}
use Rattle.hs_syntax.specs.RowViews.{view_left}
use Rattle.hs_syntax.specs.Views.{view}
use Rattle.hs_expr_parser.specs.Steps.{expression_at, commas_at, binary_at, climb_at, postfix_at, suffixes_at, some_arguments_at}
use Rattle.hs_expr_parser.proofs.Stepping.{arguments_on}
use Rattle.hs_expr_parser.proofs.+read.Given as goal

abbrev pub decreases-postfixes::primary : goal.decreases-postfixes::primary
decreases-postfixes::primary l = 16 * length l.tokens.now + 1

abbrev pub decreases-postfixes::next_suffix : goal.decreases-postfixes::next_suffix
decreases-postfixes::next_suffix l = 16 * length l.tokens.now + 1

abbrev pub decreases-postfixes::postfix : goal.decreases-postfixes::postfix
decreases-postfixes::postfix l = 16 * length l.tokens.now + 2

abbrev pub decreases-unaries::unary : goal.decreases-unaries::unary
decreases-unaries::unary l = 16 * length l.tokens.now + 3

abbrev pub decreases-unaries::type_in_parens : goal.decreases-unaries::type_in_parens
decreases-unaries::type_in_parens l = 16 * length l.tokens.now + 1

abbrev pub decreases-unaries::cast : goal.decreases-unaries::cast
decreases-unaries::cast l = 16 * length l.tokens.now + 4

abbrev pub decreases-expressions::infix : goal.decreases-expressions::infix
decreases-expressions::infix l = 16 * length l.tokens.now + 1

abbrev pub decreases-expressions::binary : goal.decreases-expressions::binary
decreases-expressions::binary l = 16 * length l.tokens.now + 5

abbrev pub decreases-expressions::branches : goal.decreases-expressions::branches
decreases-expressions::branches l = 16 * length l.tokens.now + 1

abbrev pub decreases-expressions::conditional : goal.decreases-expressions::conditional
decreases-expressions::conditional l = 16 * length l.tokens.now + 6

abbrev pub decreases-expressions::conditional_taken : goal.decreases-expressions::conditional_taken
decreases-expressions::conditional_taken l = 16 * length l.tokens.now + 7

abbrev pub decreases-unaries::type_in_parens-conditional : goal.decreases-unaries::type_in_parens-conditional
decreases-unaries::type_in_parens-conditional l = 16 * length l.inner.now + 8

abbrev pub decreases-expressions::value : goal.decreases-expressions::value
decreases-expressions::value l = 16 * length l.tokens.now + 1

abbrev pub decreases-expressions::assignment : goal.decreases-expressions::assignment
decreases-expressions::assignment l = 16 * length l.tokens.now + 7

abbrev pub decreases-expressions::another : goal.decreases-expressions::another
decreases-expressions::another l = 16 * length l.tokens.now + 1

abbrev pub decreases-expressions::expression : goal.decreases-expressions::expression
decreases-expressions::expression l = 16 * length l.tokens.now + 8

abbrev pub decreases-postfixes::parens : goal.decreases-postfixes::parens
decreases-postfixes::parens l = 16 * length l.rest.now + 9

abbrev pub decreases-postfixes::arguments : goal.decreases-postfixes::arguments
decreases-postfixes::arguments l = 16 * length l.tokens.now + 9

abbrev pub decreases-unaries::operand : goal.decreases-unaries::operand
decreases-unaries::operand l = 16 * length l.tokens.now + 9

abbrev pub decreases-unaries::sizeof_operand : goal.decreases-unaries::sizeof_operand
decreases-unaries::sizeof_operand l = 16 * length l.rest.now + 9

abbrev pub invariant-expressions::expression-commas : goal.invariant-expressions::expression-commas
invariant-expressions::expression-commas l =
    (commas_at l.known (map view_left l.lefts.items) (view l.right) l.rest ≡ expression_at l.known l.fn.tokens) × (length l.rest < length l.fn.tokens)

abbrev pub decreases-expressions::expression-commas : goal.decreases-expressions::expression-commas
decreases-expressions::expression-commas l = length l.rest

abbrev pub invariant-expressions::binary-operators : goal.invariant-expressions::binary-operators
invariant-expressions::binary-operators l = (climb_at l.known l.least l.most (view l.left) l.rest ≡ binary_at l.known l.least l.fn.tokens)
    × (length l.rest < length l.fn.tokens)

abbrev pub decreases-expressions::binary-operators : goal.decreases-expressions::binary-operators
decreases-expressions::binary-operators l = length l.rest

abbrev pub invariant-postfixes::postfix-suffixes : goal.invariant-postfixes::postfix-suffixes
invariant-postfixes::postfix-suffixes l = (suffixes_at l.known (view l.base) l.rest ≡ postfix_at l.known l.fn.tokens) × (length l.rest < length l.fn.tokens)

abbrev pub decreases-postfixes::postfix-suffixes : goal.decreases-postfixes::postfix-suffixes
decreases-postfixes::postfix-suffixes l = length l.rest

abbrev pub invariant-postfixes::arguments-arguments : goal.invariant-postfixes::arguments-arguments
invariant-postfixes::arguments-arguments l = (arguments_on l.known (map view l.its.items) l.rest ≡ some_arguments_at l.known l.fn.tokens)
    × (length l.rest < length l.fn.tokens)

abbrev pub decreases-postfixes::arguments-arguments : goal.decreases-postfixes::arguments-arguments
decreases-postfixes::arguments-arguments l = length l.rest
