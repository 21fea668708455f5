use Rattle.std.proofs.Common.{◌≡◌, ◌+◌, ◌*◌, ◌<◌, ◌≤◌, [], map, length}
use Rattle.hs_syntax.specs.RowViews.{view_member, view_parameter}
use Rattle.hs_syntax.specs.Views.{view_specifier, view_declarator, view_direct}
use Rattle.hs_expr_parser.specs.Steps.{specifiers_at, some_specifiers_at, members_at, declarators_at, directs_at, parameters_at}
use Rattle.hs_expr_parser.proofs.Stepping.{members_on, declarators_on, parameters_on}
use Rattle.hs_expr_parser.proofs.+types.Given as goal

abbrev pub decreases-types::struct_specifier : goal.decreases-types::struct_specifier
decreases-types::struct_specifier g l = 16 * length l.rest.now + 1

abbrev pub decreases-types::specifier : goal.decreases-types::specifier
decreases-types::specifier g l = 16 * length l.rest.now + 2

abbrev pub decreases-types::specifiers : goal.decreases-types::specifiers
decreases-types::specifiers g l = 16 * length l.tokens.now + 1

abbrev pub decreases-types::member : goal.decreases-types::member
decreases-types::member g l = 16 * length l.tokens.now + 2

abbrev pub decreases-types::members : goal.decreases-types::members
decreases-types::members g l = 16 * length l.tokens.now + 3

abbrev pub decreases-declarators::base : goal.decreases-declarators::base
decreases-declarators::base g l = 16 * length l.tokens.now + 1

abbrev pub decreases-declarators::directs : goal.decreases-declarators::directs
decreases-declarators::directs g l = 16 * length l.tokens.now + 1

abbrev pub decreases-declarators::declarator : goal.decreases-declarators::declarator
decreases-declarators::declarator g l = 16 * length l.tokens.now + 2

abbrev pub decreases-declarators::inside : goal.decreases-declarators::inside
decreases-declarators::inside g l = 16 * length l.rest.now + 3

abbrev pub decreases-declarators::declarators : goal.decreases-declarators::declarators
decreases-declarators::declarators g l = 16 * length l.tokens.now + 3

abbrev pub decreases-declarators::parameter : goal.decreases-declarators::parameter
decreases-declarators::parameter g l = 16 * length l.tokens.now + 2

abbrev pub decreases-declarators::parameters : goal.decreases-declarators::parameters
decreases-declarators::parameters g l = 16 * length l.tokens.now + 3

abbrev pub decreases-declarators::parameter_list : goal.decreases-declarators::parameter_list
decreases-declarators::parameter_list g l = 16 * length l.rest.now + 4

abbrev pub invariant-types::specifiers-specifiers : goal.invariant-types::specifiers-specifiers
invariant-types::specifiers-specifiers g l =
    (specifiers_at l.known l.typed (map view_specifier l.its.items) l.rest ≡ some_specifiers_at l.known l.fn.tokens) × (length l.rest < length l.fn.tokens)

abbrev pub decreases-types::specifiers-specifiers : goal.decreases-types::specifiers-specifiers
decreases-types::specifiers-specifiers g l = length l.rest

abbrev pub invariant-types::members-members : goal.invariant-types::members-members
invariant-types::members-members g l = (members_on l.known (map view_member l.its.items) l.rest ≡ members_at l.known [] l.fn.tokens)
    × (length l.rest < length l.fn.tokens)

abbrev pub decreases-types::members-members : goal.decreases-types::members-members
decreases-types::members-members g l = length l.rest

abbrev pub invariant-declarators::declarators-declarators : goal.invariant-declarators::declarators-declarators
invariant-declarators::declarators-declarators g l =
    (declarators_on l.known (map view_declarator l.its.items) l.rest ≡ declarators_at l.known [] l.fn.tokens) × (length l.rest ≤ length l.fn.tokens)

abbrev pub decreases-declarators::declarators-declarators : goal.decreases-declarators::declarators-declarators
decreases-declarators::declarators-declarators g l = length l.rest

abbrev pub invariant-declarators::parameters-parameters : goal.invariant-declarators::parameters-parameters
invariant-declarators::parameters-parameters g l =
    (parameters_on l.known (map view_parameter l.its.items) l.rest ≡ parameters_at l.known [] l.fn.tokens) × (length l.rest < length l.fn.tokens)

abbrev pub decreases-declarators::parameters-parameters : goal.decreases-declarators::parameters-parameters
decreases-declarators::parameters-parameters g l = length l.rest

abbrev pub invariant-declarators::directs-directs : goal.invariant-declarators::directs-directs
invariant-declarators::directs-directs g l = (directs_at l.known (view_direct l.direct) l.rest ≡ directs_at l.known (view_direct l.fn.base) l.fn.tokens)
    × (length l.rest ≤ length l.fn.tokens)

abbrev pub decreases-declarators::directs-directs : goal.decreases-declarators::directs-directs
decreases-declarators::directs-directs g l = length l.rest
