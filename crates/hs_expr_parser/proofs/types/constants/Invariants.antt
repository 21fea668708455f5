use Rattle.std.proofs.Common.{◌≡◌, ◌<◌, [], map, length}
use Rattle.hs_syntax.specs.RowViews.{view_constant}
use Rattle.hs_expr_parser.specs.Steps.{constants_at}
use Rattle.hs_expr_parser.proofs.Stepping.{constants_on}
use Rattle.hs_expr_parser.proofs.types.constants.Given as goal

abbrev pub invariant-constants : goal.invariant-constants
invariant-constants g l = (constants_on l.known (map view_constant l.its.items) l.rest ≡ constants_at l.known [] l.fn.tokens)
    × (length l.rest < length l.fn.tokens)

abbrev pub decreases-constants : goal.decreases-constants
decreases-constants g l = length l.rest
