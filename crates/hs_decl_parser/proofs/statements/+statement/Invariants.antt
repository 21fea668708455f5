use Rattle.std.proofs.Common.{◌≡◌, ◌+◌, ◌*◌, ◌≤◌, [], map, length}
use Rattle.hs_syntax.specs.StatementViews.{view_labelled}
use Rattle.hs_decl_parser.specs.Steps.{statements_at}
use Rattle.hs_decl_parser.proofs.statements.+statement.Given as goal

abbrev pub decreases-statement : goal.decreases-statement
decreases-statement l = 8 * length l.tokens.now + 1

abbrev pub decreases-if_statement : goal.decreases-if_statement
decreases-if_statement l = 8 * length l.rest.now + 5

abbrev pub decreases-with_else : goal.decreases-with_else
decreases-with_else l = 8 * length l.rest.now + 4

abbrev pub decreases-boxed_statement : goal.decreases-boxed_statement
decreases-boxed_statement l = 8 * length l.tokens.now + 2

abbrev pub decreases-while_statement : goal.decreases-while_statement
decreases-while_statement l = 8 * length l.rest.now + 5

abbrev pub decreases-do_statement : goal.decreases-do_statement
decreases-do_statement l = 8 * length l.rest.now + 5

abbrev pub decreases-for_statement : goal.decreases-for_statement
decreases-for_statement l = 8 * length l.rest.now + 5

abbrev pub decreases-switch_statement : goal.decreases-switch_statement
decreases-switch_statement l = 8 * length l.rest.now + 5

abbrev pub decreases-block : goal.decreases-block
decreases-block l = 8 * length l.tokens.now

abbrev pub decreases-inner : goal.decreases-inner
decreases-inner l = 8 * length l.rest.now + 4

abbrev pub decreases-labelled : goal.decreases-labelled
decreases-labelled l = 8 * length l.tokens.now + 2

abbrev pub decreases-statements : goal.decreases-statements
decreases-statements l = 8 * length l.tokens.now + 3

-- what is left after the statements so far
abbrev pub invariant-statements-statements : goal.invariant-statements-statements
invariant-statements-statements l =
    (statements_at l.known (map view_labelled l.its.items) l.rest ≡ statements_at l.known [] l.fn.tokens) × (length l.rest ≤ length l.fn.tokens)

abbrev pub decreases-statements-statements : goal.decreases-statements-statements
decreases-statements-statements l = length l.rest
