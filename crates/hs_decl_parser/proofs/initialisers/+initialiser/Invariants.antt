use Rattle.std.proofs.Common.{◌≡◌, ◌+◌, ◌*◌, ◌<◌, [], map, length}
use Rattle.hs_syntax.specs.Views.{view_initialiser}
use Rattle.hs_decl_parser.specs.Steps.{initialisers_at}
use Rattle.hs_decl_parser.proofs.Stepping.{initialisers_on}
use Rattle.hs_decl_parser.proofs.initialisers.+initialiser.Given as goal

abbrev pub decreases-initialiser : goal.decreases-initialiser
decreases-initialiser l = 4 * length l.tokens.now + 1

abbrev pub decreases-braces : goal.decreases-braces
decreases-braces l = 4 * length l.rest.now + 3

abbrev pub decreases-initialisers : goal.decreases-initialisers
decreases-initialisers l = 4 * length l.tokens.now + 2

-- what is left after the values so far
abbrev pub invariant-initialisers-initialisers : goal.invariant-initialisers-initialisers
invariant-initialisers-initialisers l =
    (initialisers_on l.known (map view_initialiser l.values.items) l.rest ≡ initialisers_at l.known [] l.fn.tokens) × (length l.rest < length l.fn.tokens)

abbrev pub decreases-initialisers-initialisers : goal.decreases-initialisers-initialisers
decreases-initialisers-initialisers l = length l.rest
