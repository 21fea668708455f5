use Rattle.std.proofs.Common.{◌≡◌, ◌≤◌, [], map, length}
use Rattle.hs_syntax.specs.Views.{view_declaration}
use Rattle.hs_decl_parser.specs.Steps.{declarations_at}
use Rattle.hs_decl_parser.proofs.declarations.declarations.Given as goal

-- what is left after the declarations so far
abbrev pub invariant-declarations : goal.invariant-declarations
invariant-declarations l =
    (declarations_at l.known (map view_declaration l.its.items) l.rest ≡ declarations_at l.known [] l.tokens) × (length l.rest ≤ length l.tokens)

abbrev pub decreases-declarations : goal.decreases-declarations
decreases-declarations l = length l.rest
