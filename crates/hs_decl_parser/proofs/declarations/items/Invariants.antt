use Rattle.std.proofs.Common.{◌≡◌, ◌≤◌, [], ◌∷◌, map, length}
use Rattle.hs_syntax.specs.Views.{view_item}
use Rattle.hs_decl_parser.specs.Steps.{items_at}
use Rattle.hs_decl_parser.proofs.declarations.items.Given as goal

-- what is left after the declarators so far
abbrev pub invariant-items : goal.invariant-items
invariant-items l =
    (items_at l.known (map view_item l.its.items) l.rest ≡ items_at l.known (view_item l.fn.start ∷ []) l.tokens) × (length l.rest ≤ length l.tokens)

abbrev pub decreases-items : goal.decreases-items
decreases-items l = length l.rest
