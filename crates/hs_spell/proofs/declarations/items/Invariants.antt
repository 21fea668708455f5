use Rattle.std.proofs.Common.{◌≡◌, ◌+◌, ℕ, List, ◌++◌, map, drop, length}
use Rattle.hs_syntax.specs.Grammar.{items_form}
use Rattle.hs_spell.specs.Spelling.{token_of}
use Rattle.hs_syntax.specs.Views.{view_item}
use Rattle.hs_spell.proofs.declarations.items.Given as goal

-- Those that are left make what is to be written.
abbrev pub invariant-loop-it : goal.invariant-loop-it
invariant-loop-it l = (l.left + l.it-index ≡ length l.its) × ((known : List (List ℕ)) →
    l.tokens.items ++ map token_of (items_form known (map view_item (drop l.it-index l.its))).pieces
    ≡ l.fn.tokens.items ++ map token_of (items_form known (map view_item l.its)).pieces)
