use Rattle.std.proofs.Common.{◌≡◌, ◌+◌, ℕ, List, ◌++◌, map, drop, length}
use Rattle.hs_syntax.specs.Grammar.{initialisers_form}
use Rattle.hs_spell.specs.Spelling.{token_of}
use Rattle.hs_syntax.specs.StatementViews.{initialisers_from}
use Rattle.hs_syntax.specs.Views.{view_initialiser}
use Rattle.hs_spell.proofs.declarations.+spell_initialiser.Given as goal

-- Those that are left make what is to be written.
abbrev pub invariant-initialisers-loop-it : goal.invariant-initialisers-loop-it
invariant-initialisers-loop-it l = (l.left + l.it-index ≡ length l.its) × ((known : List (List ℕ)) →
    l.tokens.items ++ map token_of (initialisers_form known (initialisers_from (map view_initialiser (drop l.it-index l.its)))).pieces
    ≡ l.fn.tokens.items ++ map token_of (initialisers_form known (initialisers_from (map view_initialiser l.its))).pieces)
