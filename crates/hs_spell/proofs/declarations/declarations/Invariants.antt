use Rattle.std.proofs.Common.{◌≡◌, ℕ, List, ◌++◌, map, drop}
use Rattle.hs_syntax.specs.Grammar.{declarations_form}
use Rattle.hs_spell.specs.Spelling.{token_of}
use Rattle.hs_syntax.specs.Views.{view_declaration}
use Rattle.hs_spell.proofs.declarations.declarations.Given as goal

-- Those that are left make what is to be written.
abbrev pub invariant-loop-it : goal.invariant-loop-it
invariant-loop-it l = (known : List (List ℕ)) →
    l.tokens.items ++ map token_of (declarations_form known (map view_declaration (drop l.it-index l.its))).pieces
    ≡ l.fn.tokens.items ++ map token_of (declarations_form known (map view_declaration l.its)).pieces
