use Rattle.std.proofs.Common.{◌≡◌, ℕ, List, ◌++◌, map, drop}
use Rattle.hs_syntax.specs.Grammar.{statements_form}
use Rattle.hs_spell.specs.Spelling.{token_of}
use Rattle.hs_syntax.specs.StatementViews.{view_labelled, statements_from}
use Rattle.hs_spell.proofs.statements.+spell_statement.Given as goal

-- Those that are left make what is to be written.
abbrev pub invariant-statements-loop-it : goal.invariant-statements-loop-it
invariant-statements-loop-it l = (known : List (List ℕ)) →
    l.tokens.items ++ map token_of (statements_form known (statements_from (map view_labelled (drop l.it-index l.its)))).pieces
    ≡ l.fn.tokens.items ++ map token_of (statements_form known (statements_from (map view_labelled l.its))).pieces
