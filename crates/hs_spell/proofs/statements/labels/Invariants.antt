use Rattle.std.proofs.Common.{◌≡◌, ℕ, List, ◌++◌, map, drop}
use Rattle.hs_syntax.specs.Grammar.{labels_form}
use Rattle.hs_spell.specs.Spelling.{token_of}
use Rattle.hs_syntax.specs.Views.{view_label}
use Rattle.hs_spell.proofs.statements.labels.Given as goal

-- Those that are left make what is to be written.
abbrev pub invariant-loop-it : goal.invariant-loop-it
invariant-loop-it l = (known : List (List ℕ)) →
    l.tokens.items ++ map token_of (labels_form known (map view_label (drop l.it-index l.its))).pieces
    ≡ l.fn.tokens.items ++ map token_of (labels_form known (map view_label l.its)).pieces
