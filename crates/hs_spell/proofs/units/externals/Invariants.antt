use Rattle.std.proofs.Common.{◌≡◌, ℕ, List, ◌++◌, map, drop}
use Rattle.hs_syntax.specs.Grammar.{unit_form}
use Rattle.hs_spell.specs.Spelling.{token_of}
use Rattle.hs_syntax.specs.Views.{view_external}
use Rattle.hs_spell.proofs.units.externals.Given as goal

-- Those that are left make what is to be written, if more typedef names are known.
abbrev pub invariant-loop-it : goal.invariant-loop-it
invariant-loop-it l = (known : List (List ℕ)) → (later : List (List ℕ)) × (
    l.tokens.items ++ map token_of (unit_form later (map view_external (drop l.it-index l.its))).pieces
    ≡ l.fn.tokens.items ++ map token_of (unit_form known (map view_external l.its)).pieces)
