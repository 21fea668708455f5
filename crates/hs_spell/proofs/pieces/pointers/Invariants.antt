use Rattle.std.proofs.Common.{◌≡◌, ◌++◌, map, drop}
use Rattle.hs_syntax.specs.Parts.{pointers_form}
use Rattle.hs_spell.specs.Spelling.{token_of}
use Rattle.hs_spell.proofs.pieces.pointers.Given as goal

-- the pointers that are left make what is to be written
abbrev pub invariant-loop-it : goal.invariant-loop-it
invariant-loop-it l =
    l.tokens.items ++ map token_of (pointers_form (drop l.it-index l.its)).pieces ≡ l.fn.tokens.items ++ map token_of (pointers_form l.its).pieces
