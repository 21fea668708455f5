use Rattle.std.proofs.Common.{◌≡◌, ◌++◌, map, drop}
use Rattle.hs_syntax.specs.Parts.{literals}
use Rattle.hs_spell.specs.Spelling.{token_of}
use Rattle.hs_spell.proofs.pieces.literals.Given as goal

-- the literals that are left make what is to be written
abbrev pub invariant-loop-literal : goal.invariant-loop-literal
invariant-loop-literal l =
    l.tokens.items ++ map token_of (literals (drop l.literal-index l.words)).pieces ≡ l.fn.tokens.items ++ map token_of (literals l.words).pieces
