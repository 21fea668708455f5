use Rattle.std.proofs.Common.{◌≡◌, drop, Some}
use Rattle.hs_typer.specs.Primaries.{joined_words}
use Rattle.hs_expressions.proofs.primaries.joined_words.Given as goal

-- the literals that are left come after the bytes so far
abbrev pub invariant-words : goal.invariant-words
invariant-words l = joined_words (Some l.bytes.items) (drop l.word-index l.words) ≡ joined_words (Some l.fn.front) l.words
