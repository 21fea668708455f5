use Rattle.std.proofs.Common.{◌≡◌, ℕ, ◌<◌, List, ◌∷◌, ◌++◌, length}
use Rattle.std.specs.List.{All, flat_map}
use Rattle.hs_cert.proofs.Words.{word}
use Rattle.hs_cert.proofs.Spelled.{WordsLeft}
use Rattle.hs_cert.proofs.reader.read_words.Given as goal

abbrev pub invariant-words : goal.invariant-words
invariant-words l = (inside rest : List ℕ) → All (λ vertex. vertex < l.limit) inside → l.text ≡ flat_map word inside ++ 10 ∷ rest
    → WordsLeft l.limit inside rest l.vertices.items l.rest

abbrev pub decreases-words : goal.decreases-words
decreases-words l = length l.rest
