-- The words of a line.
use Rattle.std.proofs.Common.{ℕ, List, ◌∷◌}
use Rattle.std.specs.Fmt.{decimal}

-- a blank and the number
abbrev pub word : ℕ → List ℕ
word vertex = 32 ∷ decimal vertex
