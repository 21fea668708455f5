-- Counts of misses and faults, which the objects of the outside keep. Own to this project.
--     HasRisen before now     the count rose, or stood at the end of its type
--     IsSteady before now     the count did not rise, and did not stand there
--     raised count            the count after it rose by one
use Rattle.std.specs.Prelude.{◌≡◌, ℕ, ◌+◌, ◌-◌, ◌^◌, ◌<◌, min}

-- A count that rises by one. It stands still at the end of its type.
abbrev pub raised : ℕ → ℕ
raised count = min (count + 1) (2 ^ 64 - 1)

-- A count that stands at the end of its type can rise no more, and counts as risen.
abbrev pub HasRisen : ℕ → ℕ → Type 0
HasRisen before now = before < 2 ^ 64 - 1 → before < now

-- The count did not rise: it stays where it was, below the end of its type.
abbrev pub IsSteady : ℕ → ℕ → Type 0
IsSteady before now = (before < 2 ^ 64 - 1) × (now ≡ before)
