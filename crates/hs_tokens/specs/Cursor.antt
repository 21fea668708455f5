-- Where the scanner stands: phases 1 and 2 (X3.159-1989 2.1.1.2) of what follows a place.
--     ahead_of pos rest left      so many bytes with their places, of a physical text after a place
--     HasRoom pos rest left       lines and columns fit their types to the end of the text
use Rattle.std.specs.Prelude.{ℕ, ◌+◌, ◌≤◌, List, length, take}
use Rattle.hs_base.specs.declared.pos.Pos.{Pos}
use Rattle.hs_tokens.specs.Lines.{Placed, placed_from, unspliced}

-- the bytes of the text after the place, phases 1 and 2 done, and no more than `left`
unfoldable pub ahead_of : Pos → List ℕ → ℕ → List Placed
ahead_of pos rest left = take left (unspliced (placed_from pos rest))

-- 4194304 is the most bytes that a text has
abbrev pub HasRoom : Pos → List ℕ → ℕ → Type 0
HasRoom pos rest left = (pos.line + length rest ≤ 4194305) × (pos.col + length rest ≤ 4194305) × (left ≤ 4194304)
