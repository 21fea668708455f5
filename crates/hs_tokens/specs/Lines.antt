-- Translation phases 1 and 2 (X3.159-1989 2.1.1.2): the bytes of a text with their places, one LF for each line's end,
-- and no splices. A line ends at LF, CR or CR LF (own). Lines and byte columns count from 1.
--     placed_from at text         each byte and its place; a line's end is one LF
--     unspliced bytes             without each backslash that an LF follows directly, and that LF
--     logical file text           both
--     is_itself byte              whatever stands beside it, both leave the byte as it is
use Rattle.std.specs.Prelude.{ℕ, ◌==◌, Bool, true, false, not, ◌&&◌, ◌||◌, List, [], ◌∷◌, if◌then◌else◌}
use Rattle.hs_base.specs.Text.{ends_line, next_place}
use Rattle.hs_base.specs.declared.pos.Pos.{Pos}

-- a byte of a text, and its place
pub record Placed : Type 0 where
  pub byte : ℕ
  pub pos : Pos

-- A line's end is one LF: the CR of a CR LF is left out.
abbrev pub placed_from : Pos → List ℕ → List Placed
placed_from at [] = []
placed_from at (byte ∷ rest) =
    if ends_line byte rest then (record { byte = 10; pos = at } ∷ placed_from (next_place at byte rest) rest)
    else if byte == 13 then placed_from (next_place at byte rest) rest
    else (record { byte = byte; pos = at } ∷ placed_from (next_place at byte rest) rest)

-- a line's end stands first
abbrev pub begins_with_end : List Placed → Bool
begins_with_end [] = false
begins_with_end (placed ∷ rest) = placed.byte == 10

-- `skip` says that the first byte is the line's end of a splice
abbrev pub unspliced_after : Bool → List Placed → List Placed
unspliced_after skip [] = []
unspliced_after true (placed ∷ rest) = unspliced_after false rest
unspliced_after false (placed ∷ rest) =
    if (placed.byte == 92) && begins_with_end rest then unspliced_after true rest else (placed ∷ unspliced_after false rest)

-- phase 2: no splices
abbrev pub unspliced : List Placed → List Placed
unspliced bytes = unspliced_after false bytes

-- phases 1 and 2 of a whole text, which begins at line 1, column 1
abbrev pub logical : ℕ → List ℕ → List Placed
logical file text = unspliced (placed_from (record { file = file; line = 1; col = 1 }) text)

-- it belongs to no splice and to no line's end
abbrev pub is_itself : ℕ → Bool
is_itself byte = not ((byte == 92) || (byte == 10) || (byte == 13))
