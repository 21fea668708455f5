-- The scratch of a checker: one signed number for each vertex.
--     flagged scratch    the set of the vertices whose number is not 0
use Rattle.std.specs.Prelude.{ℤ, pos, not, List, slice_index_or}
use Rattle.std.specs.Ordering.{int_eq}
use Rattle.hs_cut.specs.Networks.{Side}

-- the vertices whose number is not 0
abbrev pub flagged : List ℤ → Side
flagged scratch vertex = not (int_eq (slice_index_or scratch vertex (pos 0)) (pos 0))
