-- The limit of a frame: the objects of the calls that have begun have at most 16777216 bytes.
use Rattle.std.proofs.Common.{◌≡◌, ℕ, ◌+◌, ◌<◌, pos, false, true, List, [], ◌∷◌, length, refl, arith}
use Rattle.std.proofs.lemmas.Bool.Decides.{nat_tests}
use Rattle.std.proofs.lemmas.List.{length-replicate}
use Rattle.std.specs.Prelude.{codes, nat_le, replicate}
use Rattle.hs_heap.specs.declared.cell.Cell.{Cell}
use Rattle.hs_heap.specs.declared.cell.Cell.TheVariants.{Undefined}
use Rattle.hs_meaning.proofs.Programs.Forms.{id, more_types}
use Rattle.hs_meaning.proofs.Programs.Row.{run, ◌comes_to◌}
use Rattle.hs_meaning.proofs.Programs.Terms.{char, num, return, function, variable, program_with, no_input, finished, stopped}
use Rattle.hs_meaning.specs.declared.outcome.Stop.TheVariants as stop
use Rattle.hs_tree.specs.Trees.{TypedProgram}
use Rattle.hs_types.specs.declared.row.Row.TheVariants as row

-- int main(void) { char a[m], b[n]; return 0; }
abbrev arrays : ℕ → ℕ → TypedProgram
arrays m n =
    program_with (more_types (row.Array char m (record { size = m; even = nat_le 2 m; characters = true })
    ∷ row.Array char n (record { size = n; even = nat_le 2 n; characters = true }) ∷ []) []) []
    (function (variable (codes "a") (id 12) ∷ variable (codes "b") (id 13) ∷ []) (return 6 (num 6 12 0) ∷ []) ∷ [])

-- so many cells without values
abbrev cells : ℕ → List Cell
cells n = replicate n Undefined

-- the bytes of two arrays are too many
too_many : (m n : ℕ) → 16777216 < m + n → nat_le (0 + (length (cells m) + (length (cells n) + 0))) 16777216 ≡ false
too_many m n over = rw (length-replicate m Undefined, length-replicate n Undefined) grind (arith, nat_tests, over)

-- two arrays that are together too large: the run stops at the `{` of `main`
arrays_stop : (m n : ℕ) → 16777216 < m + n → run (arrays m n) no_input [] 0 comes_to stopped [] stop.Frames 3 1
arrays_stop m n over = (grind (arith), rw (too_many m n over) refl)

-- and two small ones
small_arrays : run (arrays 5 7) no_input [] 0 comes_to finished [] (pos 0)
small_arrays = (grind (arith), refl)
