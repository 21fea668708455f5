-- The cells that a value is stored as.
--     cells_in parcel     the cells
use Rattle.std.specs.Prelude.{List, take}
use Rattle.hs_heap.specs.declared.cell.Cell.{Cell}
use Rattle.hs_values.specs.declared.parcel.Parcel.{Parcel}
use Rattle.hs_values.specs.declared.parcel.Parcel.TheVariants as parcel

-- of a number or a pointer so many of four, of a struct all of them
abbrev pub cells_in : Parcel → List Cell
cells_in (parcel.Few cells count) = take count cells
cells_in (parcel.Many cells) = cells.now
