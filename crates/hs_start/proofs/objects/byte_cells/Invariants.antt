use Rattle.std.proofs.Common.{◌≡◌, map, take}
use Rattle.hs_heap.specs.declared.cell.Cell.TheVariants.{Byte}
use Rattle.hs_start.proofs.objects.byte_cells.Given as goal

-- the bytes that are done
abbrev pub invariant-bytes : goal.invariant-bytes
invariant-bytes l = l.cells.items ≡ map Byte (take l.byte-index l.bytes)
