use Rattle.std.proofs.Common.{◌≡◌, map}
use Rattle.hs_heap.specs.declared.cell.Cell.TheVariants.{Byte}
use Rattle.hs_meaning.specs.Plain.{answers, bytes_of_words}
use Rattle.hs_plain.proofs.words.filling.Given as goal

-- the bytes of the words so far
abbrev pub invariant-words : goal.invariant-words
invariant-words l = l.cells.items ≡ map Byte (bytes_of_words (answers l.place l.words))
