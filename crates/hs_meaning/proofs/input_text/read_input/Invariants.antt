use Rattle.std.proofs.Common.{◌≡◌, ◌+◌, drop, length}
use Rattle.hs_meaning.specs.InputTexts.{lines, read_from, reading}
use Rattle.hs_meaning.proofs.input_text.read_input.Given as goal

abbrev pub invariant-lines : goal.invariant-lines
invariant-lines l = record {
  number : l.number ≡ length l.yielded;
  read : read_from (l.number + 1) l.gathered (drop (length l.yielded) (lines l.text)) ≡ reading l.text;
}
