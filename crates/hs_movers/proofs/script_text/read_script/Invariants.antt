use Rattle.std.proofs.Common.{◌≡◌, ◌+◌, drop, length}
use Rattle.hs_meaning.specs.InputTexts.{lines}
use Rattle.hs_movers.specs.ScriptTexts.{read_from, reading}
use Rattle.hs_movers.proofs.script_text.read_script.Given as goal

abbrev pub invariant-lines : goal.invariant-lines
invariant-lines l = record {
  number : l.number ≡ length l.yielded;
  read : read_from (l.number + 1) l.gathered (drop (length l.yielded) (lines l.text)) ≡ reading l.text;
}
