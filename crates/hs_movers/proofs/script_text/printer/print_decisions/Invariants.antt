use Rattle.std.proofs.Common.{◌≡◌, ◌+◌, ◌++◌, drop, take}
use Rattle.hs_movers.specs.ScriptRanges.{AllInRange}
use Rattle.hs_movers.specs.ScriptTexts.{decision_lines}
use Rattle.hs_movers.proofs.script_text.printer.print_decisions.Given as goal

abbrev pub invariant-loop-index : goal.invariant-loop-index
invariant-loop-index l = record {
  text : l.text.items ++ decision_lines (l.index + 1) (drop l.index l.decisions) ≡ l.fn.text.items ++ decision_lines 1 l.decisions;
  small : AllInRange (take l.index l.decisions);
}
