use Rattle.std.proofs.Common.{◌≡◌, ◌≤◌, drop}
use Rattle.hs_meaning.specs.InputTexts.{value_after}
use Rattle.hs_movers.proofs.script_text.numbers.value_in.Given as goal

abbrev pub invariant-digits : goal.invariant-digits
invariant-digits l = record {
  small : l.value ≤ l.most;
  read : value_after l.value (drop l.byte-index l.text) ≡ value_after 0 l.text;
}
