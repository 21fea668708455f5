use Rattle.std.proofs.Common.{◌≡◌, ◌≤◌, true, take}
use Rattle.std.specs.Str.Parse.{digits_value}
use Rattle.hs_checker.specs.Straight.Reading.{is_numeral}
use Rattle.hs_checker.proofs.straight.numbers.numeral.Given as goal

abbrev pub invariant-loop-digit : goal.invariant-loop-digit
invariant-loop-digit l = record {
  form : is_numeral l.text ≡ true;
  value : l.value ≡ digits_value 10 (take l.digit-index l.text);
  low : l.value ≤ l.most;
}
