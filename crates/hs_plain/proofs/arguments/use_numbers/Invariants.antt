use Rattle.std.proofs.Common.{◌≡◌, drop, map}
use Rattle.hs_meaning.specs.Plain.{byte_stop}
use Rattle.hs_values.specs.Answers.{or_first}
use Rattle.hs_plain.proofs.arguments.use_numbers.Given as goal

-- what is left decides
abbrev pub invariant-values : goal.invariant-values
invariant-values l = or_first (map byte_stop l.values) (tt {0}) ≡ or_first (map byte_stop (drop l.value-index l.values)) (tt {0})
