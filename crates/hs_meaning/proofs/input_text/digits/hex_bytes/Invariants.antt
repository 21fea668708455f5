use Rattle.std.proofs.Common.{◌≡◌, ◌++◌, length}
use Rattle.std.specs.Prelude.{option_map}
use Rattle.hs_meaning.specs.InputTexts.{hex_bytes}
use Rattle.hs_meaning.proofs.input_text.digits.hex_bytes.Given as goal

abbrev pub invariant-pairs : goal.invariant-pairs
invariant-pairs l = option_map (λ more. l.bytes.items ++ more) (hex_bytes l.rest) ≡ hex_bytes l.text

abbrev pub decreases-pairs : goal.decreases-pairs
decreases-pairs l = length l.rest
