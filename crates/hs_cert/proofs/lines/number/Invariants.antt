use Rattle.std.proofs.Common.{◌≡◌, ◌≤◌, length}
use Rattle.hs_cert.specs.Reading.{number_at}
use Rattle.hs_cert.proofs.lines.number.Given as goal

abbrev pub invariant-digits : goal.invariant-digits
invariant-digits l = (number_at l.most l.value l.rest ≡ number_at l.most 0 l.text) × (l.value ≤ l.most)

abbrev pub decreases-digits : goal.decreases-digits
decreases-digits l = length l.rest
