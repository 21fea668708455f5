use Rattle.std.proofs.Common.{◌≡◌, reverse, vec_len}
use Rattle.hs_constants.specs.Reading.{settled}
use Rattle.hs_constants.proofs.waiting.settled.Given as goal

-- what is left comes to what all comes to
abbrev pub invariant-waiting : goal.invariant-waiting
invariant-waiting l = settled l.precedence (reverse l.waiting.items) l.value ≡ settled l.precedence (reverse l.initial.waiting.items) l.initial.value

abbrev pub decreases-waiting : goal.decreases-waiting
decreases-waiting l = vec_len l.waiting
