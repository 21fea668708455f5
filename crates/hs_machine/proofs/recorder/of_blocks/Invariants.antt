-- Those so far, and those of what is left, are those of all.
use Rattle.std.proofs.Common.{◌≡◌, ◌==◌, ◌++◌, not, drop, filter}
use Rattle.hs_machine.proofs.recorder.of_blocks.Given as goal

abbrev pub invariant-numbers : goal.invariant-numbers
invariant-numbers l = l.its.items ++ filter (λ number. not (number == 0)) (drop l.number-index l.numbers) ≡ filter (λ number. not (number == 0)) l.numbers
