-- The set has the numbers so far.
use Rattle.std.proofs.Common.{◌≡◌, ◌==◌, ℕ, nat_eq, take}
use Rattle.std.specs.HashSet.{contains}
use Rattle.std.specs.List.{list_any}
use Rattle.hs_state.proofs.refusals.Refusals.of.Given as goal

abbrev pub invariant-numbers : goal.invariant-numbers
invariant-numbers l = (number : ℕ) → contains nat_eq l.known number ≡ list_any (λ one. one == number) (take l.number-index l.numbers)
