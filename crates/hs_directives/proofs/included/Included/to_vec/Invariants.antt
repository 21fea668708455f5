use Rattle.std.proofs.Common.{◌≡◌, ◌++◌}
use Rattle.hs_directives.proofs.included.Included.to_vec.Given as goal

-- those skipped, and those ahead
abbrev pub invariant-numbers : goal.invariant-numbers
invariant-numbers l = l.numbers.items ++ l.number-iterator ≡ l.fn.self
