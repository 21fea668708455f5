use Rattle.std.proofs.Common.{◌≡◌, ◌≤◌, ◌+◌, length}
use Rattle.hs_ends.specs.Ends.{bytes_of_literals}
use Rattle.hs_ends.proofs.bytes.bytes_with_literals.Given as goal

-- the bytes so far, with those of the strings that are left, are all, and do not pass the limit
abbrev pub invariant-rest : goal.invariant-rest
invariant-rest l =
    (l.total + bytes_of_literals l.rest ≡ l.fn.start + bytes_of_literals l.fn.its) × (l.fn.start ≤ 16777216 → l.total ≤ 16777216)

abbrev pub decreases-rest : goal.decreases-rest
decreases-rest l = length l.rest
