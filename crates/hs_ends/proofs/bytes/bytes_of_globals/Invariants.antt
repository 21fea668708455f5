use Rattle.std.proofs.Common.{◌≡◌, ◌≤◌, ◌+◌, length}
use Rattle.hs_ends.specs.Ends.{bytes_of_globals}
use Rattle.hs_ends.proofs.bytes.bytes_of_globals.Given as goal

-- the bytes so far, with those of the objects that are left, are all, and do not pass the limit
abbrev pub invariant-rest : goal.invariant-rest
invariant-rest l = (l.total + bytes_of_globals l.rest ≡ bytes_of_globals l.fn.its) × (l.total ≤ 16777216)

abbrev pub decreases-rest : goal.decreases-rest
decreases-rest l = length l.rest
