use Rattle.std.proofs.Common.{◌≡◌, [], length}
use Rattle.hs_ends.specs.Ends.{taken_fields}
use Rattle.hs_ends.proofs.ends.taken_fields.Given as goal

-- the addresses that are left come after those so far
abbrev pub invariant-rest : goal.invariant-rest
invariant-rest l = taken_fields l.same l.all l.rest ≡ taken_fields l.same [] l.fn.its

abbrev pub decreases-rest : goal.decreases-rest
decreases-rest l = length l.rest
