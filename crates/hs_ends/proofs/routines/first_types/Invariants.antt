use Rattle.std.proofs.Common.{◌≡◌, length}
use Rattle.hs_ends.specs.Ends.{first_types, no_types}
use Rattle.hs_ends.proofs.routines.first_types.Given as goal

-- the calls that are left come after those so far
abbrev pub invariant-rest : goal.invariant-rest
invariant-rest l = first_types l.all.items l.rest ≡ first_types (no_types l.fn.routines) l.fn.its

abbrev pub decreases-rest : goal.decreases-rest
decreases-rest l = length l.rest
