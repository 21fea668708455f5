use Rattle.std.proofs.Common.{◌≡◌, [], length}
use Rattle.hs_ends.specs.Ends.{bound_routines}
use Rattle.hs_ends.proofs.routines.bound_routines.Given as goal

-- the routines that are left come after those so far
abbrev pub invariant-rest : goal.invariant-rest
invariant-rest l = bound_routines l.types l.done.items l.rest l.left ≡ bound_routines l.types [] l.fn.its l.fn.ids

abbrev pub decreases-rest : goal.decreases-rest
decreases-rest l = length l.rest
