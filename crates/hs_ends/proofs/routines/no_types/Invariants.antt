use Rattle.std.proofs.Common.{◌≡◌, length}
use Rattle.std.proofs.Common.{◌++◌}
use Rattle.hs_ends.specs.Ends.{no_types}
use Rattle.hs_ends.proofs.routines.no_types.Given as goal

-- one for each routine that is left
abbrev pub invariant-rest : goal.invariant-rest
invariant-rest l = l.all.items ++ no_types l.rest ≡ no_types l.fn.its

abbrev pub decreases-rest : goal.decreases-rest
decreases-rest l = length l.rest
