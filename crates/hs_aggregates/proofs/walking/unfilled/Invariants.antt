use Rattle.std.proofs.Common.{◌≡◌, length}
use Rattle.hs_aggregates.specs.Aggregates.{unfilled}
use Rattle.hs_aggregates.proofs.walking.unfilled.Given as goal

-- those that are left have the same ones that are not full
abbrev pub invariant-full : goal.invariant-full
invariant-full l = unfilled l.types l.outer ≡ unfilled l.types l.fn.begun

abbrev pub decreases-full : goal.decreases-full
decreases-full l = length l.outer
