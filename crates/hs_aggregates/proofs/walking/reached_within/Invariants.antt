use Rattle.std.proofs.Common.{◌≡◌}
use Rattle.hs_aggregates.specs.Aggregates.{reached_within}
use Rattle.hs_aggregates.proofs.walking.reached_within.Given as goal

-- what is reached from the one inside is what is reached from all
abbrev pub invariant-inside : goal.invariant-inside
invariant-inside l = reached_within l.left l.types l.text l.inner l.begun ≡ reached_within l.fn.most l.types l.text l.fn.it l.fn.outer

abbrev pub decreases-inside : goal.decreases-inside
decreases-inside l = l.left
