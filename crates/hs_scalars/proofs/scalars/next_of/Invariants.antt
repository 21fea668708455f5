use Rattle.std.proofs.Common.{◌≡◌}
use Rattle.hs_scalars.specs.Left.{left, weights}
use Rattle.hs_scalars.proofs.scalars.next_of.Given as goal

-- parts without scalars change nothing of what is left
abbrev pub invariant-parts : goal.invariant-parts
invariant-parts l = left l.types l.pending.items ≡ left l.types l.initial.pending.items

-- each part that is taken apart leaves less work
abbrev pub decreases-parts : goal.decreases-parts
decreases-parts l = weights l.types l.pending.items
