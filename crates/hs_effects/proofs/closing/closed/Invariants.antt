use Rattle.hs_effects.proofs.HandingOn.{Closing}
use Rattle.hs_effects.specs.Working.{left}
use Rattle.hs_effects.proofs.closing.closed.Given as goal

-- what is not handed on waits
abbrev pub invariant-pairs : goal.invariant-pairs
invariant-pairs l = Closing l.callers l.fn.work l.work

abbrev pub decreases-pairs : goal.decreases-pairs
decreases-pairs l = left l.work
