use Rattle.hs_effects.specs.Owning.{Assigned, OwnsIn}
use Rattle.hs_effects.specs.Working.{Grows}
use Rattle.hs_effects.proofs.own.put_assigned.Given as goal

-- the globals of the operations so far
abbrev pub invariant-ops : goal.invariant-ops
invariant-ops l = Grows (OwnsIn Assigned l.ops l.its-index l.function) l.fn.work l.work
