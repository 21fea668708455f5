use Rattle.hs_effects.specs.Effecting.{HasNumber}
use Rattle.hs_effects.specs.Owning.{OwnsIn}
use Rattle.hs_effects.specs.Working.{Grows}
use Rattle.hs_effects.proofs.own_effects.put_effects.Given as goal

-- the effects of the operations so far
abbrev pub invariant-ops : goal.invariant-ops
invariant-ops l = Grows (OwnsIn (HasNumber l.routines l.restores) l.ops l.at l.function) l.fn.work l.work
