-- The flag says it of the steps that were looked at.
use Rattle.std.proofs.Common.{◌≡◌, reverse, take}
use Rattle.hs_meaning.specs.Straight.StaleUses.{is_locked_after}
use Rattle.hs_checker.proofs.straight.stale_uses.is_locked.Given as goal

abbrev pub invariant-loop-step : goal.invariant-loop-step
invariant-loop-step l = l.is_locked ≡ is_locked_after l.handle (reverse (take l.step-index l.done))
