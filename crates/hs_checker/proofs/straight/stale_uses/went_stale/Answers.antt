-- One step more of `since`, by `IsKnown-step`.
use Rattle.hs_checker.proofs.Staleness.{IsKnown-derive, IsKnown-step, stale_at_end}
use Rattle.hs_checker.proofs.straight.stale_uses.went_stale.Goals as goal

pub loop-step-init : goal.loop-step-init
loop-step-init c pointer pos before is_taken none = rw c.is_locked-is_locked.ensures (IsKnown-derive c.args.handle pointer pos before c.args.taken.now is_taken)

pub loop-step-preserved : goal.loop-step-preserved
loop-step-preserved c pointer pos before is_taken none =
    rw (c.is_same_then-is_same.ensures, c.is_stale_then-is_stale.ensures, c.is_locked_then-is_locked.ensures)
    (IsKnown-step c.args.handle pointer c.args.taken.now c.args.since.now c.loop-step.step-index _ c.loop-step.is_same c.loop-step.is_stale
    c.loop-step.is_locked c.loop-step-test.true none (c.loop-step.invariant pointer pos before is_taken))

pub returns : goal.returns
returns c pointer pos before is_taken none =
    stale_at_end c.args.handle pointer c.args.taken.now c.args.since.now c.loop-step.step-index c.loop-step.is_same c.loop-step.is_stale c.loop-step.is_locked
    c.loop-step-test.false none (c.loop-step.invariant pointer pos before is_taken)
