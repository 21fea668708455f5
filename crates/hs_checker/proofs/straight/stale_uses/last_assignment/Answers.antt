-- One step more.
use Rattle.std.proofs.Common.{sym, ◌∙◌}
use Rattle.hs_checker.proofs.Staleness.{IsLastBefore-found, IsLastBefore-other}
use Rattle.hs_checker.proofs.straight.stale_uses.last_assignment.Goals as goal
use Rattle.hs_checker.proofs.straight.stale_uses.last_assignment.Goals.{then-assigns, else-assigns}

pub loop-place-preserved : goal.loop-place-preserved
loop-place-preserved c =
    elim c.if-assigns.branch [
      | then-assigns w ↦
          rw w.last-is
          (IsLastBefore-found c.args.variable c.args.done.now c.loop-place.place _ c.loop-place-test.true
          (sym c.assigns.ensures ∙ w.if-assigns.true))
      | else-assigns w ↦
          rw w.last-is
          (IsLastBefore-other c.args.variable c.args.done.now c.loop-place.place _ c.loop-place.last c.loop-place-test.true
          (sym c.assigns.ensures ∙ w.if-assigns.false) c.loop-place.invariant)
    ]
