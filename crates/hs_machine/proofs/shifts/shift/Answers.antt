-- The step of a run that takes no decision.
use Rattle.std.proofs.Common.{◌+◌, refl, arith}
use Rattle.hs_machine.proofs.Deciding.{quietly}
use Rattle.hs_machine.proofs.shifts.shift.Goals as goal
use Rattle.hs_machine.specs.Programs.{program_here}
use Rattle.hs_machine.specs.declared.runner.Runner.{Runner}

pub returns-in_default-clause-shifts : goal.returns-in_default-clause-shifts
returns-in_default-clause-shifts g c =
    λ at waiting waits.
    let old = c.args.runner.now in
    let new : Runner = record old { next = record old.next { at = old.next.at + 1 } } in
    quietly (program_here c.args.loaded.now) at c.args.place old new waiting waits c.args.recorder.now.decisions.items _ c.in_default.ensures.deciding refl refl refl
    (omega arith) refl refl
