-- The operation that takes a decision.
use Rattle.std.proofs.Common.{◌≡◌, slice_get, Some, sym}
use Rattle.hs_machine.proofs.Onwards.{shift_onward, shift_not}
use Rattle.hs_machine.proofs.running.operate.Goals as goal
use Rattle.hs_machine.specs.Programs.{program_here}

pub returns-in-Ok-clause-advances : goal.returns-in-Ok-clause-advances
returns-in-Ok-clause-advances g c =
    λ waiting waits.
    let old = c.args.runner.now in
    let placed = c.in-Some.placed.now in
    let there : slice_get old.next.code.now.ops old.next.at ≡ Some placed = sym c.in-Some.ensures.there in
    shift_onward (program_here c.args.loaded.now) old c.shift.new.runner c.args.recorder.now.decisions.items c.shift.new.recorder.decisions.items _ _ waiting
    placed c.in-Shift.place there c.in-Shift.is (c.in-Ok.ensures.shifts placed.at waiting waits)

pub returns-in-Err-clause-advances : goal.returns-in-Err-clause-advances
returns-in-Err-clause-advances g c =
    λ waiting waits.
    let old = c.args.runner.now in
    let placed = c.in-Some.placed.now in
    let there : slice_get old.next.code.now.ops old.next.at ≡ Some placed = sym c.in-Some.ensures.there in
    shift_not (program_here c.args.loaded.now) old c.shift.new.runner c.args.recorder.now.decisions.items c.shift.new.recorder.decisions.items _ _ waiting
    placed c.in-Shift.place there c.in-Shift.is c.in-Err.why (c.in-Err.ensures.shifts placed.at waiting waits)
