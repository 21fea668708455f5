-- The limit of output, at the end of a run.
use Rattle.std.proofs.Common.{rules, ◌≡◌, ◌<◌, true, length}
use Rattle.std.specs.Option.{is_some}
use Rattle.hs_machine.proofs.Onwards.{floods_last, passes_output}
use Rattle.hs_machine.proofs.running.advance.Goals as goal
use Rattle.hs_machine.specs.Programs.{program_here}

pub returns-then-is_flooded-2-clause-advances : goal.returns-then-is_flooded-2-clause-advances
returns-then-is_flooded-2-clause-advances g c =
    λ waiting waits.
    let program = program_here c.args.loaded.now in
    let old = c.args.runner.now in
    let new = c.operate.new.runner in
    let script = c.args.recorder.now.decisions.items in
    let after = c.operate.new.recorder.decisions.items in
    let some : is_some c.in-Ok.came ≡ true = search rules in
    let much : 16777216 < length new.machine.output.items = search rules in
    passes_output program old new script after _ _ waiting c.passed-then-is_flooded-2.result c.passed-then-is_flooded-2.ensures.kind
    c.passed-then-is_flooded-2.ensures.reached
    (floods_last program old new script after _ _ waiting c.in-Ok.came some (c.in-Ok.ensures.advances waiting waits) much)
