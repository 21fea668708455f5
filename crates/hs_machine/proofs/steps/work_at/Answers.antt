-- An operation on the stack is the step of a run.
use Rattle.std.proofs.Common.{◌+◌, Err, refl, sym, subst, arith}
use Rattle.hs_machine.proofs.Performing.{performs, performs_not}
use Rattle.hs_machine.proofs.steps.work_at.Goals as goal
use Rattle.hs_machine.specs.Programs.{program_here}
use Rattle.hs_machine.specs.Standing.{StepsAs}
use Rattle.hs_machine.specs.declared.runner.End.{End}
use Rattle.hs_machine.specs.declared.runner.Runner.{Runner}

pub returns-in-Ok-clause-steps : goal.returns-in-Ok-clause-steps
returns-in-Ok-clause-steps c =
    let old = c.args.runner.now in
    let new : Runner = record old { machine = c.work.new.machine; stack = c.work.new.stack; next = record old.next { at = old.next.at + 1 } } in
    performs (program_here c.args.loaded.now) c.args.at c.args.op old new c.requires.works refl c.in-Ok.ensures.works c.in-Ok.ensures.keeps
    c.in-Ok.ensures.below refl (omega arith) refl

pub returns-in-Err-clause-steps : goal.returns-in-Err-clause-steps
returns-in-Err-clause-steps c =
    let old = c.args.runner.now in
    let new : Runner = record old { machine = c.work.new.machine; stack = c.work.new.stack } in
    subst (λ (e : End). StepsAs (program_here c.args.loaded.now) c.args.op c.args.at old new (Err e)) (sym c.end_at.ensures)
    (performs_not (program_here c.args.loaded.now) c.args.at c.args.op old new c.requires.works refl c.in-Err.why c.in-Err.ensures.works)
