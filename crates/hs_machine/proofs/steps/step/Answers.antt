-- The operation that is next is the one in the code.
use Rattle.hs_machine.proofs.Moving.{next_is}
use Rattle.hs_machine.proofs.steps.step.Goals as goal
use Rattle.hs_machine.specs.Programs.{program_here}

pub returns-clause-steps : goal.returns-clause-steps
returns-clause-steps c =
    next_is (program_here c.args.loaded.now) c.args.runner.now c.act.new.runner c.act.result c.args.placed.now c.requires.next c.act.ensures.steps
