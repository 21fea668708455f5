-- What each operation does is what its function does.
use Rattle.hs_machine.proofs.steps.act.Goals as goal
use Rattle.hs_machine.specs.Programs.{program_here}

pub returns-in-Zero-clause-steps : goal.returns-in-Zero-clause-steps
returns-in-Zero-clause-steps c = rw c.in-Zero.is (c.zero.ensures.steps (program_here c.args.loaded.now))

pub returns-in-Choose-clause-steps : goal.returns-in-Choose-clause-steps
returns-in-Choose-clause-steps c = rw c.in-Choose.is (c.choose.ensures.steps (program_here c.args.loaded.now))

pub returns-in-Return-clause-steps : goal.returns-in-Return-clause-steps
returns-in-Return-clause-steps c = rw c.in-Return.is (c.end_call.ensures.steps (program_here c.args.loaded.now))

pub returns-in-Turn-clause-steps : goal.returns-in-Turn-clause-steps
returns-in-Turn-clause-steps c = rw c.in-Turn.is (c.turn.ensures.steps (program_here c.args.loaded.now))
