-- A call that begins.
use Rattle.std.proofs.Common.{suc, ◌∷◌, Ok, reverse, slice_get, sym, ap, ◌∙◌, subst}
use Rattle.hs_code_run.specs.Steps.{taken}
use Rattle.hs_machine.proofs.Entering.{Enters, enters_so}
use Rattle.hs_machine.proofs.Looking.{given_is}
use Rattle.hs_machine.proofs.calls.call.Goals as goal
use Rattle.hs_machine.specs.Programs.{function_of, program_here}
use Rattle.hs_meaning.specs.Frames.{opened}
use Rattle.hs_state.specs.Machines.{Does, machine_of}
use Rattle.hs_state.specs.declared.machine.Machine.{Machine}

pub returns-in-Ok-go_to-clause-steps : goal.returns-in-Ok-go_to-clause-steps
returns-in-Ok-go_to-clause-steps c =
    let old = c.args.runner.now in
    let new = c.go_to.new.runner in
    let program = program_here c.args.loaded.now in
    let its = function_of c.in-Some.callee in
    let enters : Enters program c.args.place its old new c.enter.new.stack.top =
    record {
      there = given_is (slice_get program.functions c.args.place) c.in-Some.callee c.in-Some.ensures;
      turn = c.in_ok-take_turn.ensures ∙ ap suc (sym c.go_to.ensures.turns);
      does =
          subst (λ (m : Machine). Does
          (opened program.setting its.parameters its.variables (taken its.parameters (reverse old.stack.top)) (machine_of old.machine))
          (machine_of m) (Ok tt)) (sym c.go_to.ensures.machine) c.in-Ok.ensures.does;
      callers = ap (λ (m : Machine). m.locals.below) c.go_to.ensures.machine ∙ c.in-Ok.ensures.callers;
      next = c.in-Ok-go_to.ensures.next;
      returns = c.in-Ok-go_to.ensures.returns;
      stack = c.in-Ok-go_to.ensures.stack.top;
      stacks = c.in-Ok-go_to.ensures.stack.below ∙ ap (λ l. c.enter.new.stack.top ∷ l) c.enter.ensures.below;
      left = c.in-Ok.ensures.top;
    } in
    enters_so program c.args.at c.args.place its old new c.enter.new.stack.top enters
