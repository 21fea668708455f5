-- A call that ends.
use Rattle.std.proofs.Common.{refl}
use Rattle.hs_machine.proofs.Returning.{Leaves, leaves_so}
use Rattle.hs_machine.proofs.calls.end_call.Goals as goal
use Rattle.hs_machine.specs.declared.runner.Runner.{Runner}

pub returns-in-Ok-clause-steps : goal.returns-in-Ok-clause-steps
returns-in-Ok-clause-steps c =
    λ program.
    let old = c.args.runner.now in
    let next = c.in-Some-pop.next in
    let new : Runner = record old { machine = c.close.new.machine; stack = c.push.new.self; next = next; returns = c.pop-2.new.self } in
    let leaves : Leaves old new c.pop.new.self c.close-2.new.self next c.in-Some.value c.close-2.result =
    record {
      popped_is = c.in-Some.ensures.top;
      below = c.pop.ensures.below;
      closes = c.close.ensures.closes;
      returns = c.in-Some-pop.ensures.items;
      stack = c.close-2.ensures;
      top = c.in-Ok.ensures.top;
      stacks = c.push.ensures.below;
      goes_there = refl;
      turns = refl;
    } in
    leaves_so program c.args.at old new c.pop.new.self c.close-2.new.self next c.in-Some.value c.close-2.result leaves
