-- The answer of the comparison, as a number.
use Rattle.hs_meaning.specs.Numbers.{truth}
use Rattle.hs_meaning.specs.Pointers.{compare_stops, pointer_answer}
use Rattle.hs_meaning.specs.Stops.{first_stop}
use Rattle.hs_meaning.specs.Values.{number}
use Rattle.hs_state.specs.Machines.{machine_of}
use Rattle.hs_operations.proofs.Operating.{or_mapped, or_refused}
use Rattle.hs_operations.proofs.operators.pointers_compared.Goals as goal

pub returns-in-Ok : goal.returns-in-Ok
returns-in-Ok c =
    rw c.truth.ensures
    (or_mapped (λ answer. number (truth answer)) (first_stop (compare_stops c.args.operator c.args.a c.args.b (machine_of c.args.machine.now)))
    (pointer_answer c.args.operator c.args.a c.args.b) c.in-Ok.answer c.in-Ok.ensures)

pub returns-in-Err : goal.returns-in-Err
returns-in-Err c =
    or_refused (first_stop (compare_stops c.args.operator c.args.a c.args.b (machine_of c.args.machine.now)))
    (pointer_answer c.args.operator c.args.a c.args.b) _ c.in-Err.why c.in-Err.ensures
