-- A store that stops gives nothing back.
use Rattle.hs_code_run.specs.Steps.{access_of}
use Rattle.hs_state.specs.Machines.{machine_of}
use Rattle.hs_operations.proofs.Operating.{store_stops}
use Rattle.hs_operations.proofs.operate.put.Goals as goal

pub returns-in-Err-clause-does : goal.returns-in-Err-clause-does
returns-in-Err-clause-does c =
    store_stops (access_of c.args.access) c.args.its c.args.value.now (machine_of c.args.machine.now) _ c.in-Err.why c.in-Err.ensures.does
