-- The cells of the value are written, unless it is not stored so.
use Rattle.std.proofs.Common.{Ok, sym, ◌∙◌, ap, refl, arith}
use Rattle.hs_code_run.specs.Steps.{access_of}
use Rattle.hs_state.specs.Machines.{machine_of}
use Rattle.hs_state.proofs.Loading.{not_stored, stored_cells}
use Rattle.hs_state.proofs.machine.Machine.put.Goals as goal

pub returns-else-cells-length_of-clause-does : goal.returns-else-cells-length_of-clause-does
returns-else-cells-length_of-clause-does c =
    rw (stored_cells (access_of c.args.access) c.args.its c.args.value.now (machine_of c.args.self.now) c.cells-cells.result.now
    (sym c.in-Ok.ensures ∙ ap Ok (sym c.cells-cells.ensures)) (omega arith)) c.write.ensures.does

pub returns-in-Err-clause-does : goal.returns-in-Err-clause-does
returns-in-Err-clause-does c =
    rw (not_stored (access_of c.args.access) c.args.its c.args.value.now (machine_of c.args.self.now) c.in-Err.why (sym c.in-Err.ensures)) (refl, refl)
