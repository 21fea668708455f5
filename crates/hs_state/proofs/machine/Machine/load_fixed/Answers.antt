-- The cells that are lent are those that the pointer reaches.
use Rattle.std.proofs.Common.{sym}
use Rattle.std.proofs.lemmas.Int.{to_z-of_z}
use Rattle.hs_code_run.specs.Steps.{access_of}
use Rattle.hs_heap.specs.declared.cell.Pointer.TheVariants.{Fixed}
use Rattle.hs_state.specs.Machines.{machine_of}
use Rattle.hs_state.proofs.Loading.{lent}
use Rattle.hs_state.proofs.machine.Machine.load_fixed.Goals as goal

pub returns-in-Ok : goal.returns-in-Ok
returns-in-Ok c =
    let given = rw c.length_of.ensures at c.in-Ok.ensures in
    let lends = simp (to_z-of_z, c.ranges.offset) at given in
    lent (access_of c.args.access) (Fixed c.args.object c.args.offset) (machine_of c.args.self.now) c.in-Ok.cells.now c.loaded.result (sym lends)
    c.loaded.ensures
