-- The cells that are lent hold the number.
use Rattle.std.proofs.Common.{sym}
use Rattle.std.proofs.lemmas.Int.{to_z-of_z}
use Rattle.hs_heap.specs.declared.cell.Pointer.TheVariants.{Fixed}
use Rattle.hs_state.specs.Machines.{machine_of}
use Rattle.hs_state.proofs.Loading.{numbers_lent}
use Rattle.hs_state.proofs.machine.Machine.number_in_object.Goals as goal

pub returns-in-Ok : goal.returns-in-Ok
returns-in-Ok c =
    let given = rw c.size.ensures at c.in-Ok.ensures in
    let lends = simp (to_z-of_z, c.ranges.offset) at given in
    numbers_lent c.args.kind (Fixed c.args.object c.args.offset) (machine_of c.args.self.now) c.in-Ok.cells.now c.loaded_number.result (sym lends)
    c.loaded_number.ensures
