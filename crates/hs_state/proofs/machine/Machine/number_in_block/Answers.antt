-- The cells that are lent hold the number.
use Rattle.std.proofs.Common.{sym}
use Rattle.hs_heap.specs.declared.cell.Pointer.TheVariants.{Spot}
use Rattle.hs_state.specs.Machines.{machine_of}
use Rattle.hs_state.proofs.Loading.{numbers_lent}
use Rattle.hs_state.proofs.machine.Machine.number_in_block.Goals as goal

pub returns-in-Ok : goal.returns-in-Ok
returns-in-Ok c =
    let lends = rw c.size.ensures at c.in-Ok.ensures in
    numbers_lent c.args.kind (Spot c.args.its.now) (machine_of c.args.self.now) c.in-Ok.cells.now c.loaded_number.result (sym lends) c.loaded_number.ensures
