-- The cells that are lent are those that the pointer reaches.
use Rattle.std.proofs.Common.{sym}
use Rattle.hs_code_run.specs.Steps.{access_of}
use Rattle.hs_heap.specs.declared.cell.Pointer.TheVariants.{Spot}
use Rattle.hs_meaning.specs.Values.{length_of}
use Rattle.hs_state.specs.Machines.{machine_of}
use Rattle.hs_state.proofs.Loading.{lent, long, not_lent}
use Rattle.hs_state.proofs.machine.Machine.load_spot.Goals as goal

pub loaded-requires : goal.loaded-requires
loaded-requires c =
    let count = length_of (access_of c.args.access) in
    let lends = rw c.length_of.ensures at c.in-Ok.ensures in
    record { all = long c.args.its.now count (machine_of c.args.self.now) c.in-Ok.cells.now (sym lends) }

pub returns-in-Ok : goal.returns-in-Ok
returns-in-Ok c =
    let lends = rw c.length_of.ensures at c.in-Ok.ensures in
    lent (access_of c.args.access) (Spot c.args.its.now) (machine_of c.args.self.now) c.in-Ok.cells.now c.loaded.result (sym lends) c.loaded.ensures

pub returns-in-Err : goal.returns-in-Err
returns-in-Err c =
    let stops = rw c.length_of.ensures at c.in-Err.ensures in
    not_lent (access_of c.args.access) (Spot c.args.its.now) (machine_of c.args.self.now) c.in-Err.why (sym stops)
