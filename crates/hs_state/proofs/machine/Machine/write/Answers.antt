-- A store into a block that stops changes no block.
use Rattle.std.proofs.Common.{ap, rules}
use Rattle.hs_heap.specs.Blocks.{stored}
use Rattle.hs_heap.specs.Memory.{Memory}
use Rattle.hs_state.specs.Machines.{machine_of}
use Rattle.hs_state.proofs.Loading.{stays}
use Rattle.hs_state.proofs.machine.Machine.write.Goals as goal

pub returns-in-Err-clause-kept : goal.returns-in-Err-clause-kept
returns-in-Err-clause-kept c =
    let same =
    stays (stored c.in-Spot.its c.args.cells.now) c.in-Spot.its.block c.args.self.now.heap c.store-in-Spot.new.self c.in-Err.why
    (search rules) c.in-Err.ensures.acts in
    ap (λ (m : Memory). record (machine_of c.args.self.now) { blocks = m.blocks }) same
