use Rattle.std.proofs.Common.{rules, Ok, Err}
use Rattle.hs_heap.specs.Memory.{IsMade}
use Rattle.hs_roles.proofs.Moving.{between}
use Rattle.hs_state.specs.Machines.{machine_of}
use Rattle.hs_roles.proofs.moves.copy_between.Goals as goal

-- the heap moves the cells
pub returns-in-Ok-clause-does : goal.returns-in-Ok-clause-does
returns-in-Ok-clause-does c =
    let from : IsMade c.args.machine.now.heap c.args.from.now.block = search rules in
    let to : IsMade c.args.machine.now.heap c.args.to.now.block = search rules in
    between c.args.from.now c.args.to.now c.args.count c.args.machine.now.heap.shifts (machine_of c.args.machine.now) c.block_move.new.self (Ok tt)
    from to c.in-Ok.ensures.moves

-- or stops
pub returns-in-Err-clause-does : goal.returns-in-Err-clause-does
returns-in-Err-clause-does c =
    let from : IsMade c.args.machine.now.heap c.args.from.now.block = search rules in
    let to : IsMade c.args.machine.now.heap c.args.to.now.block = search rules in
    rw c.stop_of.ensures
    (between c.args.from.now c.args.to.now c.args.count c.args.machine.now.heap.shifts (machine_of c.args.machine.now) c.block_move.new.self
    (Err c.in-Err.why) from to c.in-Err.ensures.moves)
