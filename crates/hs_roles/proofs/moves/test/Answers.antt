use Rattle.std.proofs.Common.{rules, Ok, Err, ap, ◌∙◌}
use Rattle.hs_heap.specs.Memory.{Memory, IsMade}
use Rattle.hs_meaning.specs.Machine.{with_blocks}
use Rattle.hs_roles.proofs.Moving.{tests}
use Rattle.hs_state.specs.Machines.{machine_of}
use Rattle.hs_roles.proofs.moves.test.Goals as goal

-- the pointer is tested
pub returns-in-Ok-clause-tests : goal.returns-in-Ok-clause-tests
returns-in-Ok-clause-tests c =
    let made : IsMade c.args.machine.now.heap c.args.its.now.block = search rules in
    (tests c.args.its.now c.args.count c.args.machine.now.heap c.block_move.new.self (Ok tt) made c.in-Ok.ensures.moves).0

pub returns-in-Err-clause-tests : goal.returns-in-Err-clause-tests
returns-in-Err-clause-tests c =
    let made : IsMade c.args.machine.now.heap c.args.its.now.block = search rules in
    ap Err c.stop_of.ensures
    ∙ (tests c.args.its.now c.args.count c.args.machine.now.heap c.block_move.new.self (Err c.in-Err.why) made c.in-Err.ensures.moves).0

-- and nothing is changed
pub returns-in-Ok-clause-same : goal.returns-in-Ok-clause-same
returns-in-Ok-clause-same c =
    let made : IsMade c.args.machine.now.heap c.args.its.now.block = search rules in
    ap {A = Memory} (λ heap. with_blocks heap.blocks (machine_of c.args.machine.now))
    (tests c.args.its.now c.args.count c.args.machine.now.heap c.block_move.new.self (Ok tt) made c.in-Ok.ensures.moves).1

pub returns-in-Err-clause-same : goal.returns-in-Err-clause-same
returns-in-Err-clause-same c =
    let made : IsMade c.args.machine.now.heap c.args.its.now.block = search rules in
    ap {A = Memory} (λ heap. with_blocks heap.blocks (machine_of c.args.machine.now))
    (tests c.args.its.now c.args.count c.args.machine.now.heap c.block_move.new.self (Err c.in-Err.why) made c.in-Err.ensures.moves).1
