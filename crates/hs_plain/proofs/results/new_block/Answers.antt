use Rattle.std.proofs.Common.{sym, ◌∙◌, rules}
use Rattle.hs_heap.specs.Memory.{has_room}
use Rattle.hs_meaning.specs.Machine.{done}
use Rattle.hs_meaning.specs.Plain.{made_block}
use Rattle.hs_state.specs.Machines.{Does, machine_of}
use Rattle.hs_plain.proofs.Making.{clears, its_handle, no_stop}
use Rattle.hs_plain.proofs.results.new_block.Goals as goal

-- memory ran out
pub returns-in_err-clear-clause-does : goal.returns-in_err-clear-clause-does
returns-in_err-clear-clause-does c =
    let room = has_room c.args.machine.now.heap.blocks c.args.size
    in let cleared : Does (done (tt {0}) (made_block room c.args.size (machine_of c.args.machine.now))) (machine_of c.clear.new.machine) c.clear.result =
    clears room c.args.size _ _ (machine_of c.clear.new.machine) c.in-Some.block c.clear.result (sym c.in-Some.is ∙ c.in_ok-block.ensures.does.0)
    c.in_ok-block.ensures.does.1 c.clear.ensures.does
    in search (rules, no_stop)

-- the block has its zeros
pub returns-clause-does : goal.returns-clause-does
returns-clause-does c =
    let room = has_room c.args.machine.now.heap.blocks c.args.size
    in let number = sym c.in-Some.is ∙ c.in_ok-block.ensures.does.0
    in let cleared : Does (done (tt {0}) (made_block room c.args.size (machine_of c.args.machine.now))) (machine_of c.clear.new.machine) c.clear.result =
    clears room c.args.size _ _ (machine_of c.clear.new.machine) c.in-Some.block c.clear.result number c.in_ok-block.ensures.does.1
    c.clear.ensures.does
    in (c.pointer-2.ensures ∙ its_handle _ _ _ number, search rules)
