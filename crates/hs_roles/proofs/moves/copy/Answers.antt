use Rattle.std.proofs.Common.{rules, ◌≡◌, Err}
use Rattle.hs_roles.proofs.Copying.{not_copied, then_written}
use Rattle.hs_state.specs.Machines.{machine_of}
use Rattle.hs_roles.proofs.moves.copy.Goals as goal

-- the cells are not copied
pub returns-in_err-cells-clause-does : goal.returns-in_err-cells-clause-does
returns-in_err-cells-clause-does c =
    let machine = machine_of c.args.machine.now in
    let given : c.from_residual.result ≡ Err c.in_err-cells.field-0.0 = search rules in
    rw (c.in_err-cells.ensures.same, given)
    (not_copied c.args.from c.args.to c.args.count machine c.in_err-cells.field-0.0 c.in_err-cells.ensures.copied)

-- or they are written
pub returns-clause-does : goal.returns-clause-does
returns-clause-does c =
    let machine = machine_of c.args.machine.now in
    let written
    = rw (c.in_ok-cells.ensures.same, c.as_slice.ensures.value) at c.write.ensures.does in
    then_written c.args.from c.args.to c.args.count machine c.in_ok-cells.cells.items (machine_of c.write.new.self) c.write.result
    c.in_ok-cells.ensures.copied written
