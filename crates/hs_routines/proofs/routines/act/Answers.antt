-- The value is a number of the type of the result.
use Rattle.std.proofs.Common.{ap, sym, ◌∙◌}
use Rattle.hs_meaning.specs.Operations.{as_kind}
use Rattle.hs_meaning.specs.Roles.{role_machine, role_stops, role_value}
use Rattle.hs_meaning.specs.Stops.{first_stop}
use Rattle.hs_state.specs.Machines.{machine_of}
use Rattle.hs_tree.specs.Kinds.{number_kind}
use Rattle.hs_routines.proofs.Converting.{converted}
use Rattle.hs_routines.proofs.routines.act.Goals as goal

pub returns-in-Ok-clause-does : goal.returns-in-Ok-clause-does
returns-in-Ok-clause-does c =
    let m = machine_of c.args.machine.now in
    let kind = number_kind c.args.setting.now.types.now c.args.prototype.now.result in
    rw (c.as_kind.ensures, c.number_kind.ensures)
    (converted (as_kind kind) (first_stop (role_stops c.args.role c.args.values.now m)) (role_value c.args.role c.args.values.now m) c.in-Ok.value
    (role_machine c.args.role c.args.values.now m) m (machine_of c.act.new.machine) c.in-Ok.ensures.does)
