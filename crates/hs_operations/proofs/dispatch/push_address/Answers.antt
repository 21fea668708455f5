-- The address is put on top.
use Rattle.std.proofs.Common.{reverse}
use Rattle.hs_operations.proofs.Working.{above_put}
use Rattle.hs_operations.specs.Works.{address_in}
use Rattle.hs_state.specs.Machines.{machine_of}
use Rattle.hs_state.specs.Settings.{setting_here}
use Rattle.hs_operations.proofs.dispatch.push_address.Goals as goal

pub returns-in-Ok-clause-works : goal.returns-in-Ok-clause-works
returns-in-Ok-clause-works c =
    let machine = machine_of c.args.machine.now in
    above_put (reverse c.args.stack.now.top) (reverse c.push.new.stack.top) c.in-Ok.value
    (address_in (setting_here c.args.setting.now) c.args.its machine) machine
    c.push.result c.in-Ok.ensures (c.push.ensures.top machine)
