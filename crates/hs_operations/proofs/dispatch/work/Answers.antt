-- What each operation does is what its function does.
use Rattle.hs_state.specs.Machines.{machine_of}
use Rattle.hs_state.specs.Settings.{setting_here}
use Rattle.hs_operations.proofs.dispatch.work.Goals as goal

pub returns-in-Num-clause-works : goal.returns-in-Num-clause-works
returns-in-Num-clause-works c = rw c.in-Num.is (rw (← c.number.ensures) (c.push.ensures.top (machine_of c.args.machine.now)))

pub returns-in-Nil-clause-works : goal.returns-in-Nil-clause-works
returns-in-Nil-clause-works c = rw c.in-Nil.is (rw (← c.pointer.ensures) (c.push-in-Nil.ensures.top (machine_of c.args.machine.now)))

pub returns-in-Drop-clause-works : goal.returns-in-Drop-clause-works
returns-in-Drop-clause-works c = rw c.in-Drop.is (c.drop_top.ensures.top (setting_here c.args.setting.now) (machine_of c.args.machine.now))

pub returns-in-Dup-clause-works : goal.returns-in-Dup-clause-works
returns-in-Dup-clause-works c = rw c.in-Dup.is (c.double.ensures.top (setting_here c.args.setting.now) (machine_of c.args.machine.now))

pub returns-in-Tuck-clause-works : goal.returns-in-Tuck-clause-works
returns-in-Tuck-clause-works c = rw c.in-Tuck.is (c.tuck.ensures.top (setting_here c.args.setting.now) (machine_of c.args.machine.now))
