-- The values on top are those after the others.
use Rattle.std.proofs.Common.{◌≡◌, ◌++◌, ◌-◌, length, take, arith}
use Rattle.std.proofs.lemmas.List.{take-append-drop}
use Rattle.hs_code_run.specs.Steps.{operation_of}
use Rattle.hs_state.specs.Machines.{machine_of}
use Rattle.hs_state.specs.Settings.{setting_here}
use Rattle.hs_operations.proofs.Working.{takes_same, whole_given, whole_not}
use Rattle.hs_operations.proofs.stacks.apply.Goals as goal

pub returns-in-Ok-clause-works : goal.returns-in-Ok-clause-works
returns-in-Ok-clause-works c =
    let place = length c.items-values.result.now - c.takes-count.result in
    let same : c.args.stack.now.top ≡ take place c.args.stack.now.top ++ c.split_at.result.1.now =
    cc (take-append-drop place c.items-values.result.now, c.split_at.ensures.back, c.items-values.ensures) in
    let taken : length c.split_at.result.1.now ≡ c.takes-count.result = omega arith in
    whole_given (operation_of c.args.op) (setting_here c.args.setting.now) c.args.stack.now.top (take place c.args.stack.now.top) c.split_at.result.1.now
    (machine_of c.args.machine.now) (machine_of c.operate.new.machine) same c.in-Ok.value c.replace.new.stack.top c.replace.result
    (takes_same (operation_of c.args.op) c.takes-count.result (length c.split_at.result.1.now) c.takes-count.ensures taken) c.in-Ok.ensures.does
    c.replace.ensures.top c.replace.ensures.memory

pub returns-in-Err-clause-works : goal.returns-in-Err-clause-works
returns-in-Err-clause-works c =
    let place = length c.items-values.result.now - c.takes-count.result in
    let same : c.args.stack.now.top ≡ take place c.args.stack.now.top ++ c.split_at.result.1.now =
    cc (take-append-drop place c.items-values.result.now, c.split_at.ensures.back, c.items-values.ensures) in
    let taken : length c.split_at.result.1.now ≡ c.takes-count.result = omega arith in
    whole_not (operation_of c.args.op) (setting_here c.args.setting.now) c.args.stack.now.top (take place c.args.stack.now.top) c.split_at.result.1.now
    (machine_of c.args.machine.now) (machine_of c.operate.new.machine) same c.args.stack.now.top c.in-Err.why
    (takes_same (operation_of c.args.op) c.takes-count.result (length c.split_at.result.1.now) c.takes-count.ensures taken) c.in-Err.ensures.does
