-- The value replaces those on top.
use Rattle.std.proofs.Common.{◌≡◌, ◌++◌, ◌-◌, length, take, arith}
use Rattle.std.proofs.lemmas.List.{take-append-drop}
use Rattle.hs_code_run.specs.Steps.{operation_of}
use Rattle.hs_state.specs.Machines.{machine_of}
use Rattle.hs_operations.proofs.Working.{takes_same, tries_given}
use Rattle.hs_operations.proofs.stacks.apply_giving.Goals as goal

pub returns-in-Ok-clause-tries : goal.returns-in-Ok-clause-tries
returns-in-Ok-clause-tries c =
    λ setting.
    let place = length c.items-values.result.now - c.takes-count.result in
    let same : c.args.stack.now.top ≡ take place c.args.stack.now.top ++ c.split_at.result.1.now =
    cc (take-append-drop place c.items-values.result.now, c.split_at.ensures.back, c.items-values.ensures) in
    let taken : length c.split_at.result.1.now ≡ c.takes-count.result = omega arith in
    tries_given (operation_of c.args.op) setting c.args.stack.now.top place c.split_at.result.1.now (machine_of c.args.machine.now) same c.in-Ok.value
    c.put_at.new.stack.top c.put_at.result
    (takes_same (operation_of c.args.op) c.takes-count.result (length c.split_at.result.1.now) c.takes-count.ensures taken) (c.in-Ok.ensures setting)
    c.put_at.ensures.puts
