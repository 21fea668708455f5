-- The value replaces the pointer.
use Rattle.std.proofs.Common.{◌≡◌, ◌++◌, ◌∷◌, [], ◌-◌, List, length, take, true, sym, subst, arith}
use Rattle.std.proofs.lemmas.List.{take-append-drop}
use Rattle.hs_code.specs.declared.op.Op.TheVariants as op
use Rattle.hs_code_run.specs.Steps.{operation_of}
use Rattle.hs_meaning.specs.Values.{Value}
use Rattle.hs_state.specs.Machines.{machine_of}
use Rattle.hs_operations.proofs.Working.{tries_given}
use Rattle.hs_operations.proofs.stacks.load_top.Goals as goal

pub returns-in-Ok-clause-tries : goal.returns-in-Ok-clause-tries
returns-in-Ok-clause-tries c =
    λ setting.
    let list = c.args.stack.now.top in
    let place = length c.items-values.result.now - 1 in
    let same : list ≡ take place list ++ c.split_at.result.1.now =
    cc (take-append-drop place c.items-values.result.now, c.split_at.ensures.back, c.items-values.ensures) in
    let taken : length c.split_at.result.1.now ≡ 1 = omega arith in
    let left = c.put_for_one.new.stack.top in
    let puts = subst (λ (l : List Value). left ≡ take (length l - 1) list ++ c.in-Ok.value ∷ []) (sym c.items-values.ensures) c.put_for_one.ensures.top in
    tries_given (operation_of (op.Load c.args.access)) setting list place c.split_at.result.1.now (machine_of c.args.machine.now) same
    c.in-Ok.value left true taken (c.in-Ok.ensures setting) puts
