-- The value replaces both values.
use Rattle.std.proofs.Common.{◌≡◌, ◌++◌, ◌∷◌, [], ◌-◌, List, length, take, Ok, sym, subst, arith}
use Rattle.std.proofs.lemmas.List.{take-append-drop}
use Rattle.hs_code.specs.declared.op.Op.TheVariants as op
use Rattle.hs_code_run.specs.Steps.{operation_of}
use Rattle.hs_meaning.specs.Values.{Value}
use Rattle.hs_state.specs.Machines.{machine_of}
use Rattle.hs_operations.proofs.Working.{whole_given}
use Rattle.hs_operations.proofs.stacks.store_top.Goals as goal

pub returns-in-Ok-clause-tries : goal.returns-in-Ok-clause-tries
returns-in-Ok-clause-tries c =
    λ setting.
    let list = c.args.stack.now.top in
    let place = length c.items-values.result.now - 2 in
    let same : list ≡ take place list ++ c.split_at.result.1.now =
    cc (take-append-drop place c.items-values.result.now, c.split_at.ensures.back, c.items-values.ensures) in
    let taken : length c.split_at.result.1.now ≡ 2 = omega arith in
    let left = c.put_for_two.new.stack.top in
    let puts = subst (λ (l : List Value). left ≡ take (length l - 2) list ++ c.in-Ok.value ∷ []) (sym c.items-values.ensures) c.put_for_two.ensures.top in
    whole_given (operation_of (op.Store c.args.access)) setting list (take place list) c.split_at.result.1.now (machine_of c.args.machine.now)
    (machine_of c.store.new.machine) same c.in-Ok.value left (Ok tt) taken (c.in-Ok.ensures.does setting) puts tt
