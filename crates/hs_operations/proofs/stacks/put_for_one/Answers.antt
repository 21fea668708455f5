-- The last value is the other one.
use Rattle.std.proofs.Common.{◌≡◌, ◌-◌, length, ap, arith}
use Rattle.hs_operations.proofs.Tops.{last_set}
use Rattle.hs_operations.proofs.stacks.put_for_one.Goals as goal

pub returns-clause-top : goal.returns-clause-top
returns-clause-top c =
    let list = c.args.stack.now.top in
    let count : length c.items-count.result.now ≡ length list = ap length c.items-count.ensures in
    let set = last_set list (length list - 1) c.args.value (omega (arith, c.requires.one)) in
    rw (c.replace.ensures.top, count) set
