-- The value on top is cut off.
use Rattle.std.proofs.Common.{◌≡◌, ◌<◌, ◌-◌, ℕ, zero, length, take, ap, ◌∙◌, arith}
use Rattle.hs_operations.proofs.Tops.{dropped_none, dropped_top}
use Rattle.hs_operations.proofs.values.drop_top.Goals as goal

pub returns-clause-top : goal.returns-clause-top
returns-clause-top c =
    λ setting machine.
    let list = c.args.stack.now.top in
    let count : length c.items-count.result.now ≡ length list = ap length c.items-count.ensures in
    let some : zero < length list = omega arith in
    dropped_top setting list machine c.truncate.new.self.top some (c.truncate.ensures.top ∙ ap (λ (n : ℕ). take (n - 1) list) count)

pub returns-then-count-eq0-clause-top : goal.returns-then-count-eq0-clause-top
returns-then-count-eq0-clause-top c =
    λ setting machine.
    let count : length c.items-count.result.now ≡ length c.args.stack.now.top = ap length c.items-count.ensures in
    let none : length c.args.stack.now.top ≡ zero = omega arith in
    dropped_none setting c.args.stack.now.top machine none
