use Rattle.std.proofs.Common.{arith}
use Rattle.hs_search.proofs.calls.Calls.number.Goals as goal

pub invariant_of-self : goal.invariant_of-self
invariant_of-self c =
    let before = c.args.self.now.callers_wide in
    let grows = c.widen.ensures.grows in
    record { callers_wide = omega arith; ends_wide = c.args.self.now.ends_wide }

pub invariant_of-self-in-Break-branch-2 : goal.invariant_of-self-in-Break-branch-2
invariant_of-self-in-Break-branch-2 c =
    let callers = c.args.self.now.callers_wide in
    let ends = c.args.self.now.ends_wide in
    let callers_grow = c.widen.ensures.grows in
    let ends_grow = c.widen-2.ensures.grows in
    record { callers_wide = omega arith; ends_wide = omega arith }

pub invariant_of-self-2 : goal.invariant_of-self-2
invariant_of-self-2 c =
    let callers = c.args.self.now.callers_wide in
    let ends = c.args.self.now.ends_wide in
    let one = c.push.ensures.one in
    let callers_long = c.in_ok-widen.ensures.wide in
    let ends_long = c.in_ok-widen-2.ensures.wide in
    record { callers_wide = omega arith; ends_wide = omega arith }
