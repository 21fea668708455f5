use Rattle.std.proofs.Common.{rules, ap, arith, length, ◌∷◌, []}
use Rattle.hs_lower.specs.Places.{setting_with}
use Rattle.hs_lower.proofs.Rests.{codes_next, codes_past, count_joined}
use Rattle.hs_lower.proofs.program.functions.Goals as goal

-- one function has too many operations
pub returns-in_err-code-clause-code : goal.returns-in_err-code-clause-code
returns-in_err-code-clause-code c =
    let past = codes_past (setting_with c.args.program.now c.args.classes.now) c.args.its.now c.loop-function.function-index c.function-item.result
    (omega arith) c.function-item.is c.loop-function.done.items _ c.loop-function.invariant.same in
    search (rules, past)

-- or all of them have
pub returns-then-from-number-clause-code : goal.returns-then-from-number-clause-code
returns-then-from-number-clause-code c =
    let past = codes_past (setting_with c.args.program.now c.args.classes.now) c.args.its.now c.loop-function.function-index c.function-item.result
    (omega arith) c.function-item.is c.loop-function.done.items _ c.loop-function.invariant.same in
    let same = ap (λ its. length its.ops) c.in_ok-code.ensures.code in
    let lent = ap length c.items.ensures.lends in
    past (search (rules, same, lent))

-- a function is there
pub loop-function-preserved : goal.loop-function-preserved
loop-function-preserved c =
    record {
      same =
          rw (c.in_ok-push.ensures.items, c.in_ok-code.ensures.code)
          (codes_next (setting_with c.args.program.now c.args.classes.now) c.args.its.now c.loop-function.function-index c.function-item.result
          (omega arith) c.function-item.is c.loop-function.done.items _ c.loop-function.invariant.same);
      counted =
          rw (c.in_ok-push.ensures.items)
          (omega (arith, count_joined c.loop-function.done.items (c.in_ok-code.code ∷ []), c.loop-function.invariant.counted, ap length c.items.ensures.lends));
      few = search rules;
    }
