-- A number that is too large stays so.
use Rattle.std.proofs.Common.{◌≡◌, ◌<◌, ◌+◌, ◌*◌, Some, drop, get_or, arith, ap, sym, ◌∙◌}
use Rattle.std.proofs.lemmas.List.{at_drop_more}
use Rattle.hs_meaning.specs.InputTexts.{digit, value_after, within, too_large}
use Rattle.hs_movers.proofs.script_text.numbers.value_in.Goals as goal

pub returns-then-value-from-clause-value : goal.returns-then-value-from-clause-value
returns-then-value-from-clause-value c =
    let large : c.args.most < c.digits.value * 10 + c.in_ok-digit.field-0 = omega arith in
    let late = too_large c.args.least c.args.most (c.digits.value * 10 + c.in_ok-digit.field-0) (drop (c.digits.byte-index + 1) c.args.text.now) large in
    let ones : digit 10 (get_or c.args.text.now c.digits.byte-index 0) ≡ Some c.in_ok-digit.field-0 = sym c.digit.ensures.value ∙ c.in_ok-digit.was in
    let here = at_drop_more (value_after c.digits.value) c.args.text.now c.digits.byte-index 0 c.digits-test.true in
    sym (ap (within c.args.least c.args.most) (sym c.digits.invariant.read ∙ here) ∙ rw ones late)
