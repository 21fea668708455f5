use Rattle.std.proofs.Common.{◌+◌, ◌-◌, ◌*◌, ap, sym, ◌∙◌, arith}
use Rattle.hs_tokens.specs.Forms.{bytes_of}
use Rattle.hs_tokens.specs.Ahead.{ahead, bytes_ahead}
use Rattle.hs_tokens.proofs.Escapes.{octal_start, octal_next, octal_stop, octal_end, octal_over}
use Rattle.hs_tokens.proofs.literals.octal_escape.Goals as goal

pub digits-init : goal.digits-init
digits-init c = record {
  len = octal_start (ahead c.args.cursor) (ahead c.front-rest.result) c.front-rest.ensures;
  value = omega arith;
  left = omega arith;
}

-- another byte
pub returns-then-not-is_octal : goal.returns-then-not-is_octal
returns-then-not-is_octal c =
    let other = sym c.is_octal.ensures ∙ c.if-not-is_octal.true in
    sym (octal_stop c.digits.len c.digits.value c.in-Some.step.byte (bytes_ahead c.digits.rest) (bytes_ahead c.in-Some.step.after)
    (ap bytes_of c.in-Some.ensures.0) other c.digits.invariant.value) ∙ c.digits.invariant.len

-- a value above a byte stays so
pub returns-then-value-gt255 : goal.returns-then-value-gt255
returns-then-value-gt255 c =
    let digit = sym c.is_octal.ensures ∙ c.if-not-is_octal.false in
    let over = rw c.octal_digit_value.ensures at c.if-value-gt255.true in
    let next = octal_next c.digits.len c.digits.value c.in-Some.step.byte (bytes_ahead c.digits.rest) (bytes_ahead c.in-Some.step.after)
    (ap bytes_of c.in-Some.ensures.0) digit in
    sym (octal_over (c.digits.len + 1) (8 * c.digits.value + (c.in-Some.step.byte - 48)) (bytes_ahead c.in-Some.step.after) over)
    ∙ next ∙ c.digits.invariant.len

pub digits-preserved : goal.digits-preserved
digits-preserved c =
    let digit = sym c.is_octal.ensures ∙ c.if-not-is_octal.false in
    let next = octal_next c.digits.len c.digits.value c.in-Some.step.byte (bytes_ahead c.digits.rest) (bytes_ahead c.in-Some.step.after)
    (ap bytes_of c.in-Some.ensures.0) digit in
    record {
      len = rw c.octal_digit_value.ensures (next ∙ c.digits.invariant.len);
      value = omega arith;
      left = omega (arith, c.in-Some.ensures.1);
    }

pub returns : goal.returns
returns c =
    sym (octal_end c.digits.len c.digits.value (bytes_ahead c.digits.rest) (ap bytes_of c.in_default.ensures) c.digits.invariant.value)
    ∙ c.digits.invariant.len
