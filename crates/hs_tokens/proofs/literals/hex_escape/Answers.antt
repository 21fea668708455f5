use Rattle.std.proofs.Common.{◌+◌, ◌*◌, ap, sym, ◌∙◌, arith}
use Rattle.hs_tokens.specs.Literals.{hex_digit_value}
use Rattle.hs_tokens.specs.Forms.{bytes_of}
use Rattle.hs_tokens.specs.Ahead.{bytes_ahead}
use Rattle.hs_tokens.proofs.Escapes.{hex_next, hex_over}
use Rattle.hs_tokens.proofs.literals.hex_escape.Goals as goal

-- a value above a byte stays so
pub returns-then-value-gt255 : goal.returns-then-value-gt255
returns-then-value-gt255 c =
    let digit = sym c.is_hex.ensures ∙ c.if-not-is_hex.false in
    let over = rw c.hex_digit_value.ensures.value at c.if-value-gt255.true in
    let next = hex_next c.digits.len c.digits.value c.in-Some.step.byte (bytes_ahead c.digits.rest) (bytes_ahead c.in-Some.step.after)
    (ap bytes_of c.in-Some.ensures.0) digit in
    sym (hex_over (c.digits.len + 1) (16 * c.digits.value + hex_digit_value c.in-Some.step.byte) (bytes_ahead c.in-Some.step.after) over)
    ∙ next ∙ c.digits.invariant.len

pub digits-preserved : goal.digits-preserved
digits-preserved c =
    let digit = sym c.is_hex.ensures ∙ c.if-not-is_hex.false in
    let next = hex_next c.digits.len c.digits.value c.in-Some.step.byte (bytes_ahead c.digits.rest) (bytes_ahead c.in-Some.step.after)
    (ap bytes_of c.in-Some.ensures.0) digit in
    record {
      len = rw c.hex_digit_value.ensures.value (next ∙ c.digits.invariant.len);
      value = omega arith;
      left = omega (arith, c.in-Some.ensures.1);
    }
