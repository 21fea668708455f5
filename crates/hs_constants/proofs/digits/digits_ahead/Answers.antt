use Rattle.std.proofs.Common.{length, ap, ◌∙◌, arith}
use Rattle.hs_constants.proofs.Runs.{run_behind, more_len, more_value, over}
use Rattle.hs_constants.proofs.digits.digits_ahead.Goals as goal

-- a value of more bits stays so
pub returns-in_err-value-clause-digits : goal.returns-in_err-value-clause-digits
returns-in_err-value-clause-digits c =
    rw c.from_residual.ensures (over c.args.base c.args.text.now c.digits.rest.now c.in-Some.after.now c.in-Some.byte.now c.in-Some-digit_of.digit
    c.in-Some.ensures.cases.0 c.in-Some-digit_of.ensures c.digits.value c.digits.invariant.value (omega (arith, c.in_err-value.ensures)))

-- one more digit
pub digits-preserved : goal.digits-preserved
digits-preserved c = record {
  len = more_len c.args.base c.args.text.now c.digits.rest.now c.in-Some.after.now c.in-Some.byte.now c.in-Some-digit_of.digit
      c.in-Some.ensures.cases.0 c.in-Some-digit_of.ensures c.digits.len c.digits.invariant.len;
  value = ap (λ value. run_behind c.args.base value c.in-Some.after.now) c.in_ok-value.ensures.1
      ∙ more_value c.args.base c.args.text.now c.digits.rest.now c.in-Some.after.now c.in-Some.byte.now c.in-Some-digit_of.digit
      c.in-Some.ensures.cases.0 c.in-Some-digit_of.ensures c.digits.value c.digits.invariant.value;
  left = omega (arith, ap length c.in-Some.ensures.cases.0);
}
