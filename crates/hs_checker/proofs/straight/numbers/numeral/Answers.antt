use Rattle.std.proofs.Common.{◌+◌, arith, sym}
use Rattle.hs_checker.proofs.Numbers.{one_digit_more, too_large}
use Rattle.hs_checker.proofs.straight.numbers.numeral.Goals as goal

pub returns-then-value-most : goal.returns-then-value-most
returns-then-value-most c = record {
  value = sym (too_large c.args.most c.args.text.now (c.loop-digit.digit-index + 1)
      (omega (arith, one_digit_more c.args.text.now c.loop-digit.digit-index c.loop-digit.invariant.form c.loop-digit-test.true)));
  low = tt;
}

pub loop-digit-preserved : goal.loop-digit-preserved
loop-digit-preserved c = record {
  form = c.loop-digit.invariant.form;
  value = omega (arith, one_digit_more c.args.text.now c.loop-digit.digit-index c.loop-digit.invariant.form c.loop-digit-test.true);
  low = omega arith;
}
