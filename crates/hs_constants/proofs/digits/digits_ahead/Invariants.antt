use Rattle.std.proofs.Common.{◌≡◌, length, ◌+◌}
use Rattle.hs_constants.specs.Digits.{run_len, run_value}
use Rattle.hs_constants.proofs.Runs.{run_behind}
use Rattle.hs_constants.proofs.digits.digits_ahead.Given as goal

-- the digits so far and those ahead are all
abbrev pub invariant-digits : goal.invariant-digits
invariant-digits l = record {
  len : l.len + run_len l.base l.rest ≡ run_len l.base l.initial.rest;
  value : run_behind l.base l.value l.rest ≡ run_value l.base l.initial.rest;
  left : l.len + length l.rest ≡ length l.initial.rest;
}

abbrev pub decreases-digits : goal.decreases-digits
decreases-digits l = length l.rest
