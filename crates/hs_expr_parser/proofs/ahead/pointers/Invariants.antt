use Rattle.std.proofs.Common.{◌≡◌, ◌≤◌, ◌++◌, length}
use Rattle.hs_expr_parser.specs.Reading.{pointers_at}
use Rattle.hs_expr_parser.proofs.ahead.pointers.Given as goal

-- the pointers so far and those in front of the rest are all
abbrev pub invariant-pointers : goal.invariant-pointers
invariant-pointers l = record {
  its : l.pointers.items ++ (pointers_at l.rest).0 ≡ (pointers_at l.tokens).0;
  behind : (pointers_at l.rest).1 ≡ (pointers_at l.tokens).1;
  shorter : length l.rest ≤ length l.tokens;
}

abbrev pub decreases-pointers : goal.decreases-pointers
decreases-pointers l = length l.rest
