use Rattle.std.proofs.Common.{◌≡◌, ◌≤◌, ◌++◌, length}
use Rattle.hs_expr_parser.specs.Ahead.{literals_at}
use Rattle.hs_expr_parser.proofs.ahead.literals.Given as goal

-- the literals so far and those in front of the rest are all
abbrev pub invariant-literals : goal.invariant-literals
invariant-literals l = record {
  its : l.literals.items ++ (literals_at l.rest).0 ≡ (literals_at l.tokens).0;
  behind : (literals_at l.rest).1 ≡ (literals_at l.tokens).1;
  shorter : length l.rest ≤ length l.tokens;
}

abbrev pub decreases-literals : goal.decreases-literals
decreases-literals l = length l.rest
