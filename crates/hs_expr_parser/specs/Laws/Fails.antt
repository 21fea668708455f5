-- If what is read stands on another reading, it fails as that one does.
use Rattle.std.proofs.Common.{◌≡◌, Option, None, subst}
use Rattle.hs_expr_parser.specs.Given.{Fails}
use Rattle.hs_expr_parser.specs.declared.parse_end.ParseEnd.{ParseEnd}
use Rattle.hs_expr_parser.specs.declared.parse_end.ParseEnd.TheVariants.{NotExpr, NoMemory}

pub fails_along : {Y Z : Type 0} (e : ParseEnd) (read : Option Y) (other : Option Z) → (other ≡ None → read ≡ None) → Fails e other → Fails e read
fails_along NotExpr read other goes is = goes is
fails_along NoMemory read other goes is = tt

-- nothing was read
pub fails_none : {Y : Type 0} (e : ParseEnd) (read : Option Y) → e ≡ NotExpr → Fails e read → read ≡ None
fails_none e read is fails = subst (λ (it : ParseEnd). Fails it read) is fails
