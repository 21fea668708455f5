use Rattle.std.proofs.Common.{◌≡◌}
use Rattle.hs_syntax.specs.Positions.{position_of}
use Rattle.hs_syntax.specs.Views.{view}
use Rattle.hs_syntax.proofs.expr.Expr.position.Given as goal

-- the inner expression has the position of the whole
abbrev pub invariant-inner : goal.invariant-inner
invariant-inner l = position_of (view l.e) ≡ position_of (view l.self)
