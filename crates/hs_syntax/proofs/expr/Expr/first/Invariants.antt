use Rattle.std.proofs.Common.{◌≡◌}
use Rattle.hs_syntax.specs.Positions.{first_of}
use Rattle.hs_syntax.specs.Views.{view}
use Rattle.hs_syntax.proofs.expr.Expr.first.Given as goal

-- the leftmost expression so far has the first token of the whole
abbrev pub invariant-leftmost : goal.invariant-leftmost
invariant-leftmost l = first_of (view l.e) ≡ first_of (view l.self)
