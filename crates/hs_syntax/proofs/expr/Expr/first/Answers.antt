use Rattle.std.proofs.Common.{sym, ap, ◌∙◌, map, List}
use Rattle.hs_syntax.specs.Positions.{first_of, first_of_lefts}
use Rattle.hs_syntax.specs.RowViews.{view_left, lefts_from}
use Rattle.hs_syntax.specs.Views.{view}
use Rattle.hs_syntax.specs.declared.expr.Expr.{Expr}
use Rattle.hs_syntax.specs.declared.expr.Left.{Left}
use Rattle.hs_syntax.proofs.Commas.{first_of-comma, first_of_lefts-none}
use Rattle.hs_syntax.proofs.expr.Expr.first.Goals as goal

-- the first left operand of commas
pub leftmost-preserved-in-Some : goal.leftmost-preserved-in-Some
leftmost-preserved-in-Some c =
    let right = view c.in-Comma.right.value in
    sym (ap (λ (its : List Left). first_of_lefts (first_of right) (lefts_from (map view_left its))) c.in-Some.ensures.cases.0)
    ∙ sym (first_of-comma c.in-Comma.lefts c.deref.result.now right c.deref.ensures.value)
    ∙ sym (ap (λ (e : Expr). first_of (view e)) c.in-Comma.is) ∙ c.leftmost.invariant

-- there is no left operand, so that the right one is the first
pub leftmost-preserved-in-None : goal.leftmost-preserved-in-None
leftmost-preserved-in-None c =
    let right = view c.in-Comma.right.value in
    ap (λ (e : Expr). first_of (view e)) c.deref-e-in-None.ensures
    ∙ sym (first_of_lefts-none c.deref.result.now (first_of right) c.in-None.ensures.cases)
    ∙ sym (first_of-comma c.in-Comma.lefts c.deref.result.now right c.deref.ensures.value)
    ∙ sym (ap (λ (e : Expr). first_of (view e)) c.in-Comma.is) ∙ c.leftmost.invariant
