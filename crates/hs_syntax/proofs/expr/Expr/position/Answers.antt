use Rattle.std.proofs.Common.{sym, ap, ◌∙◌}
use Rattle.hs_syntax.specs.Positions.{position_of}
use Rattle.hs_syntax.specs.Views.{view}
use Rattle.hs_syntax.specs.declared.expr.Expr.{Expr}
use Rattle.hs_syntax.proofs.Commas.{position_of-comma}
use Rattle.hs_syntax.proofs.expr.Expr.position.Goals as goal

-- there is a comma
pub returns-in-Some : goal.returns-in-Some
returns-in-Some c =
    let right = view c.in-Comma.right.value in
    sym (c.in-Some.ensures (position_of right)) ∙ sym (position_of-comma c.in-Comma.lefts c.deref.result.now right c.deref.ensures.value)
    ∙ sym (ap (λ (e : Expr). position_of (view e)) c.in-Comma.is) ∙ c.inner.invariant

-- there is no left operand, so that the right one has the position
pub inner-preserved : goal.inner-preserved
inner-preserved c =
    let right = view c.in-Comma.right.value in
    ap (λ (e : Expr). position_of (view e)) c.deref-e-in-None.ensures ∙ sym (c.in-None.ensures (position_of right))
    ∙ sym (position_of-comma c.in-Comma.lefts c.deref.result.now right c.deref.ensures.value)
    ∙ sym (ap (λ (e : Expr). position_of (view e)) c.in-Comma.is) ∙ c.inner.invariant
