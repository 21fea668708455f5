use Rattle.std.proofs.Common.{sym, ap, ◌∙◌}
use Rattle.std.specs.FinSet as set
use Rattle.std.proofs.lemmas.Result.{IfOk-weaker}
use Rattle.hs_macros.proofs.Rising.{intersection_itself}
use Rattle.hs_macros.proofs.hide_set.HideSet.intersection.Goals as goal

-- the two are one set, which shares all with itself
pub returns-then-is_same : goal.returns-then-is_same
returns-then-is_same c =
    IfOk-weaker c.copy.result _ _ (λ copy is.
    is ∙ sym (intersection_itself c.args.self.now) ∙ ap (set.intersection c.args.self.now) (c.is_same.ensures c.if-is_same.true)) c.copy.ensures
