use Rattle.std.proofs.Common.{sym, ap, ◌∙◌}
use Rattle.std.specs.FinSet as set
use Rattle.std.proofs.lemmas.Result.{IfOk-weaker}
use Rattle.hs_macros.proofs.Rising.{union_itself}
use Rattle.hs_macros.proofs.hide_set.HideSet.union.Goals as goal

-- the two are one set, which adds nothing to itself
pub returns-then-is_same : goal.returns-then-is_same
returns-then-is_same c =
    IfOk-weaker c.copy.result _ _ (λ copy is.
    is ∙ sym (union_itself c.args.self.now) ∙ ap (set.union c.args.self.now) (c.is_same.ensures c.if-is_same.true)) c.copy.ensures
