use Rattle.std.proofs.Common.{[], ◌∷◌, ◌++◌, sym, ap, ◌∙◌}
use Rattle.hs_directives.proofs.Resolving.{other_next, defined_next}
use Rattle.hs_directives.proofs.condition.resolved.Goals as goal

-- the name's answer stands for `defined` and the name
pub tokens-preserved-then-asks : goal.tokens-preserved-then-asks
tokens-preserved-then-asks c =
    defined_next c.args.macros.now c.tokens.tokens.items c.push.new.self.items c.tokens.rest.now c.in-Some.token.now
    c.in-Some.behind.now c.split_at.result.1.now c.in-Some-operand_of.asked _ c.is_defined.result _ c.in-Some.ensures.cases.0
    c.in_ok-push.ensures.items (sym c.asks.ensures ∙ c.if-asks.true) c.in-Some-operand_of.ensures c.in_ok-answer.ensures
    c.is_defined.ensures c.split_at.ensures.back c.tokens.invariant

-- another token stays
pub tokens-preserved : goal.tokens-preserved
tokens-preserved c =
    other_next c.args.macros.now c.tokens.tokens.items c.push-else-asks.new.self.items c.tokens.rest.now c.in-Some.token.now
    c.in-Some.behind.now _ c.in-Some.ensures.cases.0
    (c.in_ok-push-2.ensures.items ∙ ap (λ copy. c.tokens.tokens.items ++ copy ∷ []) c.in_ok-copied.ensures)
    (sym c.asks.ensures ∙ c.if-asks.false) c.tokens.invariant
