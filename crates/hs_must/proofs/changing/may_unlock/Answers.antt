use Rattle.std.proofs.Common.{◌&&◌, ap, sym, ◌∙◌}
use Rattle.hs_effects.specs.Effecting.{number_of}
use Rattle.hs_fact_rows.specs.Laws.Numbers.{less_number}
use Rattle.hs_facts.specs.Effects.{unlocks}
use Rattle.hs_rows.specs.Sets.{has}
use Rattle.hs_must.proofs.changing.may_unlock.Goals as goal

-- there are so many functions
pub returns-then-f-functions : goal.returns-then-f-functions
returns-then-f-functions c =
    c.contains.ensures tt ∙ c.of.ensures unlocks
    ∙ ap (λ t. t && has c.args.effects.now.effects c.args.f (number_of unlocks)) (sym (less_number c.args.f c.args.functions c.if-f-functions.true))
