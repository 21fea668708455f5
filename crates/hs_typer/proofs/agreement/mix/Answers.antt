use Rattle.std.proofs.Common.{rules, sym, ◌∙◌}
use Rattle.hs_typer.proofs.Compared.{mix_first, mix_last}
use Rattle.hs_typer.proofs.agreement.mix.Goals as goal

-- what is inside is left to look at
pub inside-preserved : goal.inside-preserved
inside-preserved c =
    mix_first c.args.types.now c.inside.more c.inside.inside.left c.inside.inside.right c.in-Some.next (search rules) (search rules)
    (search rules)
    ∙ c.inside.invariant

-- nothing is inside both
pub returns-in_default : goal.returns-in_default
returns-in_default c =
    sym (mix_last c.args.types.now c.inside.more c.inside.inside.left c.inside.inside.right (search rules) (search rules)) ∙ c.inside.invariant
