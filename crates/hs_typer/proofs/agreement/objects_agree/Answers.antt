use Rattle.std.proofs.Common.{rules, ◌∙◌}
use Rattle.hs_typer.proofs.Compared.{inside_first}
use Rattle.hs_typer.proofs.agreement.objects_agree.Goals as goal

-- what is inside is left to compare
pub inside-preserved : goal.inside-preserved
inside-preserved c =
    inside_first c.args.types.now c.args.origins.now c.inside.more c.inside.inside.left c.inside.inside.right c.in-Some.next (search rules)
    (search rules) (search rules) (search rules)
    ∙ c.inside.invariant
