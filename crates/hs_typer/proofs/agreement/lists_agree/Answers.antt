use Rattle.std.proofs.Common.{rules, ◌∙◌}
use Rattle.hs_typer.proofs.Compared.{lists_next}
use Rattle.hs_typer.proofs.agreement.lists_agree.Goals as goal

-- the others are left to compare
pub lists-preserved : goal.lists-preserved
lists-preserved c =
    lists_next c.args.types.now c.args.origins.now c.lists.more c.lists.left c.lists.right c.in-Some.next (search rules) (search rules) (search rules)
    ∙ c.lists.invariant
