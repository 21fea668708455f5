use Rattle.std.proofs.Common.{rules, ◌∙◌}
use Rattle.hs_operand_types.proofs.Compatible.{compatible_inside}
use Rattle.hs_operand_types.proofs.types.are_compatible.Goals as goal

-- what is inside is left to compare
pub inside-preserved : goal.inside-preserved
inside-preserved c =
    compatible_inside c.inside.more c.args.types.now c.inside.inside.left c.inside.inside.right c.in-Some.next (search rules) (search rules) (search rules)
    (search rules)
    ∙ c.inside.invariant
