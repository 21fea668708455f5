use Rattle.std.proofs.Common.{rules, sym, ◌∙◌}
use Rattle.hs_expressions.specs.declared.roles.Shape.TheVariants.{Pointer}
use Rattle.hs_expressions.proofs.Shaped.{shaped_past}
use Rattle.hs_expressions.proofs.roles.are_shaped.Goals as goal

-- fewer parameters than shapes
pub returns-in_default : goal.returns-in_default
returns-in_default c =
    sym (shaped_past c.args.types.now c.args.shapes.now c.shapes.shape-index Pointer c.shapes.list c.shapes-test.true (search rules)) ∙ c.shapes.invariant
