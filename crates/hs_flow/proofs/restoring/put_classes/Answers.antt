use Rattle.std.proofs.Common.{arith, ◌∙◌}
use Rattle.hs_flow.proofs.Restored.{classes_on}
use Rattle.hs_flow.proofs.restoring.put_classes.Goals as goal

-- one more is put
pub classes-preserved : goal.classes-preserved
classes-preserved g c = record {
  facts =
      classes_on (g.A.Around.given c.args.around.now) c.args.argument c.classes.class c.classes.into.facts c.put_purgeable.new.into.facts c.args.into.now.facts
      c.put_purgeable.ensures.facts c.classes.invariant.facts;
  room = c.put_purgeable.ensures.room ∙ c.classes.invariant.room;
  left = omega (arith, c.put_purgeable.ensures.few, c.classes.invariant.left);
}
