use Rattle.std.proofs.Common.{arith, ◌∙◌}
use Rattle.hs_flow.proofs.Restored.{places_on}
use Rattle.hs_flow.proofs.restoring.put_places.Goals as goal

-- one more is put
pub places-preserved : goal.places-preserved
places-preserved g c = record {
  facts =
      places_on (g.A.Around.given c.args.around.now) c.args.argument c.places.place c.places.into.facts c.put_purgeable.new.into.facts c.args.into.now.facts
      c.put_purgeable.ensures.facts c.places.invariant.facts;
  room = c.put_purgeable.ensures.room ∙ c.places.invariant.room;
  left = omega (arith, c.put_purgeable.ensures.few, c.places.invariant.left);
}
