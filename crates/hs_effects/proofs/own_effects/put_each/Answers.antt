use Rattle.hs_effects.proofs.SixEffects.{six}
use Rattle.hs_effects.proofs.own_effects.put_each.Goals as goal

-- one after the other
pub returns : goal.returns
returns c = record {
  grows =
      six c.args.function c.args.its c.args.work.now c.put_if.new.work c.put_if-2.new.work c.put_if-3.new.work c.put_if-4.new.work
      c.put_if-5.new.work c.put_if-6.new.work c.in_ok-put_if.ensures.grows c.in_ok-put_if-2.ensures.grows c.in_ok-put_if-3.ensures.grows
      c.in_ok-put_if-4.ensures.grows c.in_ok-put_if-5.ensures.grows c.in_ok-put_if-6.ensures.grows;
}
