use Rattle.std.proofs.Common.{rules, ◌<◌, length, refl}
use Rattle.hs_search.proofs.PuttingOff.{below_more, put_next, put_none}
use Rattle.hs_search.proofs.searching.put_off.Goals as goal

pub loop-jump-init : goal.loop-jump-init
loop-jump-init c = record { put = put_none c.args.most c.args.far.now.items.items; below = c.requires.below }

pub loop-jump-preserved : goal.loop-jump-preserved
loop-jump-preserved c =
    let inside : c.loop-jump.jump-index < length c.as_slice-jump-items.result.now = search rules in
    record {
      put = put_next c.args.most c.as_slice-jump-items.result.now c.loop-jump.jump-index _ _ c.args.far.now.items.items c.loop-jump.far.items.items
          c.push.new.self.items.items inside c.loop-jump.invariant.put refl c.key-key.ensures.is (rw c.widen_to.ensures.items at c.in_ok-push.ensures.items);
      below = below_more c.loop-jump.last c.later-last.result _ c.loop-jump.far.items.items c.push.new.self.items.items c.loop-jump.invariant.below
          c.later-last.ensures.left c.later-last.ensures.right (rw c.widen_to.ensures.items at c.in_ok-push.ensures.items);
    }
