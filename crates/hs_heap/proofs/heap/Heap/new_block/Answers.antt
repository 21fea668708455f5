use Rattle.std.proofs.Common.{rules, ◌≤◌, ◌<◌, length, ap}
use Rattle.hs_heap.proofs.Counting.{kept_push}
use Rattle.hs_heap.proofs.Listing.{listed_push}
use Rattle.hs_heap.proofs.Marking.{marked_push}
use Rattle.hs_heap.specs.Blocks.{Block}
use Rattle.hs_heap.proofs.heap.Heap.new_block.Goals as goal

-- one block more
pub invariant_of-self-2 : goal.invariant_of-self-2
invariant_of-self-2 c =
    let long : length c.push-2.new.self.items ≤ length c.resize.new.self.items = search rules
    in let fewer : length c.self.inside.rows.items < 4294967295 = search rules
    in (
      kept_push _ _ _ _ _ c.self.invariant.0 c.in_ok-row.ensures c.in_ok-push-2.ensures.items c.if-size-self.false fewer,
      marked_push _ _ _ _ _ _ _ _ c.self.invariant.1 (ap {A = Block} (λ it. it.epoch) c.in_ok-row.ensures) c.in_ok-resize.ensures.items long
          c.in_ok-push-2.ensures.items,
      listed_push _ _ _ _ _ _ c.self.invariant.2 c.in_ok-push.ensures.items (search rules) c.in_ok-push-2.ensures.items,
    )
