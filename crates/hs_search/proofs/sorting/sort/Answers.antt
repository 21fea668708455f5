use Rattle.std.proofs.Common.{rules, add-one}
use Rattle.hs_search.proofs.Parts.{parts_more, parts_none}
use Rattle.hs_search.proofs.sorting.sort.Goals as goal

pub loop-at-init : goal.loop-at-init
loop-at-init c = record {
  parts = parts_none c.args.rows.now.items.items c.new-order.result.items c.push.new.self.items;
  long = search rules;
  next = search rules;
}

-- one operation more
pub loop-at-preserved : goal.loop-at-preserved
loop-at-preserved c =
    let all = parts_more c.args.rows.now.items.items c.loop-at.at c.len.result c.loop-at.order.items c.gather.new.order.items c.loop-at.starts.items
    c.push-in-loop-at.new.self.items c.loop-at.invariant.parts c.loop-at.invariant.long c.loop-at.invariant.next c.in_ok-gather.ensures (search rules)
    c.in_ok-push-2.ensures.items in
    rw add-one (record { parts = all.0; long = all.1; next = all.2 })
