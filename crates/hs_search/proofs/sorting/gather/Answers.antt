use Rattle.std.proofs.Common.{rules, ◌<◌}
use Rattle.hs_search.proofs.Listing.{walk_back, walk_first}
use Rattle.hs_search.proofs.Parts.{gather_first, gather_more}
use Rattle.hs_search.proofs.sorting.gather.Goals as goal

pub rows-init : goal.rows-init
rows-init c = record {
  walk = (walk_first c.args.rows.now.items.items c.args.at c.last-number.result (λ n it. Unit {0}) c.last-number.ensures).0;
  all = gather_first c.args.at c.last-number.result c.args.rows.now.items.items c.args.order.now.items c.last-number.ensures;
}

pub rows-smaller : goal.rows-smaller
rows-smaller c =
    let some : 0 < c.rows.number = search rules in
    (walk_back c.args.rows.now.heads.items c.args.rows.now.items.items c.args.at c.rows.number c.item.result.now (λ n it. Unit {0}) c.args.rows.now.right
    c.rows.invariant.walk (λ n it from there own. tt) some c.item.ensures tt).2

pub rows-preserved : goal.rows-preserved
rows-preserved c =
    let some : 0 < c.rows.number = search rules in
    record {
      walk = (walk_back c.args.rows.now.heads.items c.args.rows.now.items.items c.args.at c.rows.number c.item.result.now (λ n it. Unit {0})
          c.args.rows.now.right c.rows.invariant.walk (λ n it from there own. tt) some c.item.ensures tt).0;
      all = gather_more c.args.rows.now.heads.items c.args.at c.rows.number c.args.rows.now.items.items c.item.result.now c.rows.order.items
          c.push.new.self.items _ c.args.rows.now.right c.rows.invariant.walk some c.item.ensures c.in_ok-push.ensures.items c.rows.invariant.all;
    }
