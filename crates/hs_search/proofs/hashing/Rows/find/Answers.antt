use Rattle.std.proofs.Common.{rules, ◌<◌, arith}
use Rattle.hs_search.proofs.Hashed.{count_last, counted_back}
use Rattle.hs_search.proofs.Listing.{walk_first, walk_back}
use Rattle.hs_search.specs.Storing.{IsOther}
use Rattle.hs_search.proofs.hashing.Rows.find.Goals as goal

pub newest-init : goal.newest-init
newest-init c =
    let all = walk_first c.args.self.now.lists.items.items c.args.reach.at c.last-number.result (IsOther c.args.reach) c.last-number.ensures in
    record {
      walk = all.0;
      seen = all.1;
      counted = rw c.last-number.ensures (count_last c.args.reach.at c.args.self.now.lists.items.items);
      few = omega arith;
    }

pub newest-smaller : goal.newest-smaller
newest-smaller c =
    let some : 0 < c.newest.number = search rules in
    (walk_back c.args.self.now.lists.heads.items c.args.self.now.lists.items.items c.args.reach.at c.newest.number c.item-row.result.now
    (IsOther c.args.reach) c.args.self.now.lists.right c.newest.invariant.walk c.newest.invariant.seen some c.item-row.ensures (search rules)).2

pub newest-preserved : goal.newest-preserved
newest-preserved c =
    let some : 0 < c.newest.number = search rules in
    let all = walk_back c.args.self.now.lists.heads.items c.args.self.now.lists.items.items c.args.reach.at c.newest.number c.item-row.result.now
    (IsOther c.args.reach) c.args.self.now.lists.right c.newest.invariant.walk c.newest.invariant.seen some c.item-row.ensures (search rules) in
    record {
      walk = all.0;
      seen = all.1;
      counted = counted_back c.args.self.now.lists.heads.items c.args.self.now.lists.items.items c.args.reach.at c.newest.number c.item-row.result.now
          c.newest.passed c.args.self.now.lists.right c.newest.invariant.walk some c.item-row.ensures c.newest.invariant.counted;
      few = (let more = c.newest.invariant.few in omega arith);
    }
