use Rattle.std.proofs.Common.{is_ok}
use Rattle.hs_search.proofs.Listing.{IsIndex-widen_if}
use Rattle.hs_search.proofs.lists.Lists.widen.Goals as goal

pub invariant_of-self : goal.invariant_of-self
invariant_of-self g c = record {
  right = IsIndex-widen_if (is_ok c.push.result) c.args.self.now.heads.items _ c.args.self.now.items.items c.args.self.now.right c.push.ensures.items;
  few = c.args.self.now.few;
}
