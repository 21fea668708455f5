use Rattle.std.proofs.Common.{rules, ◌≡◌, length, suc, ap, slice_set}
use Rattle.hs_search.proofs.Listing.{IsIndex-push}
use Rattle.hs_search.proofs.lists.Lists.push.Goals as goal

-- the head of the key is the new item
pub invariant_of-self-2 : goal.invariant_of-self-2
invariant_of-self-2 g c =
    let count : c.len-2.result ≡ suc (length c.args.self.now.items.items) = search rules in
    let long : length c.push.new.self.items ≡ suc (length c.args.self.now.items.items) = search rules in
    record {
      right = IsIndex-push c.args.self.now.heads.items c.args.self.now.items.items
          (record { key = c.args.key; link = c.last-link.result; value = c.args.value }) _ _ c.args.self.now.right c.requires.known c.last-link.ensures
          c.in_ok-push.ensures.items (ap (slice_set c.args.self.now.heads.items c.args.key) count);
      few = search rules;
    }
