use Rattle.std.proofs.Common.{rules, arith, ◌≤◌, length, sym}
use Rattle.hs_search.proofs.Listing.{none_in}
use Rattle.hs_search.proofs.lists.Lists.newest.Goals as goal

pub returns-else-key-len : goal.returns-else-key-len
returns-else-key-len g c =
    let past : length c.args.self.now.heads.items ≤ c.args.key = search rules in
    sym (none_in c.args.key c.args.self.now.items.items (λ n it there. let below = c.args.self.now.right.below n it there in omega arith))
