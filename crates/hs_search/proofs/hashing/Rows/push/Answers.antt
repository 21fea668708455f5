use Rattle.std.proofs.Common.{rules, arith}
use Rattle.hs_search.proofs.Hashed.{hashed_pushed}
use Rattle.hs_search.specs.Hashing.{nearest}
use Rattle.hs_search.specs.Listing.{last_in}
use Rattle.hs_search.specs.declared.lists.Item.{Item}
use Rattle.hs_search.specs.declared.reach.Reach.{Reach}
use Rattle.hs_search.proofs.hashing.Rows.push.Goals as goal

pub invariant_of-self : goal.invariant_of-self
invariant_of-self c =
    let it : Item Reach
    = record { key = c.args.at; link = last_in c.args.at c.args.self.now.lists.items.items; value = c.args.value } in
    record {
      hashed = hashed_pushed nearest c.args.self.now.lists.items.items c.push.new.self.items.items it c.keep.new.self.older.entries c.push.result (omega arith)
          (search rules) (c.in_ok-keep.ensures.ready c.args.at c.requires.leaving) (search rules) (search rules);
    }
