use Rattle.std.proofs.Common.{refl}
use Rattle.hs_search.proofs.Listing.{get_there}
use Rattle.hs_search.proofs.Setting.{hashed_set}
use Rattle.hs_search.specs.Hashing.{nearest}
use Rattle.hs_search.specs.declared.lists.Item.{Item}
use Rattle.hs_search.specs.declared.reach.Reach.{Reach}
use Rattle.hs_search.proofs.hashing.Rows.replace.Goals as goal

pub invariant_of-self : goal.invariant_of-self
invariant_of-self c =
    let row = get_there c.args.self.now.lists.items.items c.args.number c.requires.known in
    let its : Item Reach = record row.0 { value = c.args.offer } in
    record {
      hashed = hashed_set nearest c.args.self.now.lists.items.items c.set.new.self.items.items c.args.self.now.older.entries c.args.number row.0 its
          c.args.self.now.hashed row.1 refl (c.requires.row row.0 row.1).0 (c.requires.row row.0 row.1).1 (c.set.ensures.items row.0 row.1);
    }
