use Rattle.std.proofs.Common.{rules, ◌≡◌, Some, None}
use Rattle.hs_search.proofs.Hashed.{hashed_none, row_spot}
use Rattle.hs_search.specs.Hashing.{hashed, nearest}
use Rattle.hs_search.proofs.hashing.Rows.find_older.Goals as goal

-- the hash finds only rows of the node
pub returns-in-Some : goal.returns-in-Some
returns-in-Some c =
    let found : hashed c.args.reach c.args.self.now.older.entries ≡ Some c.in-Some.number.now = search rules in
    row_spot c.args.self.now.lists.items.items c.args.reach c.in-Some.number.now (c.args.self.now.hashed.right c.args.reach c.in-Some.number.now found)

-- and all that are not among the newest
pub returns-in-None : goal.returns-in-None
returns-in-None c =
    let none : hashed c.args.reach c.args.self.now.older.entries ≡ None = search rules in (
      hashed_none nearest c.args.self.now.lists.items.items c.args.self.now.older.entries c.args.self.now.hashed c.args.reach c.args.oldest c.requires.oldest
          c.requires.seen none,
      c.requires.oldest,
    )
