use Rattle.std.proofs.Common.{rules, ◌≡◌, None}
use Rattle.hs_search.proofs.Hashed.{kept_none, kept_some}
use Rattle.hs_search.specs.Hashing.{nearest}
use Rattle.hs_search.proofs.hashing.Rows.keep.Goals as goal

pub returns-in_default-clause-ready : goal.returns-in_default-clause-ready
returns-in_default-clause-ready c =
    let none : c.args.leaving ≡ None = search rules in
    kept_none nearest c.args.self.now.lists.items.items c.args.self.now.older.entries c.args.self.now.hashed c.args.leaving none

pub returns-clause-ready : goal.returns-clause-ready
returns-clause-ready c =
    kept_some nearest c.args.self.now.lists.items.items c.args.self.now.older.entries c.insert.new.self.entries c.args.self.now.hashed c.args.leaving
    c.in-Some.number c.in-Some.is c.item-row.result.now c.item-row.ensures (search rules)
