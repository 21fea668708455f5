use Rattle.std.proofs.Common.{◌≡◌, rules}
use Rattle.hs_macros.specs.Lines.{named}
use Rattle.hs_macros.proofs.Entries.{as_map-inserted}
use Rattle.hs_macros.proofs.macros.Macros.insert.Goals as goal

-- the entries took the copy of what the line defines, at the copy of its name
pub returns-clause-inserted : goal.returns-clause-inserted
returns-clause-inserted c =
    let name : c.in_ok-name.name.items ≡ c.args.line.now.name.now = search rules in
    let definition : c.in_ok-definition.definition ≡ (named c.args.line.now).definition = search rules in
    let updates = c.in_ok-insert.ensures.updates in
    rw (← name, ← definition, ← c.self.view_is)
    (as_map-inserted c.in_ok-name.name.items c.in_ok-definition.definition c.self.inside.definitions.entries c.insert.new.self.entries updates.1 updates.3)
