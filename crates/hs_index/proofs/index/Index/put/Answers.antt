use Rattle.std.proofs.Common.{ap, sym, ◌∙◌}
use Rattle.hs_index.specs.Index.{at}
use Rattle.hs_index.proofs.Changes.{changed, at-by_bytes}
use Rattle.hs_index.proofs.index.Index.put.Goals as goal

-- the entries took the place at the name, and at no other
pub returns-clause-put : goal.returns-clause-put
returns-clause-put c =
    let updates = c.in-Ok.ensures.updates in
    rw (← c.self.view_is) (changed c.args.name.items c.self.inside.places.entries c.insert.new.self.entries _ updates.1 updates.3)

-- an insertion fails only if the name has no place
pub returns-in_default-clause-absent : goal.returns-in_default-clause-absent
returns-in_default-clause-absent c =
    sym (ap (at c.args.name.items) c.self.view_is) ∙ at-by_bytes c.args.name.items c.self.inside.places.entries ∙ c.in_default.ensures.absent
