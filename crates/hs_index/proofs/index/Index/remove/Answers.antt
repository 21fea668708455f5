use Rattle.hs_index.proofs.Changes.{changed}
use Rattle.hs_index.proofs.index.Index.remove.Goals as goal

-- the entries lost the name, and no other
pub returns : goal.returns
returns c =
    let updates = c.swap_remove.ensures.updates in
    rw (← c.self.view_is) (changed c.args.name.now c.self.inside.places.entries c.swap_remove.new.self.entries _ updates.1 updates.3)
