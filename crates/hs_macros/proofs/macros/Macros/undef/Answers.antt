use Rattle.std.proofs.Common.{ap, ◌∙◌}
use Rattle.std.specs.FinMap as map
use Rattle.hs_macros.proofs.Entries.{as_map-removed}
use Rattle.hs_macros.proofs.macros.Macros.undef.Goals as goal

-- the entries lost the name, and no other
pub returns : goal.returns
returns c =
    let updates = c.swap_remove.ensures.updates in
    as_map-removed c.args.name.now c.self.inside.definitions.entries c.swap_remove.new.self.entries updates.1 updates.3
    ∙ ap (λ macros. map.remove macros c.args.name.now) c.self.view_is
