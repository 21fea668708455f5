use Rattle.std.proofs.Common.{is_some, ap, sym, ◌∙◌}
use Rattle.std.specs.FinMap as map
use Rattle.hs_macros.proofs.Entries.{get-as_map}
use Rattle.hs_macros.proofs.macros.Macros.is_defined.Goals as goal

-- the name has a definition if the map has one
pub returns : goal.returns
returns c =
    c.contains_key.ensures
    ∙ ap is_some (sym (get-as_map c.args.name.now c.self.inside.definitions.entries)
    ∙ ap (λ macros. map.get macros c.args.name.now) c.self.view_is)
