use Rattle.std.proofs.Common.{ap, sym, ◌∙◌}
use Rattle.std.specs.FinMap as map
use Rattle.hs_macros.proofs.Entries.{get-as_map}
use Rattle.hs_macros.proofs.macros.Macros.definition.Goals as goal

-- what is lent is the definition that the map has
pub returns : goal.returns
returns c =
    c.get.ensures.value
    ∙ sym (get-as_map c.args.name.now c.self.inside.definitions.entries)
    ∙ ap (λ macros. map.get macros c.args.name.now) c.self.view_is
