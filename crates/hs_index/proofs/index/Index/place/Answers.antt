use Rattle.std.proofs.Common.{ap, sym, ◌∙◌}
use Rattle.hs_index.specs.Index.{at}
use Rattle.hs_index.proofs.Changes.{at-by_bytes}
use Rattle.hs_index.proofs.index.Index.place.Goals as goal

-- what is looked up is what the entries have at the name
pub returns : goal.returns
returns c =
    c.copied.ensures ∙ c.get.ensures.value ∙ sym (at-by_bytes c.args.name.now c.self.inside.places.entries)
    ∙ ap (λ its. at c.args.name.now its) c.self.view_is
