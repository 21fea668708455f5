use Rattle.std.proofs.Common.{ap, sym, ◌∙◌}
use Rattle.std.specs.Prelude.{option_map, slice_get}
use Rattle.hs_names.specs.Entries.{declaration}
use Rattle.hs_names.specs.Scopes.{newest}
use Rattle.hs_names.proofs.Newest.{newest-seen, newest-none}
use Rattle.hs_names.proofs.scopes.Scopes.newest.Goals as goal

-- the place of the name is that of its newest declaration
pub returns-in-Some : goal.returns-in-Some
returns-in-Some g c =
    ap (option_map declaration) (c.entry_at.ensures ∙ ap (λ its. slice_get its c.in-Some.place) c.deref.ensures.value)
    ∙ newest-seen c.args.name.now c.self.inside.entries.items c.in-Some.place
    (sym (c.self.invariant.index c.args.name.now) ∙ sym c.place.ensures ∙ c.in-Some.is)
    ∙ ap (λ it. newest c.args.name.now it.declarations) c.self.view_is

-- a name without a place has none
pub returns-in-None : goal.returns-in-None
returns-in-None g c =
    sym (newest-none c.args.name.now _ (sym (c.self.invariant.index c.args.name.now) ∙ sym c.place.ensures ∙ c.in-None.is))
    ∙ ap (λ it. newest c.args.name.now it.declarations) c.self.view_is
