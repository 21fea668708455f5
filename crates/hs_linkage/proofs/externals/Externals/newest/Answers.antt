use Rattle.std.proofs.Common.{ap, sym, ◌∙◌}
use Rattle.std.specs.Prelude.{option_copied}
use Rattle.hs_linkage.specs.Chains.{entry_at}
use Rattle.hs_linkage.specs.Externals.{newest_external}
use Rattle.hs_linkage.proofs.Chained.{newest-some, newest-none}
use Rattle.hs_linkage.proofs.externals.Externals.newest.Goals as goal

-- the place of the name is that of its newest declaration
pub returns-in-Some : goal.returns-in-Some
returns-in-Some c =
    let items = c.self.inside.entries.items in
    sym (newest-some items c.args.name.now c.in-Some.entry.now
    (ap (λ number. entry_at number items) (sym (c.self.invariant.index c.args.name.now) ∙ sym c.place.ensures)
    ∙ sym (ap (entry_at c.place.result) c.deref.ensures.value) ∙ sym c.entry_at.ensures ∙ ap option_copied c.in-Some.is))
    ∙ ap (newest_external c.args.name.now) c.self.view_is

-- a name without a place has none
pub returns-in-None : goal.returns-in-None
returns-in-None c =
    let items = c.self.inside.entries.items in
    sym (newest-none items c.args.name.now
    (ap (λ number. entry_at number items) (sym (c.self.invariant.index c.args.name.now) ∙ sym c.place.ensures)
    ∙ sym (ap (entry_at c.place.result) c.deref.ensures.value) ∙ sym c.entry_at.ensures ∙ ap option_copied c.in-None.is))
    ∙ ap (newest_external c.args.name.now) c.self.view_is
