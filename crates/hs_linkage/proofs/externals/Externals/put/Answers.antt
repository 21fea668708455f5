use Rattle.std.proofs.Common.{rules, ◌≡◌, ◌<◌, length, ap, sym, refl, [], ◌∙◌, subst}
use Rattle.hs_linkage.specs.Chains.{IsKept}
use Rattle.hs_index.specs.Index.{at, Puts}
use Rattle.hs_linkage.proofs.Chained.{onto-push}
use Rattle.hs_linkage.proofs.KeptChains.{kept-pushed}
use Rattle.hs_linkage.proofs.externals.Externals.put.Goals as goal

-- the new entry has the place of the next older one of its name
pub invariant_of-self-in-Ok : goal.invariant_of-self-in-Ok
invariant_of-self-in-Ok c =
    let counted : c.len-count.result ≡ length c.self.inside.entries.items = search rules in
    let few : length c.self.inside.entries.items < 4000000000 = search rules in
    let place : Puts c.args.external.name (length c.self.inside.entries.items) c.self.inside.index c.put.new.self =
    subst (λ name. Puts name (length c.self.inside.entries.items) c.self.inside.index c.put.new.self) c.requires
    (subst (λ count. Puts c.args.key.items count c.self.inside.index c.put.new.self) counted c.in-Ok.ensures.put) in
    let older : c.place-older.result ≡ at c.args.external.name c.self.inside.index =
    c.place-older.ensures ∙ ap (λ name. at name c.self.inside.index) (c.deref.ensures.value ∙ c.requires) in
    subst (IsKept c.put.new.self) (sym c.in_ok-push.ensures.items)
    (kept-pushed c.self.inside.index c.put.new.self c.self.inside.entries.items _ c.self.invariant place older few)

-- the newest declaration is the new one
pub returns-in-Ok-clause-pushed : goal.returns-in-Ok-clause-pushed
returns-in-Ok-clause-pushed c =
    rw (← c.self.view_is, c.in_ok-push.ensures.items, onto-push [] c.self.inside.entries.items) refl
