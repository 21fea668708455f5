use Rattle.std.proofs.Common.{rules, ◌≡◌, ◌<◌, length, ap, sym, refl, [], ◌∙◌, subst}
use Rattle.hs_names.specs.Entries.{IsKept}
use Rattle.hs_index.specs.Index.{at, Puts}
use Rattle.hs_names.proofs.Kept.{kept-declared}
use Rattle.hs_names.proofs.Newest.{onto-push}
use Rattle.hs_names.proofs.scopes.Scopes.put.Goals as goal

-- the new entry has the place of what it hides
pub invariant_of-self-in-Ok : goal.invariant_of-self-in-Ok
invariant_of-self-in-Ok g c =
    let counted : c.len-count.result ≡ length c.self.inside.entries.items = search rules in
    let few : length c.self.inside.entries.items < 4000000000 = search rules in
    let place : Puts c.args.name.items (length c.self.inside.entries.items) c.self.inside.index c.put.new.self =
    subst (λ name. Puts name (length c.self.inside.entries.items) c.self.inside.index c.put.new.self) c.requires
    (subst (λ count. Puts c.args.key.items count c.self.inside.index c.put.new.self) counted c.in-Ok.ensures.put) in
    let hidden : c.place-hidden.result ≡ at c.args.name.items c.self.inside.index =
    c.place-hidden.ensures ∙ ap (λ name. at name c.self.inside.index) c.deref.ensures.value in
    subst (IsKept c.put.new.self) (sym c.in_ok-push.ensures.items)
    (kept-declared c.self.inside.index c.put.new.self c.self.inside.entries.items _ c.self.invariant place hidden few)

-- the newest declaration is the new one
pub returns-in-Ok-clause-declared : goal.returns-in-Ok-clause-declared
returns-in-Ok-clause-declared g c =
    rw (← c.self.view_is, c.in_ok-push.ensures.items, onto-push [] c.self.inside.entries.items) refl
