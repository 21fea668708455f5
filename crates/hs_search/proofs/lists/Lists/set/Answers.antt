use Rattle.std.proofs.Common.{refl, ap, sym, ◌∙◌, slice_set, subst, suc, ◌<◌}
use Rattle.hs_search.proofs.Listing.{some_is}
use Rattle.hs_search.proofs.Setting.{IsIndex-set, set_length}
use Rattle.hs_search.specs.declared.lists.Item.{Item}
use Rattle.hs_search.proofs.lists.Lists.set.Goals as goal

pub invariant_of-self : goal.invariant_of-self
invariant_of-self g c = record {
  right = IsIndex-set c.args.self.now.heads.items c.args.self.now.items.items _ c.args.number c.item-item.result.now
      (record { key = c.item-item.result.now.key; link = c.item-item.result.now.link; value = c.args.value }) c.args.self.now.right c.item-item.ensures refl
      refl refl;
  few = subst (λ n. suc n < 4294967296) (sym (set_length c.args.self.now.items.items c.args.number _)) c.args.self.now.few;
}

pub returns-clause-items : goal.returns-clause-items
returns-clause-items g c it at =
    ap (λ (i : Item _). slice_set c.args.self.now.items.items c.args.number (record { key = i.key; link = i.link; value = c.args.value }))
    (some_is (sym c.item-item.ensures ∙ at))
