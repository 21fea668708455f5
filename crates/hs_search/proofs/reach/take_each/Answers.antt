use Rattle.std.proofs.Common.{rules, ◌≡◌, ◌<◌, length, refl, take, ◌∙◌, Err}
use Rattle.hs_search.specs.Laws.Membership.{Has-index}
use Rattle.hs_search.proofs.Storing.{each_full, take_Has, taking_next}
use Rattle.hs_search.proofs.Tying.{choosing_next, if_all, if_both, if_some, offered_taken}
use Rattle.hs_search.specs.Choices.{none_chosen}
use Rattle.hs_search.specs.Storing.{none_taken}
use Rattle.hs_search.proofs.reach.take_each.Goals as goal

pub loop-offer-init : goal.loop-offer-init
loop-offer-init c = record {
  taking = none_taken c.args.rows.now.lists.items.items;
  chosen = if_all c.args.ties _ (λ calls. none_chosen c.args.rows.now.lists.items.items);
  wide = refl;
}

pub take-requires-clause-known : goal.take-requires-clause-known
take-requires-clause-known c =
    let inside : c.loop-offer.offer-index < length c.args.offers.now = search rules in
    rw c.loop-offer.invariant.wide (c.requires.known _ (Has-index c.args.offers.now c.loop-offer.offer-index _ inside))

pub returns-in_err-take-clause-taken : goal.returns-in_err-take-clause-taken
returns-in_err-take-clause-taken c =
    let inside : c.loop-offer.offer-index < length c.args.offers.now = search rules in
    let is : c.from_residual.result ≡ Err c.in_err-take.field-0.0 = search rules in
    rw is (each_full c.args.room c.args.most c.args.offers.now (take c.loop-offer.offer-index c.args.offers.now) _ c.args.rows.now.lists.items.items
    c.loop-offer.rows.lists.items.items c.take.new.rows.lists.items.items c.in_err-take.field-0.0 c.loop-offer.invariant.taking
    (take_Has c.args.offers.now c.loop-offer.offer-index) (Has-index c.args.offers.now c.loop-offer.offer-index _ inside) c.in_err-take.ensures.taken)

pub loop-offer-preserved : goal.loop-offer-preserved
loop-offer-preserved c =
    let inside : c.loop-offer.offer-index < length c.args.offers.now = search rules in
    record {
      taking = taking_next c.args.room c.args.most c.args.offers.now c.loop-offer.offer-index _ c.args.rows.now.lists.items.items c.loop-offer.rows.lists.items.items
          c.take.new.rows.lists.items.items _ inside c.loop-offer.invariant.taking c.in_ok-take.ensures.taken;
      chosen = if_both c.args.ties _ _ _ c.loop-offer.invariant.chosen c.in_ok-take.ensures.chosen (λ calls before one.
          choosing_next calls.now.entries.items.items c.args.room c.args.most c.args.offers.now c.loop-offer.offer-index _ c.args.rows.now.lists.items.items
          c.loop-offer.rows.lists.items.items c.take.new.rows.lists.items.items inside before one);
      wide = c.take.ensures.wide ∙ c.loop-offer.invariant.wide;
    }

pub take-requires-clause-offered : goal.take-requires-clause-offered
take-requires-clause-offered c =
    let inside : c.loop-offer.offer-index < length c.args.offers.now = search rules in
    if_some c.args.ties _ _ c.requires.offered (λ calls all.
    let own = all _ (Has-index c.args.offers.now c.loop-offer.offer-index _ inside) in (
      offered_taken calls.now.entries.items.items c.args.room c.args.most (take c.loop-offer.offer-index c.args.offers.now)
          c.args.rows.now.lists.items.items c.loop-offer.rows.lists.items.items c.loop-offer.invariant.taking
          (λ s has. all s (take_Has c.args.offers.now c.loop-offer.offer-index s has)) _ own.0,
      own.1,
    ))
