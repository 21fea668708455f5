use Rattle.std.proofs.Common.{rules, ◌≡◌, ◌<◌, ◌-◌, refl, ◌∙◌, Err, []}
use Rattle.hs_search.proofs.Listing.{walk_first, walk_own}
use Rattle.hs_search.proofs.Storing.{taken_first, listed_full, listed_at, from_more}
use Rattle.hs_search.proofs.Tying.{if_all, if_both, if_some, offered_taken}
use Rattle.hs_search.specs.Choices.{none_chosen, one_chosen}
use Rattle.hs_search.specs.Graphs.{Has}
use Rattle.hs_search.proofs.reach.take_listed.Goals as goal

pub offers-init : goal.offers-init
unfolding taken_first
offers-init c =
    let all = walk_first c.args.offers.now.items.items c.args.key c.newest-number.result (λ n it. Has [] it.value) c.newest-number.ensures in
    record {
      taken = taken_first c.args.room c.args.most c.args.offers.now.items.items c.args.key c.newest-number.result c.args.rows.now.lists.items.items all.1;
      chosen = if_all c.args.ties _ (λ calls. none_chosen c.args.rows.now.lists.items.items);
      walk = all.0;
      wide = refl;
    }

pub returns-in_err-take-clause-taken : goal.returns-in_err-take-clause-taken
returns-in_err-take-clause-taken c =
    let some : 0 < c.offers.number = search rules in
    let is : c.from_residual.result ≡ Err c.in_err-take.field-0.0 = search rules in
    let own = walk_own c.args.offers.now.items.items c.args.key c.offers.number c.item-offer.result.now c.offers.invariant.walk some c.item-offer.ensures in
    rw is (listed_full c.args.room c.args.most c.args.offers.now.items.items c.args.key c.offers.invariant.taken.taken c.item-offer.result.now.value
    c.args.rows.now.lists.items.items c.offers.rows.lists.items.items c.take.new.rows.lists.items.items c.in_err-take.field-0.0 c.offers.invariant.taken.taking
    c.offers.invariant.taken.each (listed_at c.args.offers.now.items.items c.args.key (c.offers.number - 1) c.item-offer.result.now c.item-offer.ensures own)
    c.in_err-take.ensures.taken)

pub offers-smaller : goal.offers-smaller
offers-smaller c =
    let some : 0 < c.offers.number = search rules in
    (from_more c.args.room c.args.most c.args.offers.now.heads.items c.args.offers.now.items.items c.args.key c.offers.number c.item-offer.result.now
    c.args.rows.now.lists.items.items c.offers.rows.lists.items.items c.take.new.rows.lists.items.items _ c.args.offers.now.right c.offers.invariant.walk
    c.offers.invariant.taken some c.item-offer.ensures c.in_ok-take.ensures.taken).2

pub offers-preserved : goal.offers-preserved
unfolding from_more
offers-preserved c =
    let some : 0 < c.offers.number = search rules in
    let all = from_more c.args.room c.args.most c.args.offers.now.heads.items c.args.offers.now.items.items c.args.key c.offers.number
    c.item-offer.result.now c.args.rows.now.lists.items.items c.offers.rows.lists.items.items c.take.new.rows.lists.items.items _ c.args.offers.now.right
    c.offers.invariant.walk c.offers.invariant.taken some c.item-offer.ensures c.in_ok-take.ensures.taken in
    record {
      taken = all.0;
      chosen = if_both c.args.ties _ _ _ c.offers.invariant.chosen c.in_ok-take.ensures.chosen (λ calls before one.
          one_chosen c.offers.invariant.taken.taken c.item-offer.result.now.value c.args.rows.now.lists.items.items c.offers.rows.lists.items.items
          c.take.new.rows.lists.items.items before one);
      walk = all.1;
      wide = c.take.ensures.wide ∙ c.offers.invariant.wide;
    }

pub take-requires-clause-offered : goal.take-requires-clause-offered
take-requires-clause-offered c =
    let some : 0 < c.offers.number = search rules in
    let own = walk_own c.args.offers.now.items.items c.args.key c.offers.number c.item-offer.result.now c.offers.invariant.walk some c.item-offer.ensures in
    if_some c.args.ties _ _ c.requires.offered (λ calls all.
    let its = all _ (listed_at c.args.offers.now.items.items c.args.key (c.offers.number - 1) c.item-offer.result.now c.item-offer.ensures own) in (
      offered_taken calls.now.entries.items.items c.args.room c.args.most c.offers.invariant.taken.taken c.args.rows.now.lists.items.items
          c.offers.rows.lists.items.items c.offers.invariant.taken.taking (λ s has. all s (c.offers.invariant.taken.each s has)) _ its.0,
      its.1,
    ))
