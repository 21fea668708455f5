use Rattle.std.proofs.Common.{rules, inr, refl, ◌<◌, length}
use Rattle.hs_search.proofs.Tying.{if_all}
use Rattle.hs_search.specs.Listing.{last_in}
use Rattle.hs_search.specs.Storing.{IsAdded}
use Rattle.hs_search.specs.declared.lists.Item.{Item}
use Rattle.hs_search.specs.declared.reach.Reach.{Reach}
use Rattle.hs_search.proofs.reach.take.Goals as goal

-- the offer's node has no row yet
pub returns-in_ok-push-in-Nowhere-clause-chosen : goal.returns-in_ok-push-in-Nowhere-clause-chosen
returns-in_ok-push-in-Nowhere-clause-chosen c =
    let it : Item Reach
    = record { key = c.args.offer.at; link = last_in c.args.offer.at c.args.rows.now.lists.items.items; value = c.cap.result } in
    let fits : length c.args.rows.now.lists.items.items < c.args.room = search rules in
    let added : IsAdded c.args.room c.args.most c.args.offer c.args.rows.now.lists.items.items c.push.new.self.lists.items.items
    = record {
      outside = c.in-Nowhere.ensures.0;
      it = it;
      key = refl;
      value = c.cap.ensures;
      more = c.in_ok-push-in-Nowhere.ensures.items;
      fits = fits;
    } in
    if_all c.args.ties _ (λ calls. inr added)
