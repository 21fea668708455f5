use Rattle.std.proofs.Common.{◌≡◌, length, IfSome}
use Rattle.hs_search.specs.Choices.{Choosing}
use Rattle.hs_search.specs.Listing.{IsWalk}
use Rattle.hs_search.proofs.Storing.{IsTakenFrom}
use Rattle.hs_search.proofs.reach.take_listed.Given as goal

-- those of the key from here on are taken
abbrev pub invariant-offers : goal.invariant-offers
invariant-offers l = record {
  taken : IsTakenFrom l.room l.most l.offers.items.items l.key l.number l.fn.rows.lists.items.items l.rows.lists.items.items;
  chosen : IfSome l.ties (λ calls. Choosing calls.now.entries.items.items l.room l.most taken.taken l.fn.rows.lists.items.items l.rows.lists.items.items);
  walk : IsWalk l.offers.items.items l.key l.number;
  wide : length l.rows.lists.heads.items ≡ length l.fn.rows.lists.heads.items;
}

abbrev pub decreases-offers : goal.decreases-offers
decreases-offers l = l.number
