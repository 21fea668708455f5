use Rattle.std.proofs.Common.{◌≡◌, length, take, IfSome}
use Rattle.hs_search.specs.Choices.{Choosing}
use Rattle.hs_search.specs.Storing.{Taking}
use Rattle.hs_search.proofs.reach.take_each.Given as goal

-- so many are taken
abbrev pub invariant-loop-offer : goal.invariant-loop-offer
invariant-loop-offer l = record {
  taking : Taking l.room l.most (take l.offer-index l.offers) l.fn.rows.lists.items.items l.rows.lists.items.items;
  chosen : IfSome l.ties (λ calls. Choosing calls.now.entries.items.items l.room l.most (take l.offer-index l.offers) l.fn.rows.lists.items.items
      l.rows.lists.items.items);
  wide : length l.rows.lists.heads.items ≡ length l.fn.rows.lists.heads.items;
}
