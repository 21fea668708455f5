use Rattle.std.proofs.Common.{◌≡◌, ◌<◌, drop}
use Rattle.hs_search.specs.Hashing.{count_in, nearest}
use Rattle.hs_search.specs.Listing.{IsWalk, Seen}
use Rattle.hs_search.specs.Storing.{IsOther}
use Rattle.hs_search.proofs.hashing.Rows.find.Given as goal

-- the rows of the operation from here on have other nodes, and are so many
abbrev pub invariant-newest : goal.invariant-newest
invariant-newest l = record {
  walk : IsWalk l.self.lists.items.items l.reach.at l.number;
  seen : Seen l.self.lists.items.items l.reach.at l.number (IsOther l.reach);
  counted : count_in l.reach.at (drop l.number l.self.lists.items.items) ≡ l.passed;
  few : l.passed < nearest;
}

abbrev pub decreases-newest : goal.decreases-newest
decreases-newest l = l.number
