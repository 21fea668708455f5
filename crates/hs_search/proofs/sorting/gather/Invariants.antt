use Rattle.std.proofs.Common.{◌≡◌, ◌++◌}
use Rattle.hs_search.proofs.Parts.{rest}
use Rattle.hs_search.specs.Listing.{IsWalk}
use Rattle.hs_search.specs.Sorting.{newest}
use Rattle.hs_search.proofs.sorting.gather.Given as goal

-- what is put, and what is left, is all
abbrev pub invariant-rows : goal.invariant-rows
invariant-rows l = record {
  walk : IsWalk l.rows.items.items l.at l.number;
  all : l.order.items ++ rest l.at l.rows.items.items l.number ≡ l.fn.order.items ++ newest l.at l.rows.items.items;
}

abbrev pub decreases-rows : goal.decreases-rows
decreases-rows l = l.number
