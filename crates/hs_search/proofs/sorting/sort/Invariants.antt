use Rattle.std.proofs.Common.{◌≡◌, length, suc, slice_index_or}
use Rattle.hs_search.specs.Sorting.{AreParts}
use Rattle.hs_search.proofs.sorting.sort.Given as goal

-- the rows of so many operations are sorted
abbrev pub invariant-loop-at : goal.invariant-loop-at
invariant-loop-at l = record {
  parts : AreParts l.at l.rows.items.items l.order.items l.starts.items;
  long : length l.starts.items ≡ suc l.at;
  next : slice_index_or l.starts.items l.at 0 ≡ length l.order.items;
}
