use Rattle.std.proofs.Common.{◌≤◌, ℕ, length, ◌+◌}
use Rattle.hs_search.specs.Deciding.{Clear, IsTree}
use Rattle.hs_search.specs.Judging.{Told}
use Rattle.hs_search.specs.Rivals.{with_offer}
use Rattle.hs_search.proofs.judging.judge.Given as goal

-- what is told of the ends is told of both rows
abbrev pub invariant-calls : goal.invariant-calls
invariant-calls l = record {
  left_within : l.left_end ≤ length (with_offer l.rows.items.items l.offer);
  right_within : l.right_end ≤ length (with_offer l.rows.items.items l.offer);
  less : Told l.calls.entries.items.items (with_offer l.rows.items.items l.offer) l.left_end l.right_end
      → Told l.calls.entries.items.items (with_offer l.rows.items.items l.offer) l.p l.q;
  greater : Told l.calls.entries.items.items (with_offer l.rows.items.items l.offer) l.right_end l.left_end
      → Told l.calls.entries.items.items (with_offer l.rows.items.items l.offer) l.q l.p;
  clear : (base size : ℕ → ℕ) (most : ℕ) → IsTree (with_offer l.rows.items.items l.offer) base size
      → Clear (with_offer l.rows.items.items l.offer) base size most l.p l.q
      → Clear (with_offer l.rows.items.items l.offer) base size most l.left_end l.right_end;
}

abbrev pub decreases-calls : goal.decreases-calls
decreases-calls l = l.left_end + l.right_end
