use Rattle.std.proofs.Common.{◌≤◌, length, ◌+◌}
use Rattle.hs_search.specs.Meeting.{AreTwo, IsPast, Side}
use Rattle.hs_search.specs.Rivals.{with_offer}
use Rattle.hs_search.proofs.judging.meet.Given as goal

-- both are on the way, and the rows after them have greater numbers
abbrev pub invariant-back : goal.invariant-back
invariant-back l = record {
  x_within : l.x ≤ length (with_offer l.rows.items.items l.offer);
  y_within : l.y ≤ length (with_offer l.rows.items.items l.offer);
  left_side : Side (with_offer l.rows.items.items l.offer) l.p l.x l.left;
  right_side : Side (with_offer l.rows.items.items l.offer) l.q l.y l.right;
  left_past : IsPast l.y l.left;
  right_past : IsPast l.x l.right;
  two : AreTwo l.left l.right;
}

abbrev pub decreases-back : goal.decreases-back
decreases-back l = l.x + l.y
