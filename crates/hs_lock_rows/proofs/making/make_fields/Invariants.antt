use Rattle.std.proofs.Common.{◌≡◌, ◌<◌, ℕ}
use Rattle.hs_lock_rows.specs.Given.{Locks}
use Rattle.hs_lock_rows.specs.Layout.{IsField, field_number, number}
use Rattle.hs_lock_rows.specs.Making.{Shows, given_at}
use Rattle.hs_lock_rows.specs.declared.field.Field.{Field}
use Rattle.hs_rows.specs.Sets.{has, KeepsRows, SameSize}
use Rattle.hs_lock_rows.proofs.making.make_fields.Given as goal

-- the fields so far are written
abbrev pub invariant-fields : goal.invariant-fields
invariant-fields g l = record {
  done : (facts : Locks) → Shows l.point.plan (has l.initial.rows l.point.at) facts → (field : Field) (i : ℕ) → IsField l.point.plan field
      → i < l.point.plan.names → field_number l.point.plan field < l.number
      → has l.rows l.to (number l.point.plan field i)
      ≡ given_at l.point.plan l.lists.names.now l.lists.slots.now (g.C.Callees.assigned l.callees) l.point.low.now l.point.at l.change facts field i;
  others : KeepsRows l.to l.initial.rows l.rows;
  size : SameSize l.initial.rows l.rows;
}
