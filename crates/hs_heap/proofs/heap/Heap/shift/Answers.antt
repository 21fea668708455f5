use Rattle.std.proofs.Common.{◌≡◌, ◌≤◌, ◌<◌, ◌+◌, ◌||◌, length, sym, ap, subst, ◌∙◌}
use Rattle.hs_heap.proofs.Listing.{listed_left, listed_each, listed_purged, relocated_leaves}
use Rattle.hs_heap.proofs.Passing.{length_numbered}
use Rattle.hs_heap.proofs.Shifting.{shift_is, kept_shift, marked_shift, EpochsRise-shift, length_shift}
use Rattle.hs_heap.specs.Memory.{Memory, IsKept, IsMarked}
use Rattle.hs_heap.specs.Passes.{purged, relocated, if_named}
use Rattle.hs_heap.specs.Shift.{OthersStay, LockedStay, EpochsRise, shift, after_shift}
use Rattle.hs_heap.specs.ShiftLaws.{others_stay, locked_stay}
use Rattle.hs_heap.proofs.heap.Heap.shift.Goals as goal
use Rattle.hs_heap.proofs.heap.Heap.shift.Goals.{then-moves, else-moves}

-- the list has each block that is not disposed, before each pass and after both
pub purge-requires : goal.purge-requires
purge-requires c =
    record {
      listed = rw c.as_slice-2.ensures.value (listed_left c.args.d.now _ _ _ c.self.invariant.2 (rw c.as_slice.ensures.value at c.drop_disposed.ensures));
    }

pub relocate-requires-clause-listed : goal.relocate-requires-clause-listed
relocate-requires-clause-listed c =
    rw c.as_slice-3.ensures.value
    (listed_purged _ c.args.d.now _ _ _ _ c.self.invariant.2 (rw c.as_slice.ensures.value at c.drop_disposed.ensures) c.purge.ensures)

pub relocate-requires-clause-long : goal.relocate-requires-clause-long
relocate-requires-clause-long c =
    subst (λ n. n ≤ length c.self.inside.marks.items)
    (sym (ap length c.purge.ensures ∙ length_numbered (if_named c.args.purges c.args.d.now.purges purged) 1 c.self.inside.rows.items))
    c.self.invariant.1.long

-- a routine that purges may move as well
may_move : (c : goal.After-relocate) → c.if-moves.relocate ≡ (c.args.moves || c.args.purges)
may_move c = elim c.if-moves.branch [ then-moves w ↦ rw w.if-moves.true (w.relocate-is ∙ w.if-moves.true) | else-moves w ↦ rw w.if-moves.false w.relocate-is ]

rows_are : (c : goal.After-relocate)
    → c.relocate.new.rows.items ≡ shift (record { moves = c.args.moves; purges = c.args.purges }) c.args.d.now c.self.inside.rows.items
rows_are c =
    shift_is c.args.moves c.args.purges c.if-moves.relocate c.args.d.now c.self.inside.shifts c.self.inside.rows.items c.purge.new.rows.items
    c.relocate.new.rows.items (may_move c) (subst (λ (it : Memory). it.shifts < 4294967295) (sym c.self.view_is) c.requires.shifts_left)
    c.self.invariant.1.epochs c.purge.ensures c.relocate.ensures.rows

pub invariant_of-self : goal.invariant_of-self
invariant_of-self c = (
  subst (λ its. IsKept its c.self.inside.live) (sym (rows_are c)) (kept_shift _ c.args.d.now c.self.inside.rows.items _ c.self.invariant.0),
  subst (λ its. IsMarked its c.relocate.new.marks.items (c.self.inside.shifts + 1)) (sym (rows_are c))
      (marked_shift _ c.args.d.now c.self.inside.rows.items c.self.inside.marks.items _ _ c.self.invariant.1
      (subst (λ its. length its ≤ length c.relocate.new.marks.items) (rows_are c) c.relocate.ensures.long) c.relocate.ensures.marks),
  listed_each _ _ relocated _ _ _ relocated_leaves
      (listed_purged _ c.args.d.now _ _ _ _ c.self.invariant.2 (rw c.as_slice.ensures.value at c.drop_disposed.ensures) c.purge.ensures)
      c.relocate.ensures.rows,
)

pub returns-clause-shifts : goal.returns-clause-shifts
returns-clause-shifts c =
    ap (λ its. record { blocks = its; shifts = c.self.inside.shifts + 1 }) (rows_are c)
    ∙ ap (after_shift (record { moves = c.args.moves; purges = c.args.purges }) c.args.d.now) c.self.view_is

pub returns-clause-others_stay : goal.returns-clause-others_stay
returns-clause-others_stay c =
    subst (λ (it : Memory). OthersStay (record { moves = c.args.moves; purges = c.args.purges }) c.args.d.now it.blocks c.relocate.new.rows.items)
    c.self.view_is
    (subst (OthersStay (record { moves = c.args.moves; purges = c.args.purges }) c.args.d.now c.self.inside.rows.items) (sym (rows_are c))
    (others_stay _ c.args.d.now c.self.inside.rows.items))

pub returns-clause-locked_stay : goal.returns-clause-locked_stay
returns-clause-locked_stay c =
    subst (λ (it : Memory). LockedStay it.blocks c.relocate.new.rows.items) c.self.view_is
    (subst (LockedStay c.self.inside.rows.items) (sym (rows_are c)) (locked_stay _ c.args.d.now c.self.inside.rows.items))

pub returns-clause-epochs : goal.returns-clause-epochs
returns-clause-epochs c =
    subst (λ (it : Memory). EpochsRise it.blocks c.relocate.new.rows.items) c.self.view_is
    (subst (EpochsRise c.self.inside.rows.items) (sym (rows_are c)) (EpochsRise-shift _ c.args.d.now c.self.inside.rows.items))

pub returns-clause-as_many : goal.returns-clause-as_many
returns-clause-as_many c =
    ap length (rows_are c) ∙ length_shift _ c.args.d.now 1 c.self.inside.rows.items ∙ ap (λ (it : Memory). length it.blocks) c.self.view_is
