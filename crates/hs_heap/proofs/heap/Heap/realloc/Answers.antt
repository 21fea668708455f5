use Rattle.std.proofs.Common.{arith}
use Rattle.hs_heap.proofs.Counting.{within, part_of_live}
use Rattle.hs_heap.proofs.Reshaping.{room_there, kept_within, reshapes}
use Rattle.hs_heap.specs.Blocks.{has_life, reallocated}
use Rattle.hs_heap.proofs.Listing.{listed_set}
use Rattle.hs_heap.proofs.Marking.{marked_set}
use Rattle.hs_heap.proofs.heap.Heap.realloc.Goals as goal

-- what the block takes counts
pub overflow_sub-others : goal.overflow_sub-others
overflow_sub-others c =
    rw c.bytes.ensures (part_of_live _ _ _ _ _ c.self.invariant.0 (within _ _ _ _ c.self.view_is c.requires.made) c.index_mut-row.ensures.value)

-- and it has room for that
pub reallocate-done-requires : goal.reallocate-done-requires
reallocate-done-requires c =
    record {
      has_room = (
        rw c.bytes.ensures (room_there _ _ _ _ _ c.self.invariant.0 (within _ _ _ _ c.self.view_is c.requires.made) c.index_mut-row.ensures.value),
        omega (arith),
      );
    }

pub invariant_of-self : goal.invariant_of-self
invariant_of-self c = (
  rw (c.bytes.ensures, c.bytes-2.ensures)
      (kept_within _ _ _ _ _ c.self.invariant.0 (within _ _ _ _ c.self.view_is c.requires.made) c.index_mut-row.ensures.value c.reallocate-done.new.self
      (rw (← c.bytes.ensures) c.reallocate-done.ensures.within)),
  marked_set _ _ _ _ _ _ _ c.self.invariant.1 c.index_mut-row.ensures.value c.reallocate-done.ensures.same_epoch,
  listed_set _ _ _ _ _ _ c.self.invariant.2 c.index_mut-row.ensures.value c.reallocate-done.ensures.stays_disposed,
)

-- the row acts as the role says
pub returns-clause-acts : goal.returns-clause-acts
returns-clause-acts c block there =
    reshapes _ _ _ _ _ c.self.invariant.0 (within _ _ _ _ c.self.view_is c.requires.made) c.index_mut-row.ensures.value _ has_life
    (reallocated c.args.size) _ _ _ _ c.self.view_is (rw c.bytes.ensures at c.reallocate-done.ensures.reshapes) there
