use Rattle.std.proofs.Common.{arith}
use Rattle.hs_heap.proofs.Acting.{acts}
use Rattle.hs_heap.proofs.Counting.{within, kept_less, part_of_live}
use Rattle.hs_heap.specs.Blocks.{emptied}
use Rattle.hs_heap.proofs.Listing.{listed_set}
use Rattle.hs_heap.proofs.Marking.{marked_set}
use Rattle.hs_heap.proofs.heap.Heap.empty.Goals as goal

-- the block takes no more than before
pub overflow_sub-self : goal.overflow_sub-self
overflow_sub-self c =
    let held = c.bytes-held.ensures in let left = c.bytes-left.ensures in let less = c.empty-done.ensures.shrinks in omega (arith, held, left, less)

-- and what it took counts
pub overflow_sub-self-2 : goal.overflow_sub-self-2
overflow_sub-self-2 c =
    let part = part_of_live _ _ _ _ _ c.self.invariant.0 (within _ _ _ _ c.self.view_is c.requires.made) c.index_mut-row.ensures.value
    in let held = c.bytes-held.ensures in omega (arith, held, part)

pub invariant_of-self : goal.invariant_of-self
invariant_of-self c = (
  rw (c.bytes-held.ensures, c.bytes-left.ensures)
      (kept_less _ _ _ _ _ c.self.invariant.0 (within _ _ _ _ c.self.view_is c.requires.made) c.index_mut-row.ensures.value c.empty-done.new.self
      c.empty-done.ensures.shrinks),
  marked_set _ _ _ _ _ _ _ c.self.invariant.1 c.index_mut-row.ensures.value c.empty-done.ensures.same_epoch,
  listed_set _ _ _ _ _ _ c.self.invariant.2 c.index_mut-row.ensures.value c.empty-done.ensures.stays_disposed,
)

-- the row acts as the role says
pub returns-clause-acts : goal.returns-clause-acts
returns-clause-acts c block there = acts emptied _ _ _ _ _ _ _ _ _ c.self.view_is c.index_mut-row.ensures.value c.empty-done.ensures.acts there
