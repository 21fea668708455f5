use Rattle.std.proofs.Common.{true}
use Rattle.hs_heap.proofs.Acting.{acts}
use Rattle.hs_heap.specs.Blocks.{with_lock}
use Rattle.hs_heap.proofs.Counting.{within}
use Rattle.hs_heap.proofs.Marking.{stays}
use Rattle.hs_heap.proofs.heap.Heap.lock.Goals as goal

-- what the heap keeps
pub invariant_of-self : goal.invariant_of-self
invariant_of-self c =
    stays _ _ _ _ _ _ _ _ _ c.self.invariant (within _ _ _ _ c.self.view_is c.requires.made) c.index_mut.ensures.value c.set_lock.ensures.as_large
    c.set_lock.ensures.same_epoch c.set_lock.ensures.stays_disposed

-- the row acts as the role says
pub returns-clause-acts : goal.returns-clause-acts
returns-clause-acts c block there = acts (with_lock true) _ _ _ _ _ _ _ _ _ c.self.view_is c.index_mut.ensures.value c.set_lock.ensures.acts there
