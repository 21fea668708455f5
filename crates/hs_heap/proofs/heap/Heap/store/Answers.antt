use Rattle.hs_heap.proofs.Acting.{acts}
use Rattle.hs_heap.specs.Blocks.{stored}
use Rattle.hs_heap.proofs.Counting.{within}
use Rattle.hs_heap.proofs.Marking.{stays}
use Rattle.hs_heap.proofs.heap.Heap.store.Goals as goal

-- what the heap keeps
pub invariant_of-self : goal.invariant_of-self
invariant_of-self c =
    stays _ _ _ _ _ _ _ _ _ c.self.invariant (within _ _ _ _ c.self.view_is c.requires.made) c.index_mut.ensures.value c.store.ensures.as_large
    c.store.ensures.same_epoch c.store.ensures.stays_disposed

-- the row acts as the role says
pub returns-clause-acts : goal.returns-clause-acts
returns-clause-acts c block there =
    acts (stored c.args.p.now c.args.cells.now) _ _ _ _ _ _ _ _ _ c.self.view_is c.index_mut.ensures.value c.store.ensures.acts there
