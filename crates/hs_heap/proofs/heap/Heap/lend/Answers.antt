use Rattle.hs_heap.proofs.Acting.{answers}
use Rattle.hs_heap.specs.Blocks.{loaded}
use Rattle.hs_heap.proofs.heap.Heap.lend.Goals as goal

-- the row lends what the definition says
pub returns : goal.returns
returns c block there =
    answers (loaded c.args.p.now c.args.count) _ _ _ _ _ _ _ _ c.self.view_is c.index.ensures c.lend.ensures there
