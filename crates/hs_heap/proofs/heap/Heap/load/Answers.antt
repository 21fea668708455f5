use Rattle.std.proofs.Common.{length}
use Rattle.hs_heap.proofs.Acting.{copies}
use Rattle.hs_heap.specs.Blocks.{loaded}
use Rattle.hs_heap.proofs.heap.Heap.load.Goals as goal

-- the row copies what the definition says
pub returns : goal.returns
returns c block there =
    copies (loaded c.args.p.now (length c.args.into.now)) _ _ _ _ _ _ _ _ _ _ c.self.view_is c.index.ensures c.load.ensures there
