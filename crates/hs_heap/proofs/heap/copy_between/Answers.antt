use Rattle.hs_heap.proofs.Copying.{copied_between, same_range}
use Rattle.hs_heap.proofs.heap.copy_between.Goals as goal

-- what is taken out is put back, and the other row has the cells
pub returns : goal.returns
returns c first second here there =
    copied_between c.args.rows.now.items c.args.places.0 c.args.places.1 c.args.at.1 c.args.at.0 c.args.count first second _ _ first _ _ _ _ _ _ _ _ _
    c.requires.apart here there c.index_mut.ensures.value c.take_cells-cells.ensures.left c.take_cells-cells.ensures.taken
    c.index_mut-2.ensures.value (same_range _ _ _ _ c.deref.ensures.value) c.put.ensures c.index_mut-3.ensures.value c.give_cells.ensures
