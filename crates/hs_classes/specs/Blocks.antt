-- The parts of a block.
use Rattle.std.proofs.Common.{◌≡◌, map, ap, sym, ◌∙◌}
use Rattle.hs_tree.specs.RowLaws.{statements_from, view_labelled, statements_row}
use Rattle.hs_tree.specs.Trees as tree
use Rattle.hs_tree.specs.Views.{view_declaration, view_statements, view_block}
use Rattle.hs_tree.specs.declared.statement.Block.{Block, Block', out-Block}
use Rattle.hs_tree.specs.declared.statement.Statement.TheBlock.{shown-the_row-Labelled-0, items_shown-the_row-Labelled-0}

-- the views of its lists
pub block_out : (it : Block) → view_block it
    ≡ tree.compound (out-Block it).opening (map view_declaration (out-Block it).declarations.items)
    (statements_from (map view_labelled (out-Block it).statements.items)) (out-Block it).closing
unfolding out-Block shown-the_row-Labelled-0 denote.Hole.Carrier.out denote.Hole.Carrier.shown
block_out (Block' opening declarations shape its closing) =
    let stated : view_statements its ≡ statements_from (map view_labelled (shown-the_row-Labelled-0 shape its).items) =
    statements_row _ its ∙ ap (λ its. statements_from (map view_labelled its)) (sym (items_shown-the_row-Labelled-0 shape its)) in
    ap (λ statements. tree.compound opening (map view_declaration declarations.items) statements closing) stated
