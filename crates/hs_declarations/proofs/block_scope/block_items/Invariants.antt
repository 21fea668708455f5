use Rattle.std.proofs.Common.{◌≡◌, [], map, drop}
use Rattle.hs_declarations.specs.Declarations.{block_items}
use Rattle.hs_syntax.specs.Views.{view_item}
use Rattle.hs_tree.specs.Views.{view_item as view_given}
use Rattle.hs_declarations.proofs.block_scope.block_items.Given as goal

-- the declarators that are left, after those so far, are declared as all are
abbrev pub invariant-its : goal.invariant-its
invariant-its l =
    block_items l.at l.stored l.said (map view_given l.done.items) (map view_item (drop l.it-index l.its)) l.m
    ≡ block_items l.at l.stored l.said [] (map view_item l.its) l.fn.m
