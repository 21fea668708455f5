use Rattle.std.proofs.Common.{◌≡◌, map, drop}
use Rattle.hs_declarations.specs.Declarations.{file_items}
use Rattle.hs_syntax.specs.Views.{view_item}
use Rattle.hs_declarations.proofs.file_scope.file_items.Given as goal

-- the declarators that are left are declared as all are
abbrev pub invariant-its : goal.invariant-its
invariant-its l =
    file_items l.storage l.at l.base (map view_item (drop l.it-index l.its)) l.m ≡ file_items l.storage l.at l.base (map view_item l.its) l.fn.m
