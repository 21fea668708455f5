use Rattle.std.proofs.Common.{◌≡◌, ℕ, List, map, drop}
use Rattle.hs_index.specs.Index.{at}
use Rattle.hs_linkage.specs.Indexes.{or_first, number_if}
use Rattle.hs_linkage.specs.Definitions.{is_among}
use Rattle.hs_syntax.specs.Views.{view_item}
use Rattle.hs_linkage.proofs.statics.with_items.Given as goal

-- the names so far, with those of the declarators that are left, are all
abbrev pub invariant-its : goal.invariant-its
invariant-its l =
    (name : List ℕ)
    → or_first (at name l.all) (number_if (is_among name (map view_item (drop l.it-index l.its))) l.number)
    ≡ or_first (at name l.fn.names) (number_if (is_among name (map view_item l.its)) l.number)
