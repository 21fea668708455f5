use Rattle.std.proofs.Common.{◌≡◌, ℕ, List, map, drop}
use Rattle.hs_index.specs.Index.{at}
use Rattle.hs_linkage.specs.Indexes.{or_first, linkage_of}
use Rattle.hs_syntax.specs.Views.{view_external}
use Rattle.hs_linkage.proofs.statics.statics_of.Given as goal

-- the names so far, with those of the external declarations that are left, are all
abbrev pub invariant-its : goal.invariant-its
invariant-its l =
    (name : List ℕ)
    → or_first (at name l.all) (linkage_of name (map view_external (drop l.it-index l.its))) ≡ linkage_of name (map view_external l.its)
