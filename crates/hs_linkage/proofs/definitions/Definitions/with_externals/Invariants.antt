use Rattle.std.proofs.Common.{◌≡◌, ◌++◌, map, drop}
use Rattle.hs_linkage.specs.Indexes.{externals_by}
use Rattle.hs_syntax.specs.Views.{view_external}
use Rattle.hs_linkage.proofs.definitions.Definitions.with_externals.Given as goal

-- the definitions so far, with those that are left, are all
abbrev pub invariant-its : goal.invariant-its
invariant-its l =
    l.all ++ externals_by l.statics l.unit (map view_external (drop l.it-index l.its))
    ≡ l.fn.self ++ externals_by l.statics l.unit (map view_external l.its)
