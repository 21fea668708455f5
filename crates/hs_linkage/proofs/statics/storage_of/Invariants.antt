use Rattle.std.proofs.Common.{◌≡◌, drop}
use Rattle.hs_linkage.specs.Definitions.{storage_of}
use Rattle.hs_syntax.specs.Views.{specification_of}
use Rattle.hs_linkage.proofs.statics.storage_of.Given as goal

-- the specifiers that are left decide
abbrev pub invariant-its : goal.invariant-its
invariant-its l = storage_of (specification_of (drop l.it-index l.its)) ≡ storage_of (specification_of l.its)
