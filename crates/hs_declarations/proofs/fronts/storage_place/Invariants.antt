use Rattle.std.proofs.Common.{◌≡◌, drop}
use Rattle.hs_declarations.specs.Fronts.{storage_place}
use Rattle.hs_syntax.specs.Views.{specification_of}
use Rattle.hs_declarations.proofs.fronts.storage_place.Given as goal

-- the specifiers that are left decide
abbrev pub invariant-its : goal.invariant-its
invariant-its l = storage_place l.other (specification_of (drop l.it-index l.its)) ≡ storage_place l.other (specification_of l.its)
