use Rattle.std.proofs.Common.{◌≡◌, drop}
use Rattle.hs_linkage.specs.Late.{unlike}
use Rattle.hs_linkage.proofs.late.unlike.Given as goal

-- the first one is among those that are left
abbrev pub invariant-its : goal.invariant-its
invariant-its l = unlike l.types l.origins l.place (drop l.number-index l.its) ≡ unlike l.types l.origins 0 l.its
