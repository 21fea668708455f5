use Rattle.std.proofs.Common.{◌≡◌, drop}
use Rattle.hs_linkage.specs.Late.{late_object}
use Rattle.hs_linkage.proofs.late.late_object.Given as goal

-- the first one is among those that are left
abbrev pub invariant-its : goal.invariant-its
invariant-its l = late_object l.types (drop l.it-index l.its) ≡ late_object l.types l.its
