use Rattle.std.proofs.Common.{◌≡◌, drop}
use Rattle.hs_restores.specs.Stepping.{greatest}
use Rattle.hs_taint.proofs.building.greatest.Given as goal

-- what is left comes to the whole
abbrev pub invariant-ops : goal.invariant-ops
invariant-ops l = greatest l.most (drop l.its-index l.ops) ≡ greatest l.least l.ops
