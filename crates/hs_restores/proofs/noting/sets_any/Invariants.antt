use Rattle.std.proofs.Common.{◌≡◌, drop}
use Rattle.hs_restores.specs.Restoring.{sets_any}
use Rattle.hs_restores.proofs.noting.sets_any.Given as goal

-- none so far
abbrev pub invariant-ops : goal.invariant-ops
invariant-ops l = record { left : sets_any l.routines l.ops ≡ sets_any l.routines (drop l.its-index l.ops) }
