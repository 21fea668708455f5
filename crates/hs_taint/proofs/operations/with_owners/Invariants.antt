use Rattle.std.proofs.Common.{◌≡◌, ◌++◌, drop, map}
use Rattle.hs_taint.specs.Points.{owned_by}
use Rattle.hs_taint.proofs.operations.with_owners.Given as goal

-- those that are left come after what is done
abbrev pub invariant-ops : goal.invariant-ops
invariant-ops l = l.owners.items ++ map (owned_by l.function) (drop l._its-index l.ops) ≡ l.fn.owners.items ++ map (owned_by l.function) l.ops
