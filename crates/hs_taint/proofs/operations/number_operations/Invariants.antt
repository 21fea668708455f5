use Rattle.std.proofs.Common.{◌≡◌, ◌++◌, drop, length}
use Rattle.hs_taint.specs.Points.{owners_from, starts_from}
use Rattle.hs_taint.proofs.operations.number_operations.Given as goal

-- those that are left come after what is done
abbrev pub invariant-functions : goal.invariant-functions
invariant-functions l = record {
  starts : l.starts.items ++ starts_from (length l.owners.items) (drop l.number l.functions) ≡ starts_from 0 l.functions;
  owners : l.owners.items ++ owners_from l.number (drop l.number l.functions) ≡ owners_from 0 l.functions;
}
