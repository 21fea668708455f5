use Rattle.std.proofs.Common.{◌≡◌, ℕ, ℤ, ◌≤◌, List, ◌++◌, length, codes}
use Rattle.std.specs.Prelude.{nat_abs}
use Rattle.std.specs.List.{All}
use Rattle.hs_cert.specs.Texts.{flow_lines}
use Rattle.hs_cert.proofs.Spelled.{LinesLeft}
use Rattle.hs_cert.proofs.reader.read_flow.Given as goal

abbrev pub invariant-lines : goal.invariant-lines
invariant-lines l = record {
  each : length l.flow.items ≡ l.edges;
  left : (other : List ℤ) (tail : List ℕ) → length other ≡ l.edges → All (λ amount. nat_abs amount ≤ 2147483647) other
      → l.text ≡ flow_lines 0 other ++ (codes "crossings " ++ tail) → LinesLeft other tail l.flow.items l.rest;
}

abbrev pub decreases-lines : goal.decreases-lines
decreases-lines l = length l.rest
