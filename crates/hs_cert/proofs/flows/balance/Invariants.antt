use Rattle.std.proofs.Common.{◌≡◌, ℕ, ◌*◌, ◌≤◌, pos, ◌+ℤ◌, drop, get_or, nat_eq}
use Rattle.std.specs.Prelude.{nat_abs}
use Rattle.hs_cut.specs.Flows.{net_out}
use Rattle.hs_cert.proofs.flows.balance.Given as goal

abbrev pub invariant-loop-at : goal.invariant-loop-at
invariant-loop-at l =
    (vertex : ℕ)
    → (get_or l.sums vertex (pos 0) +ℤ net_out (nat_eq vertex) (drop l.at l.edges) (drop l.at l.flow) ≡ net_out (nat_eq vertex) l.edges l.flow)
    × (nat_abs (get_or l.sums vertex (pos 0)) ≤ l.at * 2147483647)
