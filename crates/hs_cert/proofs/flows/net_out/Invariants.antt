use Rattle.std.proofs.Common.{◌≡◌, ◌*◌, ◌≤◌, ◌+ℤ◌, drop}
use Rattle.std.specs.Prelude.{nat_abs}
use Rattle.hs_cut.specs.Flows.{net_out}
use Rattle.hs_cert.specs.Flags.{flagged}
use Rattle.hs_cert.proofs.flows.net_out.Given as goal

abbrev pub invariant-loop-at : goal.invariant-loop-at
invariant-loop-at l =
    (l.total +ℤ net_out (flagged l.flags) (drop l.at l.edges) (drop l.at l.flow) ≡ net_out (flagged l.flags) l.edges l.flow)
    × (nat_abs l.total ≤ l.at * 2147483647)
