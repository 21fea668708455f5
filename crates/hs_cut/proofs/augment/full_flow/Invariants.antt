use Rattle.std.proofs.Common.{ℕ, ◌-◌, length, nat_abs}
use Rattle.hs_cut.specs.Flows.{net_out}
use Rattle.hs_cut.specs.Networks.{among}
use Rattle.hs_cut.specs.Pushes.{IsPartial}
use Rattle.hs_cut.proofs.augment.full_flow.Given as goal

-- each round adds a unit
abbrev pub invariant-rounds : goal.invariant-rounds
invariant-rounds l = (units : ℕ) × IsPartial l.network units l.flow.items

-- no more units flow than there are edges
abbrev pub decreases-rounds : goal.decreases-rounds
decreases-rounds l = length l.network.edges - nat_abs (net_out (among l.network.inside) l.network.edges l.flow.items)
