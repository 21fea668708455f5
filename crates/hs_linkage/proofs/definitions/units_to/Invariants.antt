use Rattle.std.proofs.Common.{◌≡◌, ◌-◌, ℕ, suc, length}
use Rattle.hs_linkage.specs.Indexes.{own_names}
use Rattle.hs_linkage.proofs.definitions.units_to.Given as goal

-- each unit has the names that it had
abbrev pub invariant-units : goal.invariant-units
invariant-units l = (other : ℕ) → own_names other l.all.items ≡ own_names other l.fn.units.items

-- one unit less is missing
abbrev pub decreases-units : goal.decreases-units
decreases-units l = suc l.unit - length l.all.items
