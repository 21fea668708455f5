use Rattle.std.proofs.Common.{◌≤◌, ◌-◌, length}
use Rattle.hs_effects.specs.Calling.{whole_of}
use Rattle.hs_restores.specs.Restoring.{Noted}
use Rattle.hs_restores.proofs.finding.restores_by_facts.Given as goal

-- the restores of the names so far
abbrev pub invariant-windows : goal.invariant-windows
invariant-windows l = record {
  within : l.from ≤ length l.its.names.now;
  noted : Noted (whole_of l.code) l.number l.its.names.now l.from l.restores.items;
}

abbrev pub decreases-windows : goal.decreases-windows
decreases-windows l = length l.its.names.now - l.from
