use Rattle.std.proofs.Common.{◌≡◌}
use Rattle.hs_effects.specs.Calling.{whole_of}
use Rattle.hs_taint.specs.Listing.{AreHazardsTo}
use Rattle.hs_taint.proofs.hazard_list.with_function.Given as goal

-- the hazards before the operation
abbrev pub invariant-ops : goal.invariant-ops
invariant-ops l = record { items : l.its-items ≡ l.own.ops; so_far : AreHazardsTo (whole_of l.code) l.function l.at l.now.items }
