use Rattle.std.proofs.Common.{◌≡◌}
use Rattle.hs_effects.specs.Calling.{whole_of}
use Rattle.hs_taint.specs.Listing.{AreHazardsTo}
use Rattle.hs_taint.proofs.hazard_list.hazards.Given as goal

-- the hazards before the function
abbrev pub invariant-functions : goal.invariant-functions
invariant-functions l = record { items : l.own-items ≡ l.code.functions.items; so_far : AreHazardsTo (whole_of l.code) l.number 0 l.all.items }
