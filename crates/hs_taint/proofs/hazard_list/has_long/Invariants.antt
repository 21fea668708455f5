use Rattle.std.proofs.Common.{◌≡◌}
use Rattle.hs_effects.specs.Calling.{whole_of}
use Rattle.hs_taint.specs.Listing.{AreShortTo}
use Rattle.hs_taint.proofs.hazard_list.has_long.Given as goal

-- the hazards before the function have chains that are not too long
abbrev pub invariant-functions : goal.invariant-functions
invariant-functions l = record { items : l.own-items ≡ l.code.functions.items; so_far : AreShortTo (whole_of l.code) l.number 0 }
