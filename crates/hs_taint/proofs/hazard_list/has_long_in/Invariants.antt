use Rattle.std.proofs.Common.{◌≡◌}
use Rattle.hs_effects.specs.Calling.{whole_of}
use Rattle.hs_taint.specs.Listing.{AreShortTo}
use Rattle.hs_taint.proofs.hazard_list.has_long_in.Given as goal

-- the hazards before the operation have chains that are not too long
abbrev pub invariant-ops : goal.invariant-ops
invariant-ops l = record { items : l.its-items ≡ l.own.ops; so_far : AreShortTo (whole_of l.code) l.function l.at }
