use Rattle.std.proofs.Common.{◌≡◌, length}
use Rattle.hs_effects.specs.Calling.{whole_of}
use Rattle.hs_taint.specs.Stepping.{AreNames}
use Rattle.hs_taint.proofs.building.all_names.Given as goal

-- the names of the functions so far
abbrev pub invariant-functions : goal.invariant-functions
invariant-functions l = record {
  items : l.own-items ≡ l.code.functions.items;
  names : AreNames (whole_of l.code) l.all.items;
  long : length l.all.items ≡ l.number;
}
