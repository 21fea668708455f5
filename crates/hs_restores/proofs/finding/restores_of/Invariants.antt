use Rattle.std.proofs.Common.{◌≡◌, ◌<◌, ℕ, length}
use Rattle.std.specs.Bool.{Decides}
use Rattle.hs_effects.specs.Calling.{whole_of}
use Rattle.hs_effects.specs.Effecting.{restored}
use Rattle.hs_facts.specs.Effects.{IsRestoreAt}
use Rattle.hs_restores.proofs.finding.restores_of.Given as goal

-- the restores of the functions so far
abbrev pub invariant-functions : goal.invariant-functions
invariant-functions l = record {
  items : l.own-items ≡ l.code.functions.items;
  long : length l.rows.items ≡ l.number;
  exact : (f at : ℕ) → f < l.number → Decides (restored l.rows.items f at) (IsRestoreAt (whole_of l.code) f at);
}
