use Rattle.std.proofs.Common.{◌≡◌, ℕ, length, []}
use Rattle.hs_effects.specs.Calling.{callers_from}
use Rattle.hs_effects.proofs.callers.no_callers.Given as goal

-- the functions so far have no caller
abbrev pub invariant-functions : goal.invariant-functions
invariant-functions l = record {
  empty : (f : ℕ) → callers_from l.rows.items f ≡ [];
  each : length l.rows.items ≡ l._function;
}
