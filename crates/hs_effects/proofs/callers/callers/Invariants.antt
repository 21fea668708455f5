use Rattle.std.proofs.Common.{◌≡◌}
use Rattle.hs_effects.specs.Calling.{AllCallsPut, whole_of}
use Rattle.hs_effects.proofs.callers.callers.Given as goal

-- the functions so far are put in
abbrev pub invariant-functions : goal.invariant-functions
invariant-functions l = record {
  put : AllCallsPut (whole_of l.code) l.caller l.rows.items;
  items : l.function-items ≡ l.code.functions.items;
}
