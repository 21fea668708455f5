use Rattle.std.proofs.Common.{◌≡◌}
use Rattle.hs_effects.specs.Calling.{whole_of}
use Rattle.hs_effects.specs.Effecting.{HasNumber}
use Rattle.hs_effects.specs.Owning.{OwnsTo}
use Rattle.hs_effects.specs.Working.{Grows}
use Rattle.hs_effects.proofs.own_effects.own_effects.Given as goal

-- the effects of the functions so far
abbrev pub invariant-functions : goal.invariant-functions
invariant-functions l = record {
  grows : Grows (OwnsTo (HasNumber l.code.program.now.routines l.restores) (whole_of l.code) l.function) l.initial.work l.work;
  items : l.its-items ≡ l.code.functions.items;
}
