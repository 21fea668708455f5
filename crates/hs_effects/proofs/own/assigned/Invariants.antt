use Rattle.std.proofs.Common.{◌≡◌}
use Rattle.hs_effects.specs.Calling.{whole_of}
use Rattle.hs_effects.specs.Owning.{Assigned, OwnsTo}
use Rattle.hs_effects.specs.Working.{Grows}
use Rattle.hs_effects.proofs.own.assigned.Given as goal

-- the globals of the functions so far
abbrev pub invariant-functions : goal.invariant-functions
invariant-functions l = record {
  grows : Grows (OwnsTo Assigned (whole_of l.code) l.function) l.initial.work l.work;
  items : l.its-items ≡ l.code.functions.items;
}
