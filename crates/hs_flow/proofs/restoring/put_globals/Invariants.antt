use Rattle.std.proofs.Common.{◌≡◌, ◌≤◌, ◌+◌, ◌++◌, drop, length}
use Rattle.hs_flow.specs.Programs.{global_slots}
use Rattle.hs_flow.specs.Restorable.{pointer_globals, purgeable_of}
use Rattle.hs_flow.proofs.restoring.put_globals.Given as goal

-- those that are left come after what is put, and there is room for them
abbrev pub invariant-globals : goal.invariant-globals
invariant-globals g l = record {
  facts : l.into.facts ++ purgeable_of (g.A.Around.given l.around) l.argument (pointer_globals l.types l.place (drop l.place l.globals))
      ≡ l.fn.into.facts ++ purgeable_of (g.A.Around.given l.around) l.argument (pointer_globals l.types 0 l.globals);
  room : l.into.room ≡ l.fn.into.room;
  left : length l.into.facts + global_slots l.types (drop l.place l.globals) ≤ length l.fn.into.facts + global_slots l.types l.globals;
}
