use Rattle.std.proofs.Common.{◌≡◌, ◌≤◌, ◌+◌, ◌++◌, drop, length}
use Rattle.hs_flow.specs.Programs.{local_slots}
use Rattle.hs_flow.specs.Restorable.{pointer_locals, purgeable_of}
use Rattle.hs_flow.proofs.restoring.put_locals.Given as goal

-- those that are left come after what is put, and there is room for them
abbrev pub invariant-locals : goal.invariant-locals
invariant-locals g l = record {
  facts : l.into.facts ++ purgeable_of (g.A.Around.given l.around) l.argument (pointer_locals l.types l.place (drop l.place l.locals))
      ≡ l.fn.into.facts ++ purgeable_of (g.A.Around.given l.around) l.argument (pointer_locals l.types 0 l.locals);
  room : l.into.room ≡ l.fn.into.room;
  left : length l.into.facts + local_slots l.types (drop l.place l.locals) ≤ length l.fn.into.facts + local_slots l.types l.locals;
}
