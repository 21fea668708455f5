use Rattle.std.proofs.Common.{◌≡◌, ◌≤◌, ◌+◌, ◌++◌, length}
use Rattle.hs_flow.specs.Restorable.{classes_below, purgeable_of}
use Rattle.hs_flow.proofs.restoring.put_classes.Given as goal

-- those before it are put, and there is room for the others
abbrev pub invariant-classes : goal.invariant-classes
invariant-classes g l = record {
  facts : l.into.facts ≡ l.fn.into.facts ++ purgeable_of (g.A.Around.given l.around) l.argument (classes_below l.class);
  room : l.into.room ≡ l.fn.into.room;
  left : length l.into.facts ≤ length l.fn.into.facts + l.class;
}
