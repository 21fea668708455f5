use Rattle.std.proofs.Common.{◌≡◌, ◌≤◌, ◌+◌, ◌++◌, length}
use Rattle.hs_flow.specs.Restorable.{places_below, purgeable_of}
use Rattle.hs_flow.proofs.restoring.put_places.Given as goal

-- those before it are put, and there is room for the others
abbrev pub invariant-places : goal.invariant-places
invariant-places g l = record {
  facts : l.into.facts ≡ l.fn.into.facts ++ purgeable_of (g.A.Around.given l.around) l.argument (places_below l.place);
  room : l.into.room ≡ l.fn.into.room;
  left : length l.into.facts ≤ length l.fn.into.facts + l.place;
}
