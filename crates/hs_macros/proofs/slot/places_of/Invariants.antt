use Rattle.std.proofs.Common.{◌≡◌, ℕ, List, length}
use Rattle.std.specs.HashMap.{get_by}
use Rattle.std.specs.Str.{bytes_eq}
use Rattle.hs_base.specs.Options.{or_else}
use Rattle.hs_macros.specs.Lines.{names_of}
use Rattle.hs_macros.specs.Slots.{place_of}
use Rattle.hs_macros.proofs.slot.places_of.Given as goal

-- a name that is not among those that are left has its place already
abbrev pub invariant-loop-name : goal.invariant-loop-name
invariant-loop-name l = record {
  many : l.place ≡ length l.name-iterator.iter.rest.now;
  known : (name : List ℕ)
      → or_else (place_of name (names_of l.name-iterator.iter.rest.now)) (get_by (λ other. bytes_eq name other.now) l.places)
      ≡ place_of name (names_of l.names);
}
