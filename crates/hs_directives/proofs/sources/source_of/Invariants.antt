use Rattle.std.proofs.Common.{◌≡◌, ◌++◌, map}
use Rattle.hs_directives.proofs.sources.source_of.Given as goal

-- those so far, and those ahead
abbrev pub invariant-units : goal.invariant-units
invariant-units l =
    (l.roots.items ++ map (λ unit. unit.root) l.unit-iterator.rest.items ≡ map (λ unit. unit.root) l.fn.units.items)
    × (l.tokens.items ++ map (λ unit. unit.tokens) l.unit-iterator.rest.items ≡ map (λ unit. unit.tokens) l.fn.units.items)
    × (l.changes.items ++ map (λ unit. unit.changes) l.unit-iterator.rest.items ≡ map (λ unit. unit.changes) l.fn.units.items)
