use Rattle.std.proofs.Common.{◌≡◌}
use Rattle.hs_types.specs.TypeTables.{measured}
use Rattle.hs_types.proofs.Measures.{with_others}
use Rattle.hs_types.proofs.types.Types.measured.Given as goal

-- the members so far, and those that are left, are all
abbrev pub invariant-members : goal.invariant-members
invariant-members l =
    (goal.iterator-members).can_next l.member-iterator
    × (goal.iterator-members).is_finite l.member-iterator
    × (with_others l.its.items (measured l.self l.member-iterator.rest.items) ≡ measured l.self l.fn.members.items)
