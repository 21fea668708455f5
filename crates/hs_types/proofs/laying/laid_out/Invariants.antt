use Rattle.std.proofs.Common.{◌≡◌, ◌≤◌, ◌++◌, ◌&&◌}
use Rattle.hs_types.specs.Layouts.{most_bytes, end_from, hold_characters}
use Rattle.hs_types.specs.TypeTables.{fields_from, layouts_of}
use Rattle.hs_types.proofs.laying.laid_out.Given as goal

-- the fields so far, and those of the members that are left, are the fields of all
abbrev pub invariant-members : goal.invariant-members
invariant-members l =
    (goal.iterator-members).can_next l.member-iterator
    × (goal.iterator-members).is_finite l.member-iterator
    × (l.fields.items ++ fields_from l.end l.member-iterator.rest.items ≡ fields_from 0 l.fn.members.items)
    × (end_from l.end (layouts_of l.member-iterator.rest.items) ≡ end_from 0 (layouts_of l.fn.members.items))
    × ((l.characters && hold_characters (layouts_of l.member-iterator.rest.items)) ≡ hold_characters (layouts_of l.fn.members.items))
    × (l.end ≤ most_bytes)
