-- How the printer builds the tree of a table, one member after another: the last routine first.
--     insert_member key written members    the members with one more, at its place in the order of keys
--     insert_number key number members     the same for a number that is not 0
--     insert_routine routine members       the same for a routine
--     trees_onto routines members          the members with the trees of these routines in front
use Rattle.std.specs.Prelude.{ℕ, zero, suc, pos, List, [], ◌∷◌}
use Rattle.std.specs.Ordering.{nat_cmp, match_ordering}
use Rattle.std.specs.Cmp.Lexicographic.{slice_cmp}
use Rattle.toml.specs.Data.{Data, integer, table, Members, no_members, member}
use Rattle.hs_table.specs.declared.routine.Routine.{Routine}
use Rattle.hs_table_text.specs.Trees.{entry_tree}

-- the members with this one, at its place in the order of the bytes of the keys
abbrev pub insert_member : List ℕ → Data → Members → Members
insert_member key written no_members = member key written no_members
insert_member key written (member other data_of_other members) =
    match_ordering (slice_cmp nat_cmp key other)
    (member key written (member other data_of_other members))
    (member other written members)
    (member other data_of_other (insert_member key written members))

-- the same for a number; 0 is not written
abbrev pub insert_number : List ℕ → ℕ → Members → Members
insert_number key zero members = members
insert_number key (suc below) members = insert_member key (integer (pos (suc below))) members

-- the same for a routine, under its name
abbrev pub insert_routine : Routine → Members → Members
insert_routine routine members = insert_member routine.name (table (entry_tree routine)) members

-- the trees of these routines in front of the members
abbrev pub trees_onto : List Routine → Members → Members
trees_onto [] members = members
trees_onto (routine ∷ routines) members = member routine.name (table (entry_tree routine)) (trees_onto routines members)
