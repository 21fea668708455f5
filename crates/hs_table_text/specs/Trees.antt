-- How a table of routines is written: the TOML tree of its text. Own to this project.
--     entry_tree routine       the keys of a routine, in the order of their bytes
--     root_tree routines       the document
--     AreSmall routines        the numbers of the parameters that they fill are below 2^32
use Rattle.std.specs.Prelude.{◌≤◌, ℕ, zero, suc, pos, List, [], ◌∷◌, codes}
use Rattle.std.specs.List.{All}
use Rattle.toml.specs.Data.{string, integer, boolean, table, Members, no_members, member}
use Rattle.hs_table.specs.declared.routine.Routine.{Routine}
use Rattle.hs_table_text.specs.Roles.{role_name}

-- a key with a number, in front of the others; 0 is not written
abbrev pub number_member : List ℕ → ℕ → Members → Members
number_member key zero members = members
number_member key (suc below) members = member key (integer (pos (suc below))) members

-- the keys of a routine: its role, both flags, and those of the two numbers that are not 0
abbrev pub entry_tree : Routine → Members
entry_tree routine =
    number_member (codes "fills") routine.fills
    (member (codes "moves") (boolean routine.moves)
    (member (codes "purges") (boolean routine.purges)
    (member (codes "role") (string (role_name routine.role))
    (number_member (codes "size") routine.size no_members))))

-- each routine under its name
abbrev pub routine_trees : List Routine → Members
routine_trees [] = no_members
routine_trees (routine ∷ routines) = member routine.name (table (entry_tree routine)) (routine_trees routines)

-- the document: its routines, and its version
abbrev pub root_tree : List Routine → Members
root_tree routines = member (codes "routine") (table (routine_trees routines)) (member (codes "version") (integer (pos 1)) no_members)

-- The numbers of the parameters that the routines fill are below 2^32, as those of a `Routine` are.
abbrev pub AreSmall : List Routine → Type 0
AreSmall routines = All (λ routine. routine.fills ≤ 4294967295) routines
