-- The text of a table of routines: TOML with `version = 1` and a table `routine` of tables, one for each routine under its
-- name. Own to this project.
--     routines_in members      the routines that are written so, or the name of the first that is bad
--     other_in root            the first other key of the root
--     table_of root            the table of a document
--     reading bytes            the table that the bytes are the text of, or why they are no text of a table
use Rattle.std.specs.Prelude.{ℕ, ℤ, pos, Bool, false, ◌||◌, List, [], ◌∷◌, codes, Option, Some, None, Result, Ok, Err, if◌then◌else◌}
use Rattle.std.specs.Ordering.{int_eq}
use Rattle.std.specs.Str.{is_utf8}
use Rattle.toml.specs.Data.{Data, Members, no_members, member, get_member, as_integer, as_table}
use Rattle.toml.specs.Parse.{parse_document}
use Rattle.hs_table.specs.declared.routine.Routine.{Routine}
use Rattle.hs_table_text.specs.Entries.{entry_of, is_key}
use Rattle.hs_table_text.specs.declared.error.TableError.{TableError}
use Rattle.hs_table_text.specs.declared.error.TableError.TheVariants.{NotToml, BadVersion, BadEntry}

-- a routine in front of the others, if it and they are right; else the name of the first that is bad
abbrev pub in_front : List ℕ → Option Routine → Result (List Routine) TableError → Result (List Routine) TableError
in_front name None others = Err (BadEntry name)
in_front name (Some routine) (Ok routines) = Ok (routine ∷ routines)
in_front name (Some routine) (Err why) = Err why

-- the routines of these members, which TOML orders by their keys
abbrev pub routines_in : Members → Result (List Routine) TableError
routines_in no_members = Ok []
routines_in (member name written members) = in_front name (entry_of name written) (routines_in members)

-- the routines of the value of `routine`, if it is a table
abbrev pub routines_under : Option Members → Result (List Routine) TableError
routines_under None = Err (BadEntry (codes "routine"))
routines_under (Some members) = routines_in members

-- the routines of the document: none if it has no key `routine`
abbrev pub routines_of : Option Data → Result (List Routine) TableError
routines_of None = Ok []
routines_of (Some written) = routines_under (as_table written)

-- the document may have the key
abbrev pub is_root_key : List ℕ → Bool
is_root_key key = is_key (codes "version") key || is_key (codes "routine") key

-- the first key that is neither `version` nor `routine`
abbrev pub other_in : Members → Option (List ℕ)
other_in no_members = None
other_in (member key _ members) = if is_root_key key then other_in members else Some key

-- the number is the version of this format
abbrev pub is_one : Option ℤ → Bool
is_one None = false
is_one (Some number) = int_eq number (pos 1)

-- the version is the integer 1
abbrev pub is_version : Option Data → Bool
is_version None = false
is_version (Some written) = is_one (as_integer written)

-- the routines, if no other key is there
abbrev pub alone : Option (List ℕ) → Result (List Routine) TableError → Result (List Routine) TableError
alone other (Err why) = Err why
alone None (Ok routines) = Ok routines
alone (Some key) (Ok routines) = Err (BadEntry key)

-- the table of a document: first its version counts, then its routines, then its other keys
abbrev pub table_of : Members → Result (List Routine) TableError
table_of root =
    if is_version (get_member (codes "version") root)
    then alone (other_in root) (routines_of (get_member (codes "routine") root))
    else Err BadVersion

-- the table of what TOML reads
abbrev pub table_in : Option Members → Result (List Routine) TableError
table_in None = Err NotToml
table_in (Some root) = table_of root

-- the document that the bytes are, if they are one
abbrev pub document_in : List ℕ → Option Members
document_in bytes = if is_utf8 bytes then parse_document bytes else None

-- the table that the bytes are the text of, or why there is no such table
abbrev pub reading : List ℕ → Result (List Routine) TableError
reading bytes = table_in (document_in bytes)
