-- Rows of the definitions that compute: what the words of `specs/` say of small trees, and of short texts.
use Rattle.std.proofs.Common.{◌≡◌, pos, negsuc, true, false, [], ◌∷◌, codes, Some, None, Ok, Err, refl}
use Rattle.toml.specs.Data.{Data, string, integer, boolean, table, Members, no_members, member}
use Rattle.toml.specs.Parse.{parse_document}
use Rattle.toml.proofs.OnLiterals.{toml_on_literals}
use Rattle.hs_table.specs.declared.role.Role.TheVariants.{Lock, BlockMove, Plain}
use Rattle.hs_table.specs.Tables.{mover, non_mover}
use Rattle.hs_table_text.specs.Roles.{role_named}
use Rattle.hs_table_text.specs.Entries.{flag_in, plain_number, is_known_key, entry_of}
use Rattle.hs_table_text.specs.Texts.{table_of, table_in}
use Rattle.hs_table_text.specs.Trees.{root_tree}
use Rattle.hs_table_text.specs.declared.error.TableError.TheVariants.{NotToml, BadVersion, BadEntry}

-- names of roles
block_move_is_a_role : role_named (codes "block_move") ≡ Some BlockMove
block_move_is_a_role = refl

fly_is_no_role : role_named (codes "fly") ≡ None
fly_is_no_role = refl

lock_in_capitals_is_no_role : role_named (codes "LOCK") ≡ None
lock_in_capitals_is_no_role = refl

-- flags
no_flag_is_false : flag_in None ≡ Some false
no_flag_is_false = refl

a_flag_is_itself : flag_in (Some (boolean true)) ≡ Some true
a_flag_is_itself = refl

a_text_is_no_flag : flag_in (Some (string (codes "true"))) ≡ None
a_text_is_no_flag = refl

-- numbers of plain routines
no_number_is_0 : plain_number false 65536 None ≡ Some 0
no_number_is_0 = refl

the_most_is_taken : plain_number true 65536 (Some (integer (pos 65536))) ≡ Some 65536
the_most_is_taken = refl

one_more_is_refused : plain_number true 65536 (Some (integer (pos 65537))) ≡ None
one_more_is_refused = refl

a_0_is_refused : plain_number true 65536 (Some (integer (pos 0))) ≡ None
a_0_is_refused = refl

a_negative_number_is_refused : plain_number true 65536 (Some (integer (negsuc 0))) ≡ None
a_negative_number_is_refused = refl

a_number_of_a_lock_is_refused : plain_number false 65536 (Some (integer (pos 8))) ≡ None
a_number_of_a_lock_is_refused = refl

-- keys
moves_of_a_lock : is_known_key Lock (codes "moves") ≡ true
moves_of_a_lock = refl

size_of_a_lock : is_known_key Lock (codes "size") ≡ false
size_of_a_lock = refl

size_of_a_plain_routine : is_known_key Plain (codes "size") ≡ true
size_of_a_plain_routine = refl

-- `version = 1` and these routines
abbrev document : Members → Members
document routines = member (codes "routine") (table routines) (member (codes "version") (integer (pos 1)) no_members)

-- `HLock = { role = "lock" }` and no flags
abbrev lock_entry : Data
lock_entry = table (member (codes "role") (string (codes "lock")) no_members)

-- `GetNextEvent = { fills = 2, moves = true, purges = true, role = "plain" }`
abbrev event_entry : Data
event_entry =
    table (member (codes "fills") (integer (pos 2))
    (member (codes "moves") (boolean true)
    (member (codes "purges") (boolean true)
    (member (codes "role") (string (codes "plain")) no_members))))

-- `role = "fly"`
abbrev flying_entry : Data
flying_entry = table (member (codes "role") (string (codes "fly")) no_members)

a_lock : entry_of (codes "HLock") lock_entry ≡ Some (non_mover (codes "HLock") Lock)
a_lock = refl

an_event : entry_of (codes "GetNextEvent") event_entry ≡ Some (mover (codes "GetNextEvent") Plain 2)
an_event = refl

a_keyword_is_a_name : entry_of (codes "while") lock_entry ≡ Some (non_mover (codes "while") Lock)
a_keyword_is_a_name = refl

no_identifier : entry_of (codes "2Lock") lock_entry ≡ None
no_identifier = refl

no_role : entry_of (codes "HLock") (table no_members) ≡ None
no_role = refl

no_table : entry_of (codes "HLock") (boolean true) ≡ None
no_table = refl

an_unknown_key : entry_of (codes "HLock") (table (member (codes "move") (boolean true) (member (codes "role") (string (codes "lock")) no_members))) ≡ None
an_unknown_key = refl

-- documents
two_routines : table_of (document (member (codes "GetNextEvent") event_entry (member (codes "HLock") lock_entry no_members)))
    ≡ Ok (mover (codes "GetNextEvent") Plain 2 ∷ non_mover (codes "HLock") Lock ∷ [])
two_routines = refl

the_first_bad_routine : table_of (document (member (codes "A") flying_entry (member (codes "B") flying_entry no_members)))
    ≡ Err (BadEntry (codes "A"))
the_first_bad_routine = refl

no_routines : table_of (member (codes "version") (integer (pos 1)) no_members) ≡ Ok []
no_routines = refl

routine_is_no_table : table_of (member (codes "routine") (integer (pos 3)) (member (codes "version") (integer (pos 1)) no_members))
    ≡ Err (BadEntry (codes "routine"))
routine_is_no_table = refl

version_9 : table_of (member (codes "routine") (integer (pos 3)) (member (codes "version") (integer (pos 9)) no_members)) ≡ Err BadVersion
version_9 = refl

no_version : table_of no_members ≡ Err BadVersion
no_version = refl

an_other_key : table_of (member (codes "author") (integer (pos 3)) (member (codes "version") (integer (pos 1)) no_members))
    ≡ Err (BadEntry (codes "author"))
an_other_key = refl

the_routine_before_the_other_key : table_of (member (codes "author") (integer (pos 3)) (document (member (codes "B") flying_entry no_members)))
    ≡ Err (BadEntry (codes "B"))
the_routine_before_the_other_key = refl

no_document : table_in None ≡ Err NotToml
no_document = refl

-- what is written for a routine
a_written_routine : root_tree (mover (codes "GetNextEvent") Plain 2 ∷ []) ≡ document (member (codes "GetNextEvent") event_entry no_members)
a_written_routine = refl

-- a text, and the tree that TOML reads it as
a_short_text : parse_document (codes "version=1\nroutine.A.role=\"lock\"")
    ≡ Some (document (member (codes "A") lock_entry no_members))
unfolding toml_on_literals
a_short_text = refl
