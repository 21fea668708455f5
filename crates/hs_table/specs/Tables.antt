-- The table of routines, and the one that is built in. Own to this project, but for identifiers (X3.159-1989 3.1.2).
--     IsTable routines            they ascend by name, and each one is right
--     names_ascend routines       each name is before the next one
--     is_right routine            its name is an identifier, and its numbers are in range
--     mover name role fills       a routine that may move and purge memory
--     non_mover name role         one that does neither
--     built_in_table              the table that is used until a table file is named
use Rattle.std.specs.Prelude.{ℕ, ◌==◌, nat_le, Bool, true, false, ◌&&◌, ◌||◌, IsTrue, List, [], ◌∷◌, codes}
use Rattle.std.specs.List.{list_all}
use Rattle.std.specs.Ordering.{is_lt, nat_cmp}
use Rattle.std.specs.Cmp.Lexicographic.{slice_cmp}
use Rattle.hs_base.specs.Text.{is_letter, is_word_byte}
use Rattle.hs_table.specs.declared.role.Role.{Role}
use Rattle.hs_table.specs.declared.role.Role.TheVariants.{NewHandle, Lock, Unlock, Purge, NoPurge, GetState, SetState, Getchar, Putchar, Plain}
use Rattle.hs_table.specs.declared.routine.Routine.{Routine}

-- the first byte is a letter
abbrev pub begins_with_letter : List ℕ → Bool
begins_with_letter [] = false
begins_with_letter (byte ∷ rest) = is_letter byte

-- an identifier (C 3.1.2); here a keyword is one too
abbrev pub is_identifier : List ℕ → Bool
is_identifier name = begins_with_letter name && list_all is_word_byte name

-- the first name is before the second, in the order of their bytes
abbrev pub is_before : List ℕ → List ℕ → Bool
is_before first second = is_lt (slice_cmp nat_cmp first second)

-- each name is before the next one
abbrev pub names_ascend : List Routine → Bool
names_ascend [] = true
names_ascend (routine ∷ []) = true
names_ascend (routine ∷ next ∷ routines) = is_before routine.name next.name && names_ascend (next ∷ routines)

-- the role of a routine that has no other role
abbrev pub is_plain : Role → Bool
is_plain Plain = true
is_plain _ = false

-- The name is an identifier, the size is at most 65536, and only a plain routine fills a parameter or has a size.
abbrev pub is_right : Routine → Bool
is_right routine =
    is_identifier routine.name
    && nat_le routine.size 65536
    && (is_plain routine.role || ((routine.fills == 0) && (routine.size == 0)))

-- the test that the routines are a table
abbrev pub is_table : List Routine → Bool
is_table routines = names_ascend routines && list_all is_right routines

-- the routines are a table
abbrev pub IsTable : List Routine → Type 0
IsTable routines = IsTrue (is_table routines)

-- a routine that may move and purge memory
abbrev pub mover : List ℕ → Role → ℕ → Routine
mover name role fills = record { name = name; role = role; moves = true; purges = true; fills = fills; size = 0 }

-- a routine that neither moves nor purges memory
abbrev pub non_mover : List ℕ → Role → Routine
non_mover name role = record { name = name; role = role; moves = false; purges = false; fills = 0; size = 0 }

-- the table that is used until a table file is named
unfoldable pub built_in_table : List Routine
built_in_table =
    mover (codes "DrawString") Plain 0
    ∷ mover (codes "GetNextEvent") Plain 2
    ∷ non_mover (codes "HGetState") GetState
    ∷ non_mover (codes "HLock") Lock
    ∷ non_mover (codes "HNoPurge") NoPurge
    ∷ non_mover (codes "HPurge") Purge
    ∷ non_mover (codes "HSetState") SetState
    ∷ non_mover (codes "HUnlock") Unlock
    ∷ non_mover (codes "InsetRect") Plain
    ∷ mover (codes "NewHandle") NewHandle 0
    ∷ mover (codes "TEKey") Plain 0
    ∷ mover (codes "TENew") Plain 0
    ∷ mover (codes "TEUpdate") Plain 0
    ∷ non_mover (codes "getchar") Getchar
    ∷ non_mover (codes "putchar") Putchar
    ∷ []
