-- Routines that were read, and what comes after them.
use Rattle.std.proofs.Common.{◌≡◌, ℕ, List, [], ◌∷◌, ◌++◌, Some, Result, Ok, Err, refl, ap, append-nil, ◌∙◌}
use Rattle.toml.specs.Data.{Data, Members, member}
use Rattle.hs_table.specs.declared.routine.Routine.{Routine}
use Rattle.hs_table_text.specs.declared.error.TableError.{TableError}
use Rattle.hs_table_text.specs.Entries.{entry_of}
use Rattle.hs_table_text.specs.Texts.{in_front, routines_in}

-- the others after those that were read
abbrev pub after : List Routine → Result (List Routine) TableError → Result (List Routine) TableError
after found (Ok routines) = Ok (found ++ routines)
after found (Err why) = Err why

-- one more is read
pub after_more : (found : List Routine) (name : List ℕ) (routine : Routine) (others : Result (List Routine) TableError)
    → after found (in_front name (Some routine) others) ≡ after (found ++ routine ∷ []) others
after_more found name routine (Ok routines) = ap Ok (append_snoc found routine routines)
  where
    append_snoc : (front : List Routine) (one : Routine) (rest : List Routine) → front ++ one ∷ rest ≡ (front ++ one ∷ []) ++ rest
    append_snoc [] one rest = refl
    append_snoc (first ∷ front) one rest = ap (λ list. first ∷ list) (append_snoc front one rest)
after_more found name routine (Err why) = refl

-- one more is read, and the others are left
pub read_more : (wanted : Result (List Routine) TableError) (found now : List Routine) (name : List ℕ) (written : Data) (routine : Routine)
    (members : Members) → wanted ≡ after found (routines_in (member name written members)) → entry_of name written ≡ Some routine
    → now ≡ found ++ routine ∷ [] → wanted ≡ after now (routines_in members)
read_more wanted found now name written routine members is read pushed =
    is ∙ rw (read, pushed) (after_more found name routine (routines_in members))

-- no others are left
pub read_all : (wanted : Result (List Routine) TableError) (found : List Routine) → wanted ≡ after found (Ok []) → wanted ≡ Ok found
read_all wanted found is = is ∙ rw append-nil refl
