-- What is read is a table: TOML orders the members of a table by their keys, and each entry that is read is right.
--     keys_ascend members         each key is before the next one
--     reads_table members ..      the routines that are read from such members are a table
use Rattle.std.proofs.Common.{◌≡◌, ℕ, zero, suc, pos, negsuc, ◌==◌, ℤ, Bool, true, false, ◌&&◌, ◌||◌, List, [], ◌∷◌, codes, Option, Some, None, Result, Ok, Err, refl, sym, arith}
use Rattle.std.specs.Prelude.{nat_le, if◌then◌else◌}
use Rattle.std.specs.List.{list_all}
use Rattle.std.proofs.lemmas.Bool.{and_parts, and_from, le-leb}
use Rattle.toml.specs.Data.{Data, Members, no_members, member, is_before as is_before_members, get_member, as_integer, as_table}
use Rattle.hs_base.specs.Options.{◌>>=◌}
use Rattle.hs_table.specs.declared.role.Role.{Role}
use Rattle.hs_table.specs.declared.routine.Routine.{Routine}
use Rattle.hs_table.specs.Tables.{IsTable, is_before, is_identifier, is_plain, is_right, names_ascend}
use Rattle.hs_table_text.specs.declared.error.TableError.{TableError}
use Rattle.hs_table_text.specs.Entries.{are_known_keys, entry_of, flag_in, number_in, plain_number, role_in, routine_with}
use Rattle.hs_table_text.specs.Texts.{in_front, routines_in}

-- each key is before the next one, in the order of their bytes
abbrev pub keys_ascend : Members → Bool
keys_ascend no_members = true
keys_ascend (member key _ members) = is_before_members key members && keys_ascend members

-- what is known of a number that is read: it is at most the most, and 0 unless the routine is plain
pub record FitsNumber (plain : Bool) (most number : ℕ) : Type 0 where
  pub within : nat_le number most ≡ true
  pub plain_only : plain ≡ false → number ≡ 0

-- an integer that is read is at most the most
number_within : (most : ℕ) (written : ℤ) (number : ℕ) → number_in most written ≡ Some number → nat_le number most ≡ true
number_within most (pos zero) number is = absurd (cc)
number_within most (pos (suc below)) number is = of_test (nat_le (suc below) most) refl is
  where
    of_test : (test : Bool) → nat_le (suc below) most ≡ test → (if test then Some (suc below) else None) ≡ Some number
        → nat_le number most ≡ true
    of_test true told is = let same : suc below ≡ number = cc in rw (← same) told
    of_test false told is = absurd (cc)
number_within most (negsuc below) number is = absurd (cc)

-- the same if there is an integer
written_fits : (most : ℕ) (written : Option ℤ) (number : ℕ) → (written >>= number_in most) ≡ Some number → FitsNumber true most number
written_fits most None number is = absurd (cc)
written_fits most (Some written) number is =
    record { within = number_within most written number is; plain_only = λ no. absurd (cc) }

-- a number that is read fits
number_fits : (plain : Bool) (most : ℕ) (value : Option Data) (number : ℕ) → plain_number plain most value ≡ Some number
    → FitsNumber plain most number
number_fits plain most None number is =
    let same : 0 ≡ number = cc in rw (← same) (record { within = le-leb 0 most (omega arith); plain_only = λ _. refl })
number_fits true most (Some written) number is = written_fits most (as_integer written) number is
number_fits false most (Some written) number is = absurd (cc)

-- what is known of a routine that is read
pub record IsRightEntry (name : List ℕ) (routine : Routine) : Type 0 where
  pub named : routine.name ≡ name
  pub right : is_right routine ≡ true

-- numbers that fit are those of a routine that is right
plain_or_0 : (plain : Bool) (fills size : ℕ) → (plain ≡ false → fills ≡ 0) → (plain ≡ false → size ≡ 0)
    → (plain || ((fills == 0) && (size == 0))) ≡ true
plain_or_0 true fills size no_fills no_size = refl
plain_or_0 false fills size no_fills no_size = rw (no_fills refl, no_size refl) refl

-- the last step: the name and the keys are right
last_step : (name : List ℕ) (role : Role) (moves purges : Bool) (fills size : ℕ) (known : Bool) (routine : Routine)
    → FitsNumber (is_plain role) 4294967295 fills → FitsNumber (is_plain role) 65536 size
    → (if is_identifier name && known then Some (routine_with name role moves purges fills size) else None) ≡ Some routine → IsRightEntry name routine
last_step name role moves purges fills size known routine of_fills of_size is =
    of_test (is_identifier name && known) (λ yes. (and_parts (is_identifier name) known yes).0) is
  where
    of_test : (test : Bool) → (test ≡ true → is_identifier name ≡ true)
        → (if test then Some (routine_with name role moves purges fills size) else None) ≡ Some routine → IsRightEntry name routine
    of_test true identifier is =
        let same : routine_with name role moves purges fills size ≡ routine = cc in
        rw (← same)
        (record {
          named = refl;
          right = and_from _ _ (and_from _ _ (identifier refl) of_size.within)
              (plain_or_0 (is_plain role) fills size of_fills.plain_only of_size.plain_only);
        })
    of_test false identifier is = absurd (cc)

-- the steps over the two numbers
number_steps : (name : List ℕ) (role : Role) (moves purges known : Bool) (fills size : Option ℕ) (routine : Routine)
    → ((number : ℕ) → fills ≡ Some number → FitsNumber (is_plain role) 4294967295 number)
    → ((number : ℕ) → size ≡ Some number → FitsNumber (is_plain role) 65536 number)
    → (fills >>= (λ filled. size >>= (λ sized. if is_identifier name && known then Some (routine_with name role moves purges filled sized) else None)))
    ≡ Some routine → IsRightEntry name routine
number_steps name role moves purges known None size routine of_fills of_size is = absurd (cc)
number_steps name role moves purges known (Some filled) None routine of_fills of_size is = absurd (cc)
number_steps name role moves purges known (Some filled) (Some sized) routine of_fills of_size is =
    last_step name role moves purges filled sized known routine (of_fills filled refl) (of_size sized refl) is

-- the steps over the flags
flag_steps : (name : List ℕ) (role : Role) (moves purges : Option Bool) (known : Bool) (fills size : Option Data) (routine : Routine)
    → (moves >>= (λ moving. purges >>= (λ purging. plain_number (is_plain role) 4294967295 fills >>= (λ filled.
    plain_number (is_plain role) 65536 size >>= (λ sized.
    if is_identifier name && known then Some (routine_with name role moving purging filled sized) else None)))))
    ≡ Some routine → IsRightEntry name routine
flag_steps name role None purges known fills size routine is = absurd (cc)
flag_steps name role (Some moving) None known fills size routine is = absurd (cc)
flag_steps name role (Some moving) (Some purging) known fills size routine is =
    number_steps name role moving purging known (plain_number (is_plain role) 4294967295 fills) (plain_number (is_plain role) 65536 size)
    routine (number_fits (is_plain role) 4294967295 fills) (number_fits (is_plain role) 65536 size) is

-- the steps over the keys and the role
key_steps : (name : List ℕ) (role : Option Role) (keys : Members) (routine : Routine)
    → (role >>= (λ one. flag_in (get_member (codes "moves") keys) >>= (λ moving.
    flag_in (get_member (codes "purges") keys) >>= (λ purging.
    plain_number (is_plain one) 4294967295 (get_member (codes "fills") keys) >>= (λ filled.
    plain_number (is_plain one) 65536 (get_member (codes "size") keys) >>= (λ sized.
    if is_identifier name && are_known_keys one keys then Some (routine_with name one moving purging filled sized) else None))))))
    ≡ Some routine → IsRightEntry name routine
key_steps name None keys routine is = absurd (cc)
key_steps name (Some role) keys routine is =
    flag_steps name role (flag_in (get_member (codes "moves") keys)) (flag_in (get_member (codes "purges") keys))
    (are_known_keys role keys) (get_member (codes "fills") keys) (get_member (codes "size") keys) routine is

-- the steps over the table of the keys
table_steps : (name : List ℕ) (written : Option Members) (routine : Routine)
    → (written >>= (λ keys. role_in (get_member (codes "role") keys) >>= (λ one. flag_in (get_member (codes "moves") keys) >>= (λ moving.
    flag_in (get_member (codes "purges") keys) >>= (λ purging.
    plain_number (is_plain one) 4294967295 (get_member (codes "fills") keys) >>= (λ filled.
    plain_number (is_plain one) 65536 (get_member (codes "size") keys) >>= (λ sized.
    if is_identifier name && are_known_keys one keys then Some (routine_with name one moving purging filled sized) else None)))))))
    ≡ Some routine → IsRightEntry name routine
table_steps name None routine is = absurd (cc)
table_steps name (Some keys) routine is = key_steps name (role_in (get_member (codes "role") keys)) keys routine is

-- a routine that is read has its name and is right
entry_right : (name : List ℕ) (written : Data) (routine : Routine) → entry_of name written ≡ Some routine → IsRightEntry name routine
entry_right name written routine is = table_steps name (as_table written) routine is

-- the routines after a first one
pub record IsInFront (name : List ℕ) (one : Option Routine) (others : Result (List Routine) TableError) (routines : List Routine) : Type 0 where
  pub first : Routine
  pub rest : List Routine
  pub is_first : one ≡ Some first
  pub is_rest : others ≡ Ok rest
  pub both : routines ≡ first ∷ rest

-- routines that are read are a first one and others
front_parts : (name : List ℕ) (one : Option Routine) (others : Result (List Routine) TableError) (routines : List Routine)
    → in_front name one others ≡ Ok routines → IsInFront name one others routines
front_parts name None others routines is = absurd (cc)
front_parts name (Some first) (Err why) routines is = absurd (cc)
front_parts name (Some first) (Ok rest) routines is =
    record { first = first; rest = rest; is_first = refl; is_rest = refl; both = let same : first ∷ rest ≡ routines = cc in sym same }

-- the name is before that of the first routine
abbrev is_before_first : List ℕ → List Routine → Bool
is_before_first name [] = true
is_before_first name (routine ∷ routines) = is_before name routine.name

-- a key before the others is before the names of the routines that are read from them
before_first : (key : List ℕ) (members : Members) (routines : List Routine) → is_before_members key members ≡ true
    → routines_in members ≡ Ok routines → is_before_first key routines ≡ true
before_first key no_members routines before is = let same : [] ≡ routines = cc in rw (← same) refl
before_first key (member name written members) routines before is =
    let parts = front_parts name (entry_of name written) (routines_in members) routines is in
    rw (parts.both, (entry_right name written parts.first parts.is_first).named) before

-- a name before the first one ascends to it
ascend_onto : (first : Routine) (rest : List Routine) → is_before_first first.name rest ≡ true → names_ascend rest ≡ true
    → names_ascend (first ∷ rest) ≡ true
ascend_onto first [] before ascend = refl
ascend_onto first (next ∷ rest) before ascend = and_from _ _ before ascend

-- the names of the routines that are read ascend, and each routine is right
abbrev AscendRight : List Routine → Type 0
AscendRight routines = (names_ascend routines ≡ true) × (list_all is_right routines ≡ true)

reads_right : (members : Members) (routines : List Routine) → keys_ascend members ≡ true → routines_in members ≡ Ok routines
    → AscendRight routines
reads_right no_members routines ascend is = let same : [] ≡ routines = cc in rw (← same) (refl, refl)
reads_right (member name written members) routines ascend is =
    let parts = front_parts name (entry_of name written) (routines_in members) routines is in
    let order = and_parts (is_before_members name members) (keys_ascend members) ascend in
    let others = reads_right members parts.rest order.1 parts.is_rest in
    let first = entry_right name written parts.first parts.is_first in
    rw parts.both (
      ascend_onto parts.first parts.rest (rw first.named (before_first name members parts.rest order.0 parts.is_rest)) others.0,
      and_from _ _ first.right others.1,
    )

-- the routines that are read from members whose keys ascend are a table
pub reads_table : (members : Members) (routines : List Routine) → keys_ascend members ≡ true → routines_in members ≡ Ok routines
    → IsTable routines
reads_table members routines ascend is =
    let both = reads_right members routines ascend is in and_from (names_ascend routines) (list_all is_right routines) both.0 both.1
