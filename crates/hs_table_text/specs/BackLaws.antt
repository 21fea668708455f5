-- What is printed is read back: the tree of a table is the tree of that table alone, and it is not deep.
--     tree_back routines ..      the table of the tree of a table is this table
--     tree_depth routines        the tree of a table nests at most two deep
--     tree_dates routines        it has no date that a TOML text cannot write
use Rattle.std.proofs.Common.{◌≡◌, ℕ, zero, suc, ◌≤◌, ◌==◌, Bool, true, false, ◌&&◌, ◌||◌, List, [], ◌∷◌, Some, Ok, refl, arith}
use Rattle.std.specs.Prelude.{nat_le}
use Rattle.std.specs.List.{list_all}
use Rattle.std.proofs.lemmas.Bool.{and_parts, le-leb, leb-true}
use Rattle.std.proofs.lemmas.Bool.Decides.{nat_tests}
use Rattle.std.proofs.lemmas.List.Elements.{All-head, All-tail}
use Rattle.toml.specs.Data.{table, members_depth, members_have_valid_dates}
use Rattle.hs_table.specs.declared.role.Role.{Role}
use Rattle.hs_table.specs.declared.routine.Routine.{Routine}
use Rattle.hs_table.specs.Tables.{IsTable, is_identifier, is_plain, is_right, names_ascend}
use Rattle.hs_table_text.specs.Entries.{entry_of, routine_with}
use Rattle.hs_table_text.specs.RoleLaws.{role_back}
use Rattle.hs_table_text.specs.Texts.{routines_in, table_of}
use Rattle.hs_table_text.specs.Trees.{entry_tree, routine_trees, root_tree, AreSmall}

-- what a number that is not 0 says of the role
plain_of : (plain : Bool) (fills size : ℕ) → (plain || ((fills == 0) && (size == 0))) ≡ true → (fills == 0) ≡ false → plain ≡ true
plain_of true fills size is some = refl
plain_of false fills size is some = absurd (grind arith)

plain_of_size : (plain : Bool) (fills size : ℕ) → (plain || ((fills == 0) && (size == 0))) ≡ true → (size == 0) ≡ false → plain ≡ true
plain_of_size true fills size is some = refl
plain_of_size false fills size is some = absurd (grind arith)

-- a number that is not 0 fails the test
not_0 : (below : ℕ) → (suc below == 0) ≡ false
not_0 below = grind (arith, nat_tests)

-- a routine is read back from its tree: one case for each number that is written or not
fields_back : (name : List ℕ) (role : Role) (moves purges : Bool) (fills size : ℕ) → is_identifier name ≡ true
    → (is_plain role || ((fills == 0) && (size == 0))) ≡ true → fills ≤ 4294967295 → size ≤ 65536
    → entry_of name (table (entry_tree (routine_with name role moves purges fills size))) ≡ Some (routine_with name role moves purges fills size)
fields_back name role moves purges zero zero named plain small_fills small_size =
    simp (role_back role, named) refl
fields_back name role moves purges (suc fills) zero named plain small_fills small_size =
    let is_plain_role : is_plain role ≡ true = plain_of (is_plain role) (suc fills) 0 plain (not_0 fills) in
    let within : nat_le (suc fills) 4294967295 ≡ true = le-leb (suc fills) 4294967295 small_fills in
    simp (role_back role, is_plain_role, within, named) refl
fields_back name role moves purges zero (suc size) named plain small_fills small_size =
    let is_plain_role : is_plain role ≡ true = plain_of_size (is_plain role) 0 (suc size) plain (not_0 size) in
    let within : nat_le (suc size) 65536 ≡ true = le-leb (suc size) 65536 small_size in
    simp (role_back role, is_plain_role, within, named) refl
fields_back name role moves purges (suc fills) (suc size) named plain small_fills small_size =
    let is_plain_role : is_plain role ≡ true = plain_of (is_plain role) (suc fills) (suc size) plain (not_0 fills) in
    let within_fills : nat_le (suc fills) 4294967295 ≡ true = le-leb (suc fills) 4294967295 small_fills in
    let within : nat_le (suc size) 65536 ≡ true = le-leb (suc size) 65536 small_size in
    simp (role_back role, is_plain_role, within_fills, within, named) refl

-- the same for a routine that is right
entry_back : (routine : Routine) → is_right routine ≡ true → routine.fills ≤ 4294967295
    → entry_of routine.name (table (entry_tree routine)) ≡ Some routine
entry_back routine right small =
    let parts = and_parts (is_identifier routine.name && nat_le routine.size 65536) _ right in
    let front = and_parts (is_identifier routine.name) (nat_le routine.size 65536) parts.0 in
    fields_back routine.name routine.role routine.moves routine.purges routine.fills routine.size front.0 parts.1 small
    (leb-true routine.size 65536 front.1)

-- the same for each routine of a list
routines_back : (routines : List Routine) → list_all is_right routines ≡ true → AreSmall routines
    → routines_in (routine_trees routines) ≡ Ok routines
routines_back [] right small = refl
routines_back (routine ∷ routines) right small =
    let parts = and_parts (is_right routine) (list_all is_right routines) right in
    let first = entry_back routine parts.0 (All-head (λ (one : Routine). one.fills ≤ 4294967295) routine routines small) in
    let others = routines_back routines parts.1 (All-tail (λ (one : Routine). one.fills ≤ 4294967295) routine routines small) in
    rw (first, others) refl

-- the table of the tree of a table is this table
pub tree_back : (routines : List Routine) → IsTable routines → AreSmall routines
    → table_of (root_tree routines) ≡ Ok routines
tree_back routines is small =
    let parts = and_parts (names_ascend routines) (list_all is_right routines) is in
    rw (routines_back routines parts.1 small) refl

-- the keys of a routine hold no tables
entry_depth : (name : List ℕ) (role : Role) (moves purges : Bool) (fills size : ℕ)
    → members_depth (entry_tree (routine_with name role moves purges fills size)) ≡ 0
entry_depth name role moves purges zero zero = refl
entry_depth name role moves purges (suc fills) zero = refl
entry_depth name role moves purges zero (suc size) = refl
entry_depth name role moves purges (suc fills) (suc size) = refl

-- the routines are tables that hold no tables
routines_depth : (routines : List Routine) → members_depth (routine_trees routines) ≤ 1
routines_depth [] = omega arith
routines_depth (routine ∷ routines) =
    let flat = entry_depth routine.name routine.role routine.moves routine.purges routine.fills routine.size in
    let others = routines_depth routines in
    rw flat (omega (arith, others))

-- the tree of a table nests at most two deep
pub tree_depth : (routines : List Routine) → members_depth (root_tree routines) ≤ 80
tree_depth routines = omega (arith, routines_depth routines)

-- the keys of a routine hold no dates
entry_dates : (name : List ℕ) (role : Role) (moves purges : Bool) (fills size : ℕ)
    → members_have_valid_dates (entry_tree (routine_with name role moves purges fills size)) ≡ true
entry_dates name role moves purges zero zero = refl
entry_dates name role moves purges (suc fills) zero = refl
entry_dates name role moves purges zero (suc size) = refl
entry_dates name role moves purges (suc fills) (suc size) = refl

-- nor do the routines
routines_dates : (routines : List Routine) → members_have_valid_dates (routine_trees routines) ≡ true
routines_dates [] = refl
routines_dates (routine ∷ routines) =
    let none_here = entry_dates routine.name routine.role routine.moves routine.purges routine.fills routine.size in
    rw (none_here, routines_dates routines) refl

-- the tree of a table has no date that a TOML text cannot write
pub tree_dates : (routines : List Routine) → members_have_valid_dates (root_tree routines) ≡ true
tree_dates routines = rw (routines_dates routines) refl
