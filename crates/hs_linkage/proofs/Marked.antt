-- Variables that are marked by one address after the other.
use Rattle.std.proofs.Common.{◌≡◌, ◌<◌, ◌||◌, ◌==◌, ℕ, zero, suc, ◌+◌, Bool, true, false, List, [], ◌∷◌, Option, Some, None, refl, sym, arith}
use Rattle.std.proofs.lemmas.Bool.Decides.{nat_tests}
use Rattle.std.specs.Prelude.{slice_get}
use Rattle.std.specs.List.{list_any}
use Rattle.hs_linkage.specs.Objects.{is_of_local, marked, marked_at}
use Rattle.hs_tree.specs.declared.head.Variable.TheVariants as variable
use Rattle.hs_tree.specs.declared.head.VariableDecl.{VariableDecl}
use Rattle.hs_typer.specs.declared.typer.Taken.{Taken}
use Rattle.hs_typer.specs.declared.typer.Taken.TheVariants as taken
use Rattle.hs_types.specs.declared.row.FieldId.{FieldId}

or-false : (b : Bool) → (b || false) ≡ b
or-false true = refl
or-false false = refl

or-true : (b : Bool) → (b || (true || false)) ≡ true
or-true true = refl
or-true false = refl

or-assoc : (a b c : Bool) → (a || (b || c)) ≡ ((a || (b || false)) || c)
or-assoc true b c = refl
or-assoc false true c = refl
or-assoc false false c = refl

pub marked_none : (place : ℕ) (its : List VariableDecl) → marked [] place its ≡ its
marked_none place [] = refl
marked_none place (it ∷ rest) = rw (or-false it.taken, marked_none (suc place) rest) refl

pub marked_next : (t : Taken) (ts : List Taken) (place : ℕ) (its : List VariableDecl)
    → marked (t ∷ ts) place its ≡ marked ts place (marked (t ∷ []) place its)
marked_next t ts place [] = refl
marked_next t ts place (it ∷ rest) =
    rw (or-assoc it.taken (is_of_local place t) (list_any (is_of_local place) ts), marked_next t ts (suc place) rest) refl

-- the address of something else
pub marked_global : (number place : ℕ) (its : List VariableDecl) → marked (taken.Variable (variable.Global number) ∷ []) place its ≡ its
marked_global number place [] = refl
marked_global number place (it ∷ rest) = rw (or-false it.taken, marked_global number (suc place) rest) refl

pub marked_field : (field : FieldId) (place : ℕ) (its : List VariableDecl) → marked (taken.Field field ∷ []) place its ≡ its
marked_field field place [] = refl
marked_field field place (it ∷ rest) = rw (or-false it.taken, marked_field field (suc place) rest) refl

-- a variable that is not among them
marked-past : (number place : ℕ) (its : List VariableDecl) → number < place → marked (taken.Variable (variable.Local number) ∷ []) place its ≡ its
marked-past number place [] past = refl
marked-past number place (it ∷ rest) past =
    let other : (number == place) ≡ false = grind (arith, nat_tests, past) in
    rw (other, or-false it.taken, marked-past number (suc place) rest (omega (arith, past))) refl

marked_at-next : (found : Option VariableDecl) (it : VariableDecl) (rest : List VariableDecl) (place : ℕ)
    → marked_at found (it ∷ rest) (suc place) ≡ it ∷ marked_at found rest place
marked_at-next None it rest place = refl
marked_at-next (Some found) it rest place = refl

marked-from : (number first place : ℕ) (its : List VariableDecl) → number ≡ first + place
    → marked (taken.Variable (variable.Local number) ∷ []) first its ≡ marked_at (slice_get its place) its place
marked-from number first place [] is = refl
marked-from number first zero (it ∷ rest) is =
    let here : (number == first) ≡ true = grind (arith, nat_tests, is) in
    rw (here, or-true it.taken, marked-past number (suc first) rest (omega (arith, is))) refl
marked-from number first (suc place) (it ∷ rest) is =
    let other : (number == first) ≡ false = grind (arith, nat_tests, is) in
    rw (other, or-false it.taken, marked-from number (suc first) place rest (omega (arith, is)))
    (sym (marked_at-next (slice_get rest place) it rest place))

pub marked_local : (number : ℕ) (its : List VariableDecl)
    → marked (taken.Variable (variable.Local number) ∷ []) 0 its ≡ marked_at (slice_get its number) its number
marked_local number its = marked-from number 0 number its (omega arith)
