-- Names and roles agree.
--     role_back role          the name of a role names that role
--     name_back name role     the role that a name names has this name
use Rattle.std.proofs.Common.{◌≡◌, ℕ, Bool, true, false, cond, List, [], ◌∷◌, Some, refl}
use Rattle.std.specs.List.{find}
use Rattle.std.specs.Str.{bytes_eq}
use Rattle.std.proofs.lemmas.Slice.Eq.{bytes_eq-Decides}
use Rattle.hs_table.specs.declared.role.Role.{Role}
use Rattle.hs_table.specs.declared.role.Role.TheVariants.{NewHandle, DisposeHandle, GetSize, SetSize, Lock, Unlock, Purge, NoPurge, GetState, SetState, Empty, Realloc, NewPtr, DisposePtr, BlockMove, Getchar, Putchar, Plain}
use Rattle.hs_table_text.specs.Roles.{all_roles, role_name, role_named}

-- the name of a role names that role
pub role_back : (role : Role) → role_named (role_name role) ≡ Some role
role_back NewHandle = refl
role_back DisposeHandle = refl
role_back GetSize = refl
role_back SetSize = refl
role_back Lock = refl
role_back Unlock = refl
role_back Purge = refl
role_back NoPurge = refl
role_back GetState = refl
role_back SetState = refl
role_back Empty = refl
role_back Realloc = refl
role_back NewPtr = refl
role_back DisposePtr = refl
role_back BlockMove = refl
role_back Getchar = refl
role_back Putchar = refl
role_back Plain = refl

-- what is found by its name has the name
found_by_name : (roles : List Role) (name : List ℕ) (role : Role) → find (λ one. bytes_eq (role_name one) name) roles ≡ Some role
    → role_name role ≡ name
found_by_name [] name role found = absurd (cc)
found_by_name (one ∷ roles) name role found =
    here (bytes_eq (role_name one) name) (bytes_eq-Decides (role_name one) name).0 (found_by_name roles name role) found
  where
    here : (test : Bool) → (test ≡ true → role_name one ≡ name)
        → (find (λ other. bytes_eq (role_name other) name) roles ≡ Some role → role_name role ≡ name)
        → cond test (Some one) (find (λ other. bytes_eq (role_name other) name) roles) ≡ Some role → role_name role ≡ name
    here true is later found = let same : one ≡ role = cc in rw (← same) (is refl)
    here false is later found = later found

-- the role that a name names has this name
pub name_back : (name : List ℕ) (role : Role) → role_named name ≡ Some role → role_name role ≡ name
name_back name role found = found_by_name all_roles name role found
