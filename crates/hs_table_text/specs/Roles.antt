-- The names that the text of a table has for the roles. Own to this project.
--     role_name role       the name of a role
--     role_named name      the role of that name, if there is one
use Rattle.std.specs.Prelude.{ℕ, List, [], ◌∷◌, Option, codes}
use Rattle.std.specs.List.{find}
use Rattle.std.specs.Str.{bytes_eq}
use Rattle.hs_table.specs.declared.role.Role.{Role}
use Rattle.hs_table.specs.declared.role.Role.TheVariants.{NewHandle, DisposeHandle, GetSize, SetSize, Lock, Unlock, Purge, NoPurge, GetState, SetState, Empty, Realloc, NewPtr, DisposePtr, BlockMove, Getchar, Putchar, Plain}

-- the name of a role
abbrev pub role_name : Role → List ℕ
role_name NewHandle = codes "new_handle"
role_name DisposeHandle = codes "dispose_handle"
role_name GetSize = codes "get_size"
role_name SetSize = codes "set_size"
role_name Lock = codes "lock"
role_name Unlock = codes "unlock"
role_name Purge = codes "purge"
role_name NoPurge = codes "no_purge"
role_name GetState = codes "get_state"
role_name SetState = codes "set_state"
role_name Empty = codes "empty"
role_name Realloc = codes "realloc"
role_name NewPtr = codes "new_ptr"
role_name DisposePtr = codes "dispose_ptr"
role_name BlockMove = codes "block_move"
role_name Getchar = codes "getchar"
role_name Putchar = codes "putchar"
role_name Plain = codes "plain"

-- all eighteen of them
abbrev pub all_roles : List Role
all_roles =
    NewHandle ∷ DisposeHandle ∷ GetSize ∷ SetSize ∷ Lock ∷ Unlock ∷ Purge ∷ NoPurge ∷ GetState ∷ SetState ∷ Empty ∷ Realloc
    ∷ NewPtr ∷ DisposePtr ∷ BlockMove ∷ Getchar ∷ Putchar ∷ Plain ∷ []

-- the role that has this name
abbrev pub role_named : List ℕ → Option Role
role_named name = find (λ role. bytes_eq (role_name role) name) all_roles
