use Rattle.std.proofs.Common.{◌≡◌, drop}
use Rattle.std.specs.List.{find}
use Rattle.std.specs.Str.{bytes_eq}
use Rattle.hs_table_text.specs.Roles.{role_name}
use Rattle.hs_table_text.proofs.roles.role_among.Given as goal

-- the role is among those that are left
abbrev pub invariant-roles : goal.invariant-roles
invariant-roles l =
    find (λ role. bytes_eq (role_name role) l.name) (drop l.role-index l.roles) ≡ find (λ role. bytes_eq (role_name role) l.name) l.roles
