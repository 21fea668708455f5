-- One routine of the text of a table: a TOML table under the routine's name. Own to this project.
--     flag_in value                    a Boolean; false if it is absent
--     plain_number is_plain most value a number of a plain routine, from 1 to the most; 0 if it is absent
--     is_known_key role key            a routine of that role may have the key
--     entry_of name data               the routine that is written so, if it is written right
use Rattle.std.specs.Prelude.{ℕ, zero, suc, ℤ, pos, negsuc, nat_le, Bool, true, false, ◌&&◌, ◌||◌, List, codes, Option, Some, None, if◌then◌else◌}
use Rattle.std.specs.Str.{bytes_eq}
use Rattle.toml.specs.Data.{Data, Members, no_members, member, get_member, as_bool, as_integer, as_str, as_table}
use Rattle.hs_base.specs.Options.{◌>>=◌}
use Rattle.hs_table.specs.declared.role.Role.{Role}
use Rattle.hs_table.specs.declared.routine.Routine.{Routine}
use Rattle.hs_table.specs.Tables.{is_identifier, is_plain}
use Rattle.hs_table_text.specs.Roles.{role_named}

-- the Boolean of a key; false if the key is absent
abbrev pub flag_in : Option Data → Option Bool
flag_in None = Some false
flag_in (Some written) = as_bool written

-- the integer is at least 1, and at most the most
abbrev pub number_in : ℕ → ℤ → Option ℕ
number_in most (pos zero) = None
number_in most (pos (suc below)) = if nat_le (suc below) most then Some (suc below) else None
number_in most (negsuc _) = None

-- the number of a key that only a plain routine has; 0 if the key is absent
abbrev pub plain_number : Bool → ℕ → Option Data → Option ℕ
plain_number plain most None = Some 0
plain_number true most (Some written) = as_integer written >>= number_in most
plain_number false most (Some written) = None

-- the two keys are the same
abbrev pub is_key : List ℕ → List ℕ → Bool
is_key = bytes_eq

-- The keys that a routine may have: three for every role, and two more for a plain routine. A later version of the format
-- adds its keys here.
abbrev pub is_known_key : Role → List ℕ → Bool
is_known_key role key =
    is_key (codes "role") key || is_key (codes "moves") key || is_key (codes "purges") key
    || (is_plain role && (is_key (codes "fills") key || is_key (codes "size") key))

-- a routine of that role may have each of these keys
abbrev pub are_known_keys : Role → Members → Bool
are_known_keys role no_members = true
are_known_keys role (member key _ members) = is_known_key role key && are_known_keys role members

-- the role that the value names
abbrev pub role_in : Option Data → Option Role
role_in value = do
  data_of_role ← value
  name ← as_str data_of_role
  role_named name

-- the routine with these six fields
abbrev pub routine_with : List ℕ → Role → Bool → Bool → ℕ → ℕ → Routine
routine_with name role moves purges fills size =
    record { name = name; role = role; moves = moves; purges = purges; fills = fills; size = size }

-- the routine of that name with these keys, if name and keys are right
abbrev pub entry_of : List ℕ → Data → Option Routine
entry_of name written = do
  keys ← as_table written
  role ← role_in (get_member (codes "role") keys)
  moves ← flag_in (get_member (codes "moves") keys)
  purges ← flag_in (get_member (codes "purges") keys)
  fills ← plain_number (is_plain role) 4294967295 (get_member (codes "fills") keys)
  size ← plain_number (is_plain role) 65536 (get_member (codes "size") keys)
  if is_identifier name && are_known_keys role keys then Some (routine_with name role moves purges fills size) else None
