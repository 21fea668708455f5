-- A name is UTF-8, since its bytes are printable.
use Rattle.std.proofs.Common.{◌≡◌, ℕ, zero, suc, ◌<◌, true, List, [], ◌∷◌, get_or, arith, IsUtf8}
use Rattle.std.specs.List.{list_all}
use Rattle.std.proofs.lemmas.Bool.{and_parts}
use Rattle.std.proofs.lemmas.Str.{IsUtf8-from_ascii}
use Rattle.hs_directives.specs.Includes.{is_printable, is_name}

-- printable bytes are below 128
below : (bytes : List ℕ) → list_all is_printable bytes ≡ true → (i : ℕ) → get_or bytes i 0 < 128
below [] all i = grind arith
below (byte ∷ bytes) all zero = grind (arith, and_parts (is_printable byte) (list_all is_printable bytes) all)
below (byte ∷ bytes) all (suc i) = below bytes (and_parts (is_printable byte) (list_all is_printable bytes) all).1 i

-- so a name is
pub utf8_from_name : (name : List ℕ) → is_name name ≡ true → IsUtf8 name
utf8_from_name [] is = absurd cc
utf8_from_name (byte ∷ bytes) is = IsUtf8-from_ascii (byte ∷ bytes) (below (byte ∷ bytes) is)
