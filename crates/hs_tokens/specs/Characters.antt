-- The bytes of the source's character set, by what they may begin or continue (X3.159-1989 2.2.1 and 3.1).
use Rattle.std.specs.Prelude.{ℕ, ◌==◌, nat_le, Bool, ◌&&◌, ◌||◌}
use Rattle.hs_base.specs.Text.{is_digit}

-- space, tab, VT or FF
abbrev pub is_blank : ℕ → Bool
is_blank byte = (byte == 32) || (byte == 9) || (byte == 11) || (byte == 12)

-- 0 to 7
abbrev pub is_octal : ℕ → Bool
is_octal byte = nat_le 48 byte && nat_le byte 55

-- a digit, or a letter A to F of either case
abbrev pub is_hex : ℕ → Bool
is_hex byte = is_digit byte || (nat_le 65 byte && nat_le byte 70) || (nat_le 97 byte && nat_le byte 102)
