-- String literals and character constants (X3.159-1989 3.1.3.4 and 3.1.4), on bytes without splices.
--     content_len quote bytes     how many bytes stand before the closing quote, if it stands on the line
--     escape_len bytes            how many bytes an escape has after its backslash, or nothing if it is malformed
--     character_len bytes         how many bytes the character at the front has, its backslash included
-- An escape that exceeds a byte is malformed (own).
use Rattle.std.specs.Prelude.{ℕ, ◌+◌, ◌-◌, ◌*◌, ◌==◌, nat_le, Bool, true, false, ◌||◌, List, [], ◌∷◌, Option, Some, None, if◌then◌else◌, take}
use Rattle.std.specs.List.{prefix_len}
use Rattle.hs_tokens.specs.Characters.{is_octal, is_hex}

-- a length with one byte put in front
abbrev pub one_more : Option ℕ → Option ℕ
one_more None = None
one_more (Some n) = Some (n + 1)

-- `escaped` says that the first byte follows a backslash, so that it closes nothing
abbrev pub content_len_after : Bool → ℕ → List ℕ → Option ℕ
content_len_after escaped quote [] = None
content_len_after escaped quote (byte ∷ rest) =
    if byte == 10 then None
    else if escaped then one_more (content_len_after false quote rest)
    else if byte == quote then Some 0
    else one_more (content_len_after (byte == 92) quote rest)

-- how many bytes stand before the closing quote, if it stands on the line
abbrev pub content_len : ℕ → List ℕ → Option ℕ
content_len quote bytes = content_len_after false quote bytes

-- \' \" \? \\ \a \b \f \n \r \t \v
abbrev pub is_simple_escape : ℕ → Bool
is_simple_escape byte =
    (byte == 39) || (byte == 34) || (byte == 63) || (byte == 92) || (byte == 97) || (byte == 98)
    || (byte == 102) || (byte == 110) || (byte == 114) || (byte == 116) || (byte == 118)

-- the value of octal digits, and of hexadecimal ones, after digits of that value
abbrev pub octal_value : ℕ → List ℕ → ℕ
octal_value value [] = value
octal_value value (digit ∷ digits) = octal_value (8 * value + (digit - 48)) digits

-- the value of a hexadecimal digit
abbrev pub hex_digit_value : ℕ → ℕ
hex_digit_value digit = if nat_le digit 57 then digit - 48 else if nat_le digit 70 then digit - 55 else digit - 87

-- the same of hexadecimal digits
abbrev pub hex_value : ℕ → List ℕ → ℕ
hex_value value [] = value
hex_value value (digit ∷ digits) = hex_value (16 * value + hex_digit_value digit) digits

-- that many digits, if their value is a byte
abbrev pub byte_escape : ℕ → ℕ → Option ℕ
byte_escape len value = if nat_le value 255 then Some len else None

-- one to three octal digits
abbrev pub octal_escape : List ℕ → Option ℕ
octal_escape bytes = byte_escape (prefix_len is_octal (take 3 bytes)) (octal_value 0 (take (prefix_len is_octal (take 3 bytes)) bytes))

-- hexadecimal digits, after the x, at least one
abbrev pub hex_escape : List ℕ → Option ℕ
hex_escape bytes =
    if prefix_len is_hex bytes == 0
    then None
    else one_more (byte_escape (prefix_len is_hex bytes) (hex_value 0 (take (prefix_len is_hex bytes) bytes)))

-- how many bytes an escape has after its backslash, or nothing if it is malformed
abbrev pub escape_len : List ℕ → Option ℕ
escape_len [] = None
escape_len (byte ∷ rest) =
    if is_simple_escape byte then Some 1
    else if is_octal byte then octal_escape (byte ∷ rest)
    else if byte == 120 then hex_escape rest
    else None

-- a bad escape counts as its backslash alone
abbrev pub backslash_len : Option ℕ → ℕ
backslash_len None = 1
backslash_len (Some n) = n + 1

-- how many bytes the character at the front has
abbrev pub character_len : List ℕ → ℕ
character_len [] = 0
character_len (byte ∷ rest) = if byte == 92 then backslash_len (escape_len rest) else 1

-- it is malformed
abbrev pub is_bad_escape : Option ℕ → Bool
is_bad_escape None = true
is_bad_escape (Some n) = false

-- the character at the front is a bad escape
abbrev pub is_bad_character : List ℕ → Bool
is_bad_character [] = false
is_bad_character (byte ∷ rest) = if byte == 92 then is_bad_escape (escape_len rest) else false
