-- The values of character constants (X3.159-1989 3.1.3.4). One byte is its value as a char, which is signed; two to four
-- bytes are their big-endian number (own).
--     characters_of content     the values of the characters of a content, each a byte
--     character_value text      the 32 bits of the constant of type int, if the text is one
use Rattle.std.specs.Prelude.{ℕ, zero, suc, ◌+◌, ◌-◌, ◌*◌, ◌==◌, nat_le, nat_lt, List, [], ◌∷◌, length, drop, take, Option, Some, None, if◌then◌else◌}
use Rattle.hs_tokens.specs.Characters.{is_octal}
use Rattle.hs_tokens.specs.Literals.{octal_value, hex_value, character_len}

-- the value of a simple escape: \a \b \t \n \v \f \r are 7 to 13 in this order (own)
abbrev pub simple_value : ℕ → ℕ
simple_value byte =
    if byte == 97 then 7 else if byte == 98 then 8 else if byte == 116 then 9 else if byte == 110 then 10
    else if byte == 118 then 11 else if byte == 102 then 12 else if byte == 114 then 13 else byte

-- the value of an escape of so many bytes after its backslash
abbrev pub escape_value : ℕ → List ℕ → ℕ
escape_value len [] = 0
escape_value len (byte ∷ rest) =
    if is_octal byte then octal_value 0 (take len (byte ∷ rest))
    else if byte == 120 then hex_value 0 (take (len - 1) rest)
    else simple_value byte

-- the value of the character at the front
abbrev pub value_at : List ℕ → ℕ
value_at [] = 0
value_at (byte ∷ rest) = if byte == 92 then escape_value (character_len (byte ∷ rest) - 1) rest else byte

-- `skip` is how many bytes are left of the character that began before
abbrev pub values_after : ℕ → List ℕ → List ℕ
values_after skip [] = []
values_after (suc skip) (byte ∷ rest) = values_after skip rest
values_after zero (byte ∷ rest) = value_at (byte ∷ rest) ∷ values_after (character_len (byte ∷ rest) - 1) rest

-- the values of the characters of a content
abbrev pub characters_of : List ℕ → List ℕ
characters_of content = values_after 0 content

-- bytes as a big-endian number, after bytes of that number
abbrev pub big_endian : ℕ → List ℕ → ℕ
big_endian number [] = number
big_endian number (byte ∷ bytes) = big_endian (256 * number + byte) bytes

-- the 32 bits of the constant with these characters
abbrev pub bits_of : List ℕ → Option ℕ
bits_of [] = None
bits_of (byte ∷ []) = Some (if nat_lt byte 128 then byte else byte + 4294967040)
bits_of (byte ∷ second ∷ bytes) = if nat_le (length bytes) 2 then Some (big_endian 0 (byte ∷ second ∷ bytes)) else None

-- what stands between the quotes
abbrev pub content_of : List ℕ → List ℕ
content_of text = take (length text - 2) (drop 1 text)

-- the 32 bits of a character constant, with its quotes
abbrev pub character_value : List ℕ → Option ℕ
character_value text = bits_of (characters_of (content_of text))
