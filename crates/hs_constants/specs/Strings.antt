-- The bytes of string literals (X3.159-1989 3.1.4). A literal that begins with `\p` has a byte in front that counts its
-- other bytes, at most 255 (own).
--     string_value text     the bytes of the literal, with its quotes in the text, if it has a value
use Rattle.std.specs.Prelude.{ℕ, nat_lt, List, ◌∷◌, length, drop, Option, Some, None, if◌then◌else◌}
use Rattle.hs_tokens.specs.Forms.{is_counted}
use Rattle.hs_constants.specs.Characters.{content_of, characters_of}

-- bytes with their number in front, if that is a byte
abbrev pub counted : List ℕ → Option (List ℕ)
counted bytes = if nat_lt (length bytes) 256 then Some (length bytes ∷ bytes) else None

-- the bytes of a literal, with its quotes
abbrev pub string_value : List ℕ → Option (List ℕ)
string_value text =
    if is_counted (content_of text) then counted (characters_of (drop 2 (content_of text))) else Some (characters_of (content_of text))
