-- How a character constant is read: character by character, an escape after its backslash (X3.159-1989 3.1.3.4).
--     len_of len                    how many bytes an escape has after its backslash; a bad one has none
--     IsCharacter content found     the character at the front of a content, and what follows it
--     IsBehindCount content rest    what follows the `\p` of a content that begins with one
use Rattle.std.specs.Prelude.{◌≡◌, ℕ, ◌<◌, true, false, List, [], ◌∷◌, length, drop, Option, Some, None}
use Rattle.std.specs.Borrow.{Bor}
use Rattle.hs_tokens.specs.Forms.{is_counted}
use Rattle.hs_constants.specs.Characters.{characters_of}
use Rattle.hs_constants.specs.declared.characters.Character.{Character}

-- a bad escape has none
abbrev pub len_of : Option ℕ → ℕ
len_of None = 0
len_of (Some len) = len

-- the character at the front, or nothing at the end
abbrev pub IsCharacter : List ℕ → Option Character → Type 0
IsCharacter content None = content ≡ []
IsCharacter content (Some found) = (characters_of content ≡ found.value ∷ characters_of found.behind.now) × (length found.behind.now < length content)

-- what follows the `\p`, or nothing if the content does not begin with one
abbrev pub IsBehindCount : List ℕ → Option (Bor (List ℕ)) → Type 0
IsBehindCount content None = is_counted content ≡ false
IsBehindCount content (Some rest) = (is_counted content ≡ true) × (rest.now ≡ drop 2 content)
