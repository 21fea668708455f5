-- What the parts of the scanner say, in the definition's words.
--     ahead cursor                    the bytes ahead, with their places
--     bytes_ahead cursor              without
--     placed_at step                  the byte of a step
--     bytes_at step                   that byte, and those after it
--     IsLine cursor step              the step is at the first byte of phase 1
--     IsNext cursor step              the step is at the first byte of phase 2
--     IsSplice step behind            the cursor is after the splice that begins there
--     IsCharacter step behind         the cursor is after the character that begins there
--     IsFirstBad content bad          the place of the first bad escape of a content, if there is one
--     IsGood content whole found      the token, or the refusal of the first bad escape of its content
--     form part                       the form that a part of the code stands for
--     comment_ahead pos cursor, character_ahead pos cursor, literal_ahead pos cursor
--                                     the form of a comment, a character constant and a literal, at the place of its
--                                     opening, with the cursor after that
use Rattle.std.specs.Prelude.{ℕ, ◌+◌, ◌-◌, ◌<◌, ◌≤◌, ◌≡◌, true, false, List, [], ◌∷◌, length, drop, Option, Some, None}
use Rattle.hs_base.specs.declared.pos.Pos.{Pos}
use Rattle.hs_tokens.specs.Lines.{Placed, placed_from, unspliced}
use Rattle.hs_tokens.specs.Literals.{content_len, character_len, is_bad_character}
use Rattle.hs_tokens.specs.Forms.{bytes_of, first_bad, comment_len_after, Form, blank, line_end, comment, token, refused, good_form, comment_form, character_form, literal_form}
use Rattle.hs_tokens.specs.Cursor.{ahead_of}
use Rattle.hs_tokens.specs.declared.cursor.Cursor.{Cursor}
use Rattle.hs_tokens.specs.declared.cursor.Step.{Step}
use Rattle.hs_tokens.specs.declared.forms.Part.{Part}
use Rattle.hs_tokens.specs.declared.forms.Part.TheVariants.{Blank, LineEnd, Comment, Token, Refused}

-- the bytes ahead, phases 1 and 2 done
abbrev pub ahead : Cursor → List Placed
ahead cursor = ahead_of cursor.pos cursor.rest.now cursor.left

-- without their places
abbrev pub bytes_ahead : Cursor → List ℕ
bytes_ahead cursor = bytes_of (ahead cursor)

-- the bytes ahead, phase 1 done
abbrev pub lines_ahead : Cursor → List Placed
lines_ahead cursor = placed_from cursor.pos cursor.rest.now

-- the byte of a step
abbrev pub placed_at : Step → Placed
placed_at step = record { byte = step.byte; pos = step.pos }

-- that byte, and those after it
abbrev pub bytes_at : Step → List ℕ
bytes_at step = step.byte ∷ bytes_ahead step.after

-- the first byte of phase 1, or none at the end
abbrev pub IsLine : Cursor → Option Step → Type 0
IsLine cursor None = lines_ahead cursor ≡ []
IsLine cursor (Some step) =
    (lines_ahead cursor ≡ placed_at step ∷ lines_ahead step.after) × (length step.after.rest.now < length cursor.rest.now)
    × (step.after.left ≡ cursor.left)

-- the first byte of phase 2, or none at the end
abbrev pub IsNext : Cursor → Option Step → Type 0
IsNext cursor None = ahead cursor ≡ []
IsNext cursor (Some step) = (ahead cursor ≡ placed_at step ∷ ahead step.after) × (step.after.left + 1 ≡ cursor.left)

-- after the splice that the byte of phase 1 begins, or none if it begins none
abbrev pub IsSplice : Step → Option Cursor → Type 0
IsSplice step None = unspliced (placed_at step ∷ lines_ahead step.after) ≡ placed_at step ∷ unspliced (lines_ahead step.after)
IsSplice step (Some behind) =
    (unspliced (placed_at step ∷ lines_ahead step.after) ≡ unspliced (lines_ahead behind))
    × (length behind.rest.now < length step.after.rest.now)

-- after the character that the byte begins, or none if that is a bad escape
abbrev pub IsCharacter : Step → Option Cursor → Type 0
IsCharacter step None = (is_bad_character (bytes_at step) ≡ true) × (character_len (bytes_at step) ≡ 1)
IsCharacter step (Some behind) =
    (is_bad_character (bytes_at step) ≡ false) × (ahead behind ≡ drop (character_len (bytes_at step) - 1) (ahead step.after))
    × (behind.left ≤ step.after.left)

-- the place of the first bad escape of a content, if there is one
abbrev pub IsFirstBad : List Placed → Option Pos → Type 0
IsFirstBad content bad = (other : Pos) → first_bad other content ≡ bad

-- the token, or the refusal of the first bad escape of its content
abbrev pub IsGood : List Placed → Form → Form → Type 0
IsGood content whole found = (pos : Pos) → found ≡ good_form pos (first_bad pos content) true whole

-- what the definition calls a part
abbrev pub form : Part → Form
form Blank = blank
form LineEnd = line_end
form (Comment len) = comment len
form (Token kind len) = token kind len
form (Refused error) = refused error

-- a comment after its opening
abbrev pub comment_ahead : Pos → Cursor → Form
comment_ahead pos cursor = comment_form pos (comment_len_after false (bytes_ahead cursor))

-- a character constant after its opening quote
abbrev pub character_ahead : Pos → Cursor → Form
character_ahead pos cursor = character_form pos (ahead cursor) (content_len 39 (bytes_ahead cursor))

-- a literal after its opening quote
abbrev pub literal_ahead : Pos → Cursor → Form
literal_ahead pos cursor = literal_form pos (ahead cursor) (content_len 34 (bytes_ahead cursor))
