-- What begins at a byte of a text without splices: white space, a comment, a token, or what is refused there
-- (X3.159-1989 2.1.1.2 phase 3, and 3.1). A token is the longest that can be made.
--     cuts len skip bytes           the rests at which a part begins, if `len` is the length of the part at the front
--     Form, form_of, form_len       what begins at the front, and how many bytes it has
--     comment_form pos len          a comment
--     number_len, punctuator_len    how many bytes such a token has at the front
--     characters content            the characters of a literal, and `first_bad` its first bad escape
--     character_form pos rest len   a character constant, if its content has so many bytes
--     literal_form pos rest len     a literal, likewise
--     plain_form pos bytes          any other token
use Rattle.std.specs.Prelude.{ℕ, zero, suc, ◌+◌, ◌-◌, ◌==◌, nat_lt, nat_eq, max, Bool, true, false, ◌&&◌, ◌||◌, List, [], ◌∷◌, length, map, find, take, drop, codes, Option, Some, None, if◌then◌else◌}
use Rattle.std.specs.List.{prefix_len, starts_with}
use Rattle.hs_base.specs.declared.pos.Pos.{Pos}
use Rattle.hs_base.specs.Text.{is_digit, is_letter, is_word_byte}
use Rattle.hs_tokens.specs.Characters.{is_blank}
use Rattle.hs_tokens.specs.Lines.{Placed}
use Rattle.hs_tokens.specs.Literals.{one_more, content_len, character_len, is_bad_character}
use Rattle.hs_tokens.specs.declared.token.TokenKind.{TokenKind}
use Rattle.hs_tokens.specs.declared.token.TokenKind.TheVariants.{Identifier, Number, Character, Literal, Punctuator}
use Rattle.hs_tokens.specs.declared.scan_error.ScanError.{ScanError}
use Rattle.hs_tokens.specs.declared.scan_error.ScanError.TheVariants.{BadByte, OpenComment, OpenString}

-- the bytes without their places
abbrev pub bytes_of : List Placed → List ℕ
bytes_of bytes = map (λ placed. placed.byte) bytes

-- `skip` is how many bytes are left of the part that began before
abbrev pub cuts : (List Placed → ℕ) → ℕ → List Placed → List (List Placed)
cuts len skip [] = []
cuts len (suc skip) (placed ∷ rest) = cuts len skip rest
cuts len zero (placed ∷ rest) = (placed ∷ rest) ∷ cuts len (len (placed ∷ rest) - 1) rest

-- what begins at a byte
pub data Form : Type 0 where
  -- a space, tab, VT or FF
  blank : Form
  -- a line's end
  line_end : Form
  -- a comment or a token of so many bytes
  comment : ℕ → Form
  token : TokenKind → ℕ → Form
  -- what is refused, at its place
  refused : ScanError → Form

-- the bytes of a comment after its opening, up to the first `*/`; `star` says that a `*` stands before
abbrev pub comment_len_after : Bool → List ℕ → Option ℕ
comment_len_after star [] = None
comment_len_after star (byte ∷ rest) = if star && (byte == 47) then Some 1 else one_more (comment_len_after (byte == 42) rest)

-- the comment whose closing was found, or was not
abbrev pub comment_form : Pos → Option ℕ → Form
comment_form pos None = refused (OpenComment pos)
comment_form pos (Some n) = comment (n + 2)

-- C 3.1.8: a digit, or a dot and a digit
abbrev pub begins_number : List ℕ → Bool
begins_number [] = false
begins_number (byte ∷ []) = is_digit byte
begins_number (byte ∷ next ∷ rest) = is_digit byte || ((byte == 46) && is_digit next)

-- digits, letters, dots, and a sign after an e or E; `exponent` says that an e or E stands before
abbrev pub number_len_after : Bool → List ℕ → ℕ
number_len_after exponent [] = 0
number_len_after exponent (byte ∷ rest) =
    if is_word_byte byte || (byte == 46) then number_len_after ((byte == 101) || (byte == 69)) rest + 1
    else if exponent && ((byte == 43) || (byte == 45)) then number_len_after false rest + 1
    else 0

-- C 3.1.8: how many bytes a preprocessing number has
abbrev pub number_len : List ℕ → ℕ
number_len bytes = number_len_after false bytes

-- C 3.1.5 and 3.1.6; `sizeof` is a word
unfoldable pub punctuators : List (List ℕ)
punctuators =
    codes "[" ∷ codes "]" ∷ codes "(" ∷ codes ")" ∷ codes "{" ∷ codes "}" ∷ codes "." ∷ codes "->" ∷ codes "++" ∷ codes "--" ∷ codes "&" ∷ codes "*"
    ∷ codes "+" ∷ codes "-" ∷ codes "~" ∷ codes "!" ∷ codes "/" ∷ codes "%" ∷ codes "<<" ∷ codes ">>" ∷ codes "<" ∷ codes ">" ∷ codes "<=" ∷ codes ">="
    ∷ codes "==" ∷ codes "!=" ∷ codes "^" ∷ codes "|" ∷ codes "&&" ∷ codes "||" ∷ codes "?" ∷ codes ":" ∷ codes "=" ∷ codes "*=" ∷ codes "/=" ∷ codes "%="
    ∷ codes "+=" ∷ codes "-=" ∷ codes "<<=" ∷ codes ">>=" ∷ codes "&=" ∷ codes "^=" ∷ codes "|="
    ∷ codes "," ∷ codes "#" ∷ codes "##" ∷ codes ";" ∷ codes "..." ∷ []

-- how long the longest of the texts is that the bytes begin with; 0 if they begin with none
abbrev pub longest_of : List (List ℕ) → List ℕ → ℕ
longest_of [] bytes = 0
longest_of (text ∷ texts) bytes = if starts_with nat_eq bytes text then max (length text) (longest_of texts bytes) else longest_of texts bytes

-- the longest punctuator at the front
abbrev pub punctuator_len : List ℕ → ℕ
punctuator_len bytes = longest_of punctuators bytes

-- the characters of a content: the rests at which they begin
abbrev pub characters : List Placed → List (List Placed)
characters content = cuts (λ rest. character_len (bytes_of rest)) 0 content

-- the place of the first byte
abbrev pub place_of : Pos → List Placed → Pos
place_of other [] = other
place_of other (placed ∷ rest) = placed.pos

-- the place of the first bad escape of a content
abbrev pub place_of_bad : Pos → Option (List Placed) → Option Pos
place_of_bad other None = None
place_of_bad other (Some rest) = Some (place_of other rest)

-- the place of the first bad escape of a content, if there is one
abbrev pub first_bad : Pos → List Placed → Option Pos
first_bad pos content = place_of_bad pos (find (λ rest. is_bad_character (bytes_of rest)) (characters content))

-- a literal whose characters are good, if its number of bytes fits
abbrev pub good_form : Pos → Option Pos → Bool → Form → Form
good_form pos (Some bad) fits form = refused (BadByte bad)
good_form pos None true form = form
good_form pos None false form = refused (BadByte pos)

-- C 3.1.3.4: one to four bytes (own), at the opening quote. A bad escape is refused before the number of bytes is.
abbrev pub character_form : Pos → List Placed → Option ℕ → Form
character_form pos rest None = refused (OpenString pos)
character_form pos rest (Some n) =
    if n == 0 then refused (OpenString pos)
    else good_form pos (first_bad pos (take n rest)) (nat_lt (length (characters (take n rest))) 5) (token Character (n + 2))

-- the content begins with `\\p`
abbrev pub is_counted : List ℕ → Bool
is_counted bytes = starts_with nat_eq bytes (92 ∷ 112 ∷ [])

-- C 3.1.4. A string that begins with `\\p` has a byte in front that counts the others (own): at most 255. One with more
-- is refused at its `\\p`, whatever escapes follow it.
abbrev pub literal_form : Pos → List Placed → Option ℕ → Form
literal_form pos rest None = refused (OpenString pos)
literal_form pos rest (Some n) =
    if is_counted (bytes_of (take n rest))
    then if nat_lt (length (characters (drop 2 (take n rest)))) 256
    then good_form pos (first_bad pos (drop 2 (take n rest))) true (token Literal (n + 2))
    else refused (BadByte (place_of pos rest))
    else good_form pos (first_bad pos (take n rest)) true (token Literal (n + 2))

-- a token that is no literal, or a byte that begins none
abbrev pub plain_form : Pos → List ℕ → Form
plain_form pos [] = refused (BadByte pos)
plain_form pos (byte ∷ rest) =
    if is_letter byte then token Identifier (prefix_len is_word_byte (byte ∷ rest))
    else if begins_number (byte ∷ rest) then token Number (number_len (byte ∷ rest))
    else if punctuator_len (byte ∷ rest) == 0 then refused (BadByte pos)
    else token Punctuator (punctuator_len (byte ∷ rest))

-- what begins at the front
abbrev pub form_of : List Placed → Form
form_of [] = blank
form_of (placed ∷ rest) =
    if placed.byte == 10 then line_end
    else if is_blank placed.byte then blank
    else if starts_with nat_eq (bytes_of (placed ∷ rest)) (47 ∷ 42 ∷ []) then comment_form placed.pos (comment_len_after false (drop 1 (bytes_of rest)))
    else if placed.byte == 34 then literal_form placed.pos rest (content_len 34 (bytes_of rest))
    else if placed.byte == 39 then character_form placed.pos rest (content_len 39 (bytes_of rest))
    else plain_form placed.pos (bytes_of (placed ∷ rest))

-- how many bytes it has
abbrev pub form_len : Form → ℕ
form_len blank = 1
form_len line_end = 1
form_len (comment n) = n
form_len (token kind n) = n
form_len (refused error) = 1
