-- The pieces of a file: directives, and the runs of text between them (X3.159-1989 3.8).
--     begins_directive token      a `#` that is the first token on its line
--     pieces tokens               the pieces, in order
--     keyword_of line             what the tokens after a `#` call for
use Rattle.std.specs.Prelude.{ℕ, List, [], ◌∷◌, Bool, true, false, ◌&&◌, not, if◌then◌else◌, codes}
use Rattle.std.specs.Str.{bytes_eq}
use Rattle.hs_tokens.specs.declared.token.Token.{Token}
use Rattle.hs_tokens.specs.Marks.{is_identifier, is_mark}
use Rattle.hs_directives.specs.declared.keyword.Keyword.{Keyword}
use Rattle.hs_directives.specs.declared.keyword.Keyword.TheVariants.{If, Ifdef, Ifndef, Elif, Else, Endif, Include, Define, Undef, Dropped, Bad}

-- a directive begins
abbrev pub begins_directive : Token → Bool
begins_directive token = token.first && is_mark (codes "#") token

-- a run of text, or a directive with its `#` and the tokens after that on its line
pub data Piece : Type 0 where
  run : List Token → Piece
  directive : Token → List Token → Piece

-- one more token of text in front: it joins the run that follows
abbrev pub with_text : Token → List Piece → List Piece
with_text token [] = run (token ∷ []) ∷ []
with_text token (run tokens ∷ rest) = run (token ∷ tokens) ∷ rest
with_text token (directive hash line ∷ rest) = run (token ∷ []) ∷ directive hash line ∷ rest

-- the tokens of the line that are left
abbrev pub line_of : List Token → List Token
line_of [] = []
line_of (token ∷ rest) = if token.first then [] else token ∷ line_of rest

-- `inside` says that the tokens stand on the line of a directive, and belong to it
abbrev pub pieces_from : Bool → List Token → List Piece
pieces_from inside [] = []
pieces_from inside (token ∷ rest) =
    if begins_directive token then directive token (line_of rest) ∷ pieces_from true rest
    else if inside && not token.first then pieces_from true rest
    else with_text token (pieces_from false rest)

-- the pieces of a file
abbrev pub pieces : List Token → List Piece
pieces tokens = pieces_from false tokens

-- the first of these words that the name is
abbrev pub keyword : List ℕ → Keyword
keyword name =
    if bytes_eq name (codes "if") then If
    else if bytes_eq name (codes "ifdef") then Ifdef
    else if bytes_eq name (codes "ifndef") then Ifndef
    else if bytes_eq name (codes "elif") then Elif
    else if bytes_eq name (codes "else") then Else
    else if bytes_eq name (codes "endif") then Endif
    else if bytes_eq name (codes "include") then Include
    else if bytes_eq name (codes "define") then Define
    else if bytes_eq name (codes "undef") then Undef
    else if bytes_eq name (codes "line") then Dropped
    else if bytes_eq name (codes "pragma") then Dropped
    else Bad

-- what the line calls for: an empty one is the null directive (3.8.7), and `#error` (3.8.5) is refused like a line of no form
abbrev pub keyword_of : List Token → Keyword
keyword_of [] = Dropped
keyword_of (name ∷ rest) = if is_identifier name then keyword name.text else Bad
