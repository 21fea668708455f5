-- The beginning and the end of a straight program.
use Rattle.std.specs.Prelude.{List, ◌++◌, map, ◌↔◌}
use Rattle.hs_checker.specs.Straight.Grammar.{Piece, word, opening, closing, Spells}
use Rattle.hs_tokens.specs.declared.token.SourceToken.{SourceToken}

-- the rest follows the beginning
abbrev pub IsOpened : List SourceToken → List SourceToken → Type 0
IsOpened tokens rest = (pieces : List Piece) → Spells (map word opening ++ pieces) tokens ↔ Spells pieces rest

-- the tokens do not begin as each straight program does
abbrev pub NotOpened : List SourceToken → Type 0
NotOpened tokens = (pieces : List Piece) → ¬ Spells (map word opening ++ pieces) tokens

-- the tokens are the end of `main`, and nothing follows
abbrev pub IsClosing : List SourceToken → Type 0
IsClosing tokens = Spells (map word closing) tokens
