-- The tokens that are made of pieces.
--     token_of piece, source_of piece      a token, with the place of the piece if it has one
--     spelling externals                   the tokens of a unit
use Rattle.std.specs.Prelude.{true, false, List, [], map, Option, Some, None}
use Rattle.hs_tokens.specs.declared.token.SourceToken.{SourceToken}
use Rattle.hs_tokens.specs.declared.token.Token.{Token}
use Rattle.hs_syntax.specs.Forms.{Piece, nowhere}
use Rattle.hs_syntax.specs.Grammar.{unit_form}
use Rattle.hs_syntax.specs.Trees.{TranslationUnit}
use Rattle.hs_tokens.specs.declared.place.Place.{Place}

-- the place of a piece
abbrev pub place_or_nowhere : Option Place → Place
place_or_nowhere None = nowhere
place_or_nowhere (Some place) = place

-- the token of a piece: the first on no line, with white space before it
abbrev pub token_of : Piece → Token
token_of piece =
    record {
      kind = piece.kind;
      text = piece.text;
      pos = (place_or_nowhere piece.place).pos;
      first = false;
      spaced = true;
    }

-- and where it comes from
abbrev pub source_of : Piece → SourceToken
source_of piece = record { token = token_of piece; origin = (place_or_nowhere piece.place).origin }

-- the tokens that the grammar relates to a unit
abbrev pub spelling : TranslationUnit → List Token
spelling externals = map token_of (unit_form [] externals).pieces
