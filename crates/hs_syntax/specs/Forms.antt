-- What the grammar is written in: a form is the tokens of a phrase, and whether the phrase is one of the grammar.
--     nowhere                      no place in any file
--     Piece                        a token as a tree has it
--     Form, ◌⨾◌, when, nothing_at_all     forms, one after another, under a condition, and the empty one
--     mark, word, keyword_at, ..   the forms of one token
--     Spells pieces sources        the tokens are these pieces
use Rattle.std.specs.Prelude.{◌≡◌, ℕ, Bool, true, ◌&&◌, List, [], ◌∷◌, ◌++◌, Option, Some, None, IfSome}
use Rattle.hs_base.specs.declared.pos.Pos.{Pos}
use Rattle.hs_tokens.specs.declared.token.Origin.{Origin}
use Rattle.hs_tokens.specs.declared.token.Origin.TheVariants.{Plain}
use Rattle.hs_tokens.specs.declared.token.SourceToken.{SourceToken}
use Rattle.hs_tokens.specs.declared.token.TokenKind.{TokenKind}
use Rattle.hs_tokens.specs.declared.token.TokenKind.TheVariants.{Identifier, Number, Character, Literal, Punctuator}
use Rattle.hs_tokens.specs.declared.place.Place.{Place}
use Rattle.hs_syntax.specs.declared.word.Word.{Word}

-- no place in any file: lines and columns count from 1
abbrev pub nowhere : Place
nowhere = record { pos = record { file = 0; line = 0; col = 0 }; origin = Plain }

-- a token: its kind and its text, and its place if the tree has it
pub record Piece : Type 0 where
  pub kind : TokenKind
  pub text : List ℕ
  pub place : Option Place

-- the tokens of a phrase, and whether it is one of the grammar
pub record Form : Type 0 where
  pub fits : Bool
  pub pieces : List Piece

infixr 20 ◌⨾◌
-- one phrase after another
abbrev pub ◌⨾◌ : Form → Form → Form
first ⨾ second = record { fits = first.fits && second.fits; pieces = first.pieces ++ second.pieces }

-- a phrase under a condition
abbrev pub when : Bool → Form → Form
when condition form = record { fits = condition && form.fits; pieces = form.pieces }

-- the empty phrase
abbrev pub nothing_at_all : Form
nothing_at_all = record { fits = true; pieces = [] }

-- one token
abbrev pub token : TokenKind → List ℕ → Option Place → Form
token kind text place = record { fits = true; pieces = record { kind = kind; text = text; place = place } ∷ [] }

-- a punctuator, and one with its place
abbrev pub mark : List ℕ → Form
mark text = token Punctuator text None

abbrev pub mark_at : Place → List ℕ → Form
mark_at place text = token Punctuator text (Some place)

-- a keyword, and one with its place
abbrev pub keyword : List ℕ → Form
keyword text = token Identifier text None

abbrev pub keyword_at : Place → List ℕ → Form
keyword_at place text = token Identifier text (Some place)

-- an identifier or a constant of this kind
abbrev pub word : TokenKind → Word → Form
word kind it = token kind it.text (Some it.place)

-- a place is that of the token
abbrev pub IsAt : SourceToken → Place → Type 0
IsAt source place = (source.token.pos ≡ place.pos) × (source.origin ≡ place.origin)

-- the tokens are these pieces, one for one
abbrev pub Spells : List Piece → List SourceToken → Type 0
Spells [] [] = Unit {0}
Spells (piece ∷ pieces) (source ∷ sources) =
    (source.token.kind ≡ piece.kind) × (source.token.text ≡ piece.text) × IfSome piece.place (IsAt source)
    × Spells pieces sources
Spells [] (source ∷ sources) = ⊥
Spells (piece ∷ pieces) [] = ⊥

-- the phrase is one of the grammar, and the tokens are its own
abbrev pub IsOf : Form → List SourceToken → Type 0
IsOf form sources = (form.fits ≡ true) × Spells form.pieces sources
