-- The kinds of tokens that directives and macros look for (X3.159-1989 3.8).
--     is_identifier token      an identifier, or a keyword: they are alike before the grammar (3.1.1, 3.1.2)
--     is_mark mark token       this punctuator
use Rattle.std.specs.Prelude.{ℕ, List, Bool, true, false, ◌&&◌}
use Rattle.std.specs.Str.{bytes_eq}
use Rattle.hs_tokens.specs.declared.token.Token.{Token}
use Rattle.hs_tokens.specs.declared.token.TokenKind.{TokenKind}
use Rattle.hs_tokens.specs.declared.token.TokenKind.TheVariants.{Identifier, Number, Character, Literal, Punctuator}

-- the two kinds are one
abbrev pub is_same_kind : TokenKind → TokenKind → Bool
is_same_kind Identifier Identifier = true
is_same_kind Number Number = true
is_same_kind Character Character = true
is_same_kind Literal Literal = true
is_same_kind Punctuator Punctuator = true
is_same_kind _ _ = false

-- an identifier or a keyword
abbrev pub is_identifier : Token → Bool
is_identifier token = is_same_kind token.kind Identifier

-- the punctuator of these bytes
abbrev pub is_mark : List ℕ → Token → Bool
is_mark mark token = is_same_kind token.kind Punctuator && bytes_eq token.text mark
