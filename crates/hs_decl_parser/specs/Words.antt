-- The words that statements begin with (X3.159-1989 3.6).
--     statement_text word        its spelling
--     statement_word_of source   the word that a token is
--     begins_label source        the token begins a label
use Rattle.std.specs.Prelude.{ℕ, Bool, ◌||◌, List, [], ◌∷◌, codes, Option}
use Rattle.hs_tokens.specs.declared.token.SourceToken.{SourceToken}
use Rattle.hs_tokens.specs.declared.token.TokenKind.TheVariants.{Identifier}
use Rattle.hs_tokens.specs.declared.place.Place.{Place}
use Rattle.hs_expr_parser.specs.Ahead.{token_so, is_keyword, is_ahead, first_at, place_if}
use Rattle.hs_expr_parser.specs.Recursion.{Read}
use Rattle.hs_decl_parser.specs.declared.words.StatementWord.{StatementWord}
use Rattle.hs_decl_parser.specs.declared.words.StatementWord.TheVariants.{If, While, Do, For, Switch, Break, Continue, Return}

abbrev pub statement_text : StatementWord → List ℕ
statement_text If = codes "if"
statement_text While = codes "while"
statement_text Do = codes "do"
statement_text For = codes "for"
statement_text Switch = codes "switch"
statement_text Break = codes "break"
statement_text Continue = codes "continue"
statement_text Return = codes "return"

abbrev pub statement_words : List StatementWord
statement_words = If ∷ While ∷ Do ∷ For ∷ Switch ∷ Break ∷ Continue ∷ Return ∷ []

abbrev pub statement_word_of : SourceToken → Option StatementWord
statement_word_of = token_so Identifier statement_text statement_words

-- the place of the first token, which is this word
abbrev pub keyword_at : List ℕ → List SourceToken → Read Place
keyword_at word = first_at (λ source. place_if (is_keyword word source) source)

-- an `else` stands there
abbrev pub is_else_ahead : List SourceToken → Bool
is_else_ahead = is_ahead (is_keyword (codes "else"))

-- a label of a switch (3.6.1)
abbrev pub begins_label : SourceToken → Bool
begins_label source = is_keyword (codes "case") source || is_keyword (codes "default") source
