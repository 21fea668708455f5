-- How deep the tokens of a unit are nested. Own to this project: it is counted over the tokens, before the grammar.
-- There is an outermost level. Each `(`, `[` and `{` begins a level, and the next closing bracket of any kind that
-- stands on that level ends it. A deepener is a token that makes the nesting one deeper: the keywords `if`, `while`, `do`,
-- `for`, `switch` and `sizeof`, and all punctuators but `,` `;` `:` `)` `]` `}`. It counts on the level on which it stands;
-- so does an opening bracket, which then begins the next one.
--     deepener_of token          the deepener that the token is
--     after levels token next    the deepeners on each open level after the token
--     nestings levels tokens     the nesting at each token
--     IsShallow tokens           it is at most 256 at every token
use Rattle.std.specs.Prelude.{◌≡◌, ◌+◌, ℕ, nat_le, Bool, true, false, ◌&&◌, ◌||◌, List, [], ◌∷◌, length, codes, Option}
use Rattle.std.specs.Prelude.{Some, None, if◌then◌else◌}
use Rattle.std.specs.List.{filter, list_all, list_any}
use Rattle.std.specs.Str.{bytes_eq}
use Rattle.hs_base.specs.Limit.{number_of}
use Rattle.hs_base.specs.declared.limit.LimitKind.TheVariants.{Depth}
use Rattle.hs_tokens.specs.Marks.{is_identifier, is_mark, is_same_kind}
use Rattle.hs_tokens.specs.declared.token.SourceToken.{SourceToken}
use Rattle.hs_tokens.specs.declared.token.TokenKind.TheVariants.{Punctuator}

-- a deepener: `do`, another keyword, `?`, or any other punctuator
pub data Deepener : Type 0 where
  do_ : Deepener
  keyword : Deepener
  query : Deepener
  other : Deepener

-- the deepeners that stand on each open level, the innermost level first, and the newest deepener first
abbrev pub Levels : Type 0
Levels = List (List Deepener)

-- the token has this word
abbrev pub is_word : List ℕ → SourceToken → Bool
is_word word source = is_identifier source.token && bytes_eq source.token.text word

-- the token is this punctuator
abbrev pub is_punctuator : List ℕ → SourceToken → Bool
is_punctuator mark source = is_mark mark source.token

-- `(`, `[` or `{`
abbrev pub opens : SourceToken → Bool
opens source = is_punctuator (codes "(") source || is_punctuator (codes "[") source || is_punctuator (codes "{") source

-- `)`, `]` or `}`
abbrev pub closes : SourceToken → Bool
closes source = is_punctuator (codes ")") source || is_punctuator (codes "]") source || is_punctuator (codes "}") source

-- one of the keywords that are deepeners, but for `do`
abbrev pub is_deepening_word : SourceToken → Bool
is_deepening_word source =
    is_word (codes "if") source || is_word (codes "while") source || is_word (codes "for") source
    || is_word (codes "switch") source || is_word (codes "sizeof") source

-- a punctuator that is no deepener
abbrev pub is_neutral : SourceToken → Bool
is_neutral source =
    is_punctuator (codes ",") source || is_punctuator (codes ";") source || is_punctuator (codes ":") source
    || closes source

-- the deepener of a punctuator
abbrev pub punctuator_deepener : SourceToken → Option Deepener
punctuator_deepener source =
    if is_neutral source then None
    else if is_punctuator (codes "?") source then Some query
    else Some other

-- the deepener that a token is
abbrev pub deepener_of : SourceToken → Option Deepener
deepener_of source =
    if is_word (codes "do") source then Some do_
    else if is_deepening_word source then Some keyword
    else if is_same_kind source.token.kind Punctuator then punctuator_deepener source
    else None

-- a keyword
abbrev pub is_keyword : Deepener → Bool
is_keyword do_ = true
is_keyword keyword = true
is_keyword query = false
is_keyword other = false

-- `do`
abbrev pub is_do : Deepener → Bool
is_do do_ = true
is_do _ = false

-- what stays at a `,`: keywords and `?`
abbrev pub stays_at_comma : Deepener → Bool
stays_at_comma other = false
stays_at_comma _ = true

-- The statement goes on after its end: the next token is `else`, or it is `while` and a `do` is open.
abbrev pub goes_on : List Deepener → List SourceToken → Bool
goes_on deepeners [] = false
goes_on deepeners (next ∷ rest) = is_word (codes "else") next || (is_word (codes "while") next && list_any is_do deepeners)

-- the deepeners of a level after a statement's end
abbrev pub ended : List Deepener → List SourceToken → List Deepener
ended deepeners rest = if goes_on deepeners rest then filter is_keyword deepeners else []

-- the level's deepeners, changed
abbrev pub on_level : (List Deepener → List Deepener) → Levels → Levels
on_level change [] = []
on_level change (deepeners ∷ levels) = change deepeners ∷ levels

-- the innermost level ends, but for the outermost one
abbrev pub closed : Levels → Levels
closed [] = []
closed (deepeners ∷ []) = deepeners ∷ []
closed (deepeners ∷ around ∷ levels) = around ∷ levels

-- A `}` that ends a level ends the deepeners of the level around it.
abbrev pub closed_block : Levels → List SourceToken → Levels
closed_block [] rest = []
closed_block (deepeners ∷ []) rest = deepeners ∷ []
closed_block (deepeners ∷ around ∷ levels) rest = ended around rest ∷ levels

-- the token's own deepener, on the innermost level
abbrev pub deepened : Option Deepener → Levels → Levels
deepened None levels = levels
deepened (Some deepener) levels = on_level (λ deepeners. deepener ∷ deepeners) levels

-- the levels after a token, if these tokens follow it
abbrev pub after : Levels → SourceToken → List SourceToken → Levels
after levels source rest =
    if is_punctuator (codes ",") source then on_level (filter stays_at_comma) levels
    else if is_punctuator (codes ";") source then on_level (λ deepeners. ended deepeners rest) levels
    else if is_punctuator (codes "}") source then closed_block levels rest
    else if closes source then closed levels
    else if opens source then [] ∷ deepened (deepener_of source) levels
    else deepened (deepener_of source) levels

-- the number of deepeners on all levels
abbrev pub count : Levels → ℕ
count [] = 0
count (deepeners ∷ levels) = length deepeners + count levels

-- the nesting at each token, that token included
abbrev pub nestings : Levels → List SourceToken → List ℕ
nestings levels [] = []
nestings levels (source ∷ rest) = count (after levels source rest) ∷ nestings (after levels source rest) rest

-- the nesting is at most 256 at every token
abbrev pub IsShallow : List SourceToken → Type 0
IsShallow tokens = list_all (λ nesting. nat_le nesting (number_of Depth)) (nestings ([] ∷ []) tokens) ≡ true
