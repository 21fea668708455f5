-- What the first tokens of a list are.
--     place_of, word_of           a token's place, and the token as a word
--     is_punctuator, is_keyword   the token is this punctuator, this word
--     binary_of, prefix_of, ..    the operator or word that a token is
--     mark_at, name_at, ..        the first token is this, and the others
--     begins_type known tokens    a type name in parentheses stands there
--     joins token                 how loose an expression is that goes on with the token
use Rattle.std.specs.Prelude.{ℕ, ◌+◌, nat_lt, Bool, true, false, not, ◌&&◌, ◌||◌, List, [], ◌∷◌, codes, Option, Some, None, option_map, is_some, if◌then◌else◌}
use Rattle.std.specs.Str.{bytes_eq}
use Rattle.hs_constants.specs.Strings.{string_value}
use Rattle.hs_tokens.specs.Marks.{is_same_kind}
use Rattle.hs_tokens.specs.declared.token.SourceToken.{SourceToken}
use Rattle.hs_tokens.specs.declared.token.TokenKind.{TokenKind}
use Rattle.hs_tokens.specs.declared.token.TokenKind.TheVariants.{Identifier, Literal, Punctuator}
use Rattle.hs_syntax.specs.Names.{is_among, is_name, is_type_name}
use Rattle.hs_syntax.specs.Operators.{binary_text, precedence_of, assign_text, prefix_text, postfix_text, access_text, storage_text, dropped_text, basic_text}
use Rattle.hs_syntax.specs.Phrases.{specifier_words}
use Rattle.hs_syntax.specs.declared.operators.Access.{Access}
use Rattle.hs_syntax.specs.declared.operators.Access.TheVariants as access
use Rattle.hs_syntax.specs.declared.operators.AssignOperator.{AssignOperator}
use Rattle.hs_syntax.specs.declared.operators.AssignOperator.TheVariants as assigning
use Rattle.hs_syntax.specs.declared.operators.Basic.{Basic}
use Rattle.hs_syntax.specs.declared.operators.Basic.TheVariants as basic
use Rattle.hs_syntax.specs.declared.operators.BinaryOperator.{BinaryOperator}
use Rattle.hs_syntax.specs.declared.operators.BinaryOperator.TheVariants as binary
use Rattle.hs_syntax.specs.declared.operators.Dropped.{Dropped}
use Rattle.hs_syntax.specs.declared.operators.Dropped.TheVariants as dropped
use Rattle.hs_syntax.specs.declared.operators.PostfixOperator.{PostfixOperator}
use Rattle.hs_syntax.specs.declared.operators.PostfixOperator.TheVariants as postfix
use Rattle.hs_syntax.specs.declared.operators.PrefixOperator.{PrefixOperator}
use Rattle.hs_syntax.specs.declared.operators.PrefixOperator.TheVariants as prefix
use Rattle.hs_syntax.specs.declared.operators.Storage.{Storage}
use Rattle.hs_syntax.specs.declared.operators.Storage.TheVariants as storage
use Rattle.hs_tokens.specs.declared.place.Place.{Place}
use Rattle.hs_syntax.specs.declared.word.Word.{Word}
use Rattle.hs_expr_parser.specs.Recursion.{Read}

abbrev pub place_of : SourceToken → Place
place_of source = record { pos = source.token.pos; origin = source.origin }

abbrev pub word_of : SourceToken → Word
word_of source = record { text = source.token.text; place = place_of source }

-- the token has this kind and this text
abbrev pub is_token : TokenKind → List ℕ → SourceToken → Bool
is_token kind text source = is_same_kind source.token.kind kind && bytes_eq source.token.text text

abbrev pub is_punctuator : List ℕ → SourceToken → Bool
is_punctuator = is_token Punctuator

abbrev pub is_keyword : List ℕ → SourceToken → Bool
is_keyword = is_token Identifier

-- the first of the list whose spelling the text is
abbrev pub spelled_so : {A : Type 0} → (A → List ℕ) → List A → List ℕ → Option A
spelled_so spelling [] text = None
spelled_so spelling (it ∷ rest) text = if bytes_eq text (spelling it) then Some it else spelled_so spelling rest text

-- the same of a token of this kind
abbrev pub token_so : {A : Type 0} → TokenKind → (A → List ℕ) → List A → SourceToken → Option A
token_so kind spelling all source = if is_same_kind source.token.kind kind then spelled_so spelling all source.token.text else None

abbrev pub binary_operators : List BinaryOperator
binary_operators =
    binary.Multiply ∷ binary.Divide ∷ binary.Remainder ∷ binary.Add ∷ binary.Subtract ∷ binary.ShiftLeft ∷ binary.ShiftRight
    ∷ binary.Less ∷ binary.Greater ∷ binary.LessEqual ∷ binary.GreaterEqual ∷ binary.Equal ∷ binary.NotEqual ∷ binary.BitAnd
    ∷ binary.BitXor ∷ binary.BitOr ∷ binary.And ∷ binary.Or ∷ []

abbrev pub binary_of : SourceToken → Option BinaryOperator
binary_of = token_so Punctuator binary_text binary_operators

abbrev pub assign_operators : List AssignOperator
assign_operators =
    assigning.Plain ∷ assigning.Multiply ∷ assigning.Divide ∷ assigning.Remainder ∷ assigning.Add ∷ assigning.Subtract
    ∷ assigning.ShiftLeft ∷ assigning.ShiftRight ∷ assigning.BitAnd ∷ assigning.BitXor ∷ assigning.BitOr ∷ []

abbrev pub assign_of : SourceToken → Option AssignOperator
assign_of = token_so Punctuator assign_text assign_operators

abbrev pub prefix_operators : List PrefixOperator
prefix_operators =
    prefix.Increment ∷ prefix.Decrement ∷ prefix.Address ∷ prefix.Dereference ∷ prefix.Plus ∷ prefix.Minus ∷ prefix.Complement ∷ prefix.Not ∷ []

abbrev pub prefix_of : SourceToken → Option PrefixOperator
prefix_of = token_so Punctuator prefix_text prefix_operators

abbrev pub postfix_operators : List PostfixOperator
postfix_operators =
    postfix.Increment ∷ postfix.Decrement ∷ []

abbrev pub postfix_of : SourceToken → Option PostfixOperator
postfix_of = token_so Punctuator postfix_text postfix_operators

abbrev pub accesses : List Access
accesses =
    access.Dot ∷ access.Arrow ∷ []

abbrev pub access_of : SourceToken → Option Access
access_of = token_so Punctuator access_text accesses

abbrev pub storage_words : List Storage
storage_words =
    storage.Typedef ∷ storage.Extern ∷ storage.Static ∷ []

abbrev pub storage_of : SourceToken → Option Storage
storage_of = token_so Identifier storage_text storage_words

abbrev pub dropped_words : List Dropped
dropped_words =
    dropped.Auto ∷ dropped.Register ∷ dropped.Const ∷ dropped.Volatile ∷ dropped.Pascal ∷ []

abbrev pub dropped_of : SourceToken → Option Dropped
dropped_of = token_so Identifier dropped_text dropped_words

abbrev pub basic_words : List Basic
basic_words =
    basic.Void ∷ basic.Char ∷ basic.Short ∷ basic.Int ∷ basic.Long ∷ basic.Signed ∷ basic.Unsigned ∷ []

abbrev pub basic_of : SourceToken → Option Basic
basic_of = token_so Identifier basic_text basic_words

-- ---- the first token

-- the first token passes
abbrev pub is_ahead : (SourceToken → Bool) → List SourceToken → Bool
is_ahead passes [] = false
is_ahead passes (source ∷ rest) = passes source

-- it is this punctuator
abbrev pub is_mark_ahead : List ℕ → List SourceToken → Bool
is_mark_ahead text = is_ahead (is_punctuator text)

-- what the first token is, if it is that, and the others
abbrev pub first_at : {A : Type 0} → (SourceToken → Option A) → List SourceToken → Read A
first_at of [] = None
first_at of (source ∷ rest) = option_map (λ it. (it, rest)) (of source)

-- the place of this token
abbrev pub place_if : Bool → SourceToken → Option Place
place_if true source = Some (place_of source)
place_if false source = None

-- the place of the first token, which is this punctuator
abbrev pub mark_at : List ℕ → List SourceToken → Read Place
mark_at text = first_at (λ source. place_if (is_punctuator text source) source)

-- the word that an identifier is, if it is no keyword
abbrev pub name_of : SourceToken → Option Word
name_of source = if is_same_kind source.token.kind Identifier && is_name source.token.text then Some (word_of source) else None

abbrev pub name_at : List SourceToken → Read Word
name_at = first_at name_of

-- the token is a string literal that has a value
abbrev pub is_literal : SourceToken → Bool
is_literal source = is_same_kind source.token.kind Literal && is_some (string_value source.token.text)

-- the string literals in front: a literal without a value ends them
abbrev pub literals_at : List SourceToken → List Word × List SourceToken
literals_at [] = ([], [])
literals_at (source ∷ rest) =
    if is_literal source then (word_of source ∷ (literals_at rest).0, (literals_at rest).1) else ([], source ∷ rest)

-- ---- specifiers

-- The token begins a specifier, with a type specifier before it or without.
abbrev pub begins_specifier : List (List ℕ) → Bool → SourceToken → Bool
begins_specifier known typed source =
    is_same_kind source.token.kind Identifier
    && (is_among specifier_words source.token.text || (not typed && is_type_name known source.token.text))

-- a type name in parentheses stands there
abbrev pub begins_type : List (List ℕ) → List SourceToken → Bool
begins_type known [] = false
begins_type known (source ∷ rest) = is_punctuator (codes "(") source && is_ahead (begins_specifier known false) rest

-- ---- what an expression goes on with

-- the operators of postfix expressions
abbrev pub postfix_marks : List (List ℕ)
postfix_marks = codes "[" ∷ codes "(" ∷ codes "." ∷ codes "->" ∷ codes "++" ∷ codes "--" ∷ []

-- How loose an expression is that goes on with the token after its first part: 16 for a literal after a literal, 15 for the operators
-- of postfix expressions, 3 to 12 for the binary operators, 2 for `?`, 1 for the operators of assignments and 0 for a comma.
abbrev pub joins_by : Bool → Option BinaryOperator → Option AssignOperator → SourceToken → Option ℕ
joins_by true operator assigned source = Some 15
joins_by false (Some operator) assigned source = Some (2 + precedence_of operator)
joins_by false None (Some operator) source = Some 1
joins_by false None None source =
    if is_punctuator (codes "?") source then Some 2 else if is_punctuator (codes ",") source then Some 0 else None

abbrev pub joins : SourceToken → Option ℕ
joins source =
    if is_same_kind source.token.kind Literal then Some 16
    else if is_same_kind source.token.kind Punctuator
    then joins_by (is_among postfix_marks source.token.text) (binary_of source) (assign_of source) source
    else None

-- the number, if any, is below the other
abbrev pub is_below : ℕ → Option ℕ → Bool
is_below most None = true
is_below most (Some rank) = nat_lt rank most

-- An expression of that rank, or of a tighter one, does not go on there.
abbrev pub stops : ℕ → List SourceToken → Bool
stops rank [] = true
stops rank (source ∷ rest) = is_below rank (joins source)
