-- The small phrases of the grammar.
--     identifier, literals, pointers_form, tag_form, comma_form, behind_comma
--     as_prefixed operator e form      what a prefix operator may be put before
--     in_parens known inner form       what may follow a `(` of a declarator
use Rattle.std.specs.Prelude.{ℕ, Bool, true, false, not, ◌&&◌, List, [], ◌∷◌, codes, Option, Some, None, is_some}
use Rattle.hs_constants.specs.Strings.{string_value}
use Rattle.hs_tokens.specs.declared.token.TokenKind.TheVariants.{Identifier, Literal}
use Rattle.hs_syntax.specs.Forms.{Form, ◌⨾◌, when, nothing_at_all, mark, mark_at, keyword_at, word}
use Rattle.hs_syntax.specs.Names.{is_name}
use Rattle.hs_syntax.specs.Operators.{dropped_text}
use Rattle.hs_syntax.specs.Phrases.{as_cast, as_unary, begins_parameters}
use Rattle.hs_syntax.specs.Trees.{Expression}
use Rattle.hs_syntax.specs.declared.operators.Pointer.{Pointer}
use Rattle.hs_syntax.specs.declared.operators.Pointer.TheVariants as pointer
use Rattle.hs_syntax.specs.declared.operators.PrefixOperator.{PrefixOperator}
use Rattle.hs_syntax.specs.declared.operators.PrefixOperator.TheVariants.{Increment, Decrement}
use Rattle.hs_syntax.specs.declared.word.Word.{Word}

-- an identifier that is no keyword
abbrev pub identifier : Word → Form
identifier it = when (is_name it.text) (word Identifier it)

-- { literal }: each has a value
abbrev pub literals : List Word → Form
literals [] = nothing_at_all
literals (it ∷ rest) = when (is_some (string_value it.text)) (word Literal it) ⨾ literals rest

-- what `++` and `--` are put before is a unary expression; what the others are put before may be a cast
abbrev pub as_prefixed : PrefixOperator → Expression → Form → Form
as_prefixed Increment e form = as_unary e form
as_prefixed Decrement e form = as_unary e form
as_prefixed operator e form = as_cast e form

-- { "*" | dropped }
abbrev pub pointers_form : List Pointer → Form
pointers_form [] = nothing_at_all
pointers_form (pointer.Star at ∷ rest) = mark_at at (codes "*") ⨾ pointers_form rest
pointers_form (pointer.Dropped it at ∷ rest) = keyword_at at (dropped_text it) ⨾ pointers_form rest

-- [identifier], the tag of a struct or an enumeration
abbrev pub tag_form : Option Word → Form
tag_form None = nothing_at_all
tag_form (Some it) = identifier it

-- [","]
abbrev pub comma_form : Bool → Form
comma_form true = mark (codes ",")
comma_form false = nothing_at_all

-- a comma, if more follows
abbrev pub behind_comma : Bool → Form → Form
behind_comma true form = mark (codes ",") ⨾ form
behind_comma false form = nothing_at_all

-- In a parameter or a type name, what follows a `(` directly begins a parameter list if it can.
abbrev pub in_parens : List (List ℕ) → Bool → Form → Form
in_parens known inner form = when (not (inner && begins_parameters known form.pieces)) form
