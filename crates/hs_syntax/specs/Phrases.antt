-- What the grammar asks of phrases beside their tokens.
--     rank e                     the production that an expression is of
--     as_assignment e form, ..   an expression where one of that production may stand
--     is_typed specification     a type specifier stands in it
--     ends_before known specification form     the list of specifiers ends there
--     is_named, is_empty         of declarators
--     ends_open statement        an `else` after it would be its own
--     made_by external           the typedef names that an external declaration makes
use Rattle.std.specs.Prelude.{ℕ, suc, ◌+◌, nat_le, Bool, true, false, not, ◌&&◌, ◌||◌, List, [], ◌∷◌, codes, map}
use Rattle.std.specs.Prelude.{length, ◌==◌, if◌then◌else◌}
use Rattle.hs_tokens.specs.Marks.{is_same_kind}
use Rattle.hs_tokens.specs.declared.token.TokenKind.TheVariants.{Identifier}
use Rattle.hs_syntax.specs.Forms.{Piece, Form, when}
use Rattle.hs_syntax.specs.Names.{is_among, is_type_name}
use Rattle.hs_syntax.specs.Operators.{precedence_of}
use Rattle.hs_syntax.specs.Trees as tree
use Rattle.hs_syntax.specs.Trees.{Expression, Expressions, Lefts, Specified, Specification, Members, Constants}
use Rattle.hs_syntax.specs.Trees.{Declared, Declarators, Directly, Parameters, Initialisers, Statement}
use Rattle.hs_syntax.specs.Trees.{ExternalDeclaration}
use Rattle.hs_syntax.specs.declared.operators.Basic.TheVariants.{Void}
use Rattle.hs_syntax.specs.declared.operators.Storage.TheVariants.{Typedef}

-- ---- expressions

-- 0 for a comma, 1 for an assignment, 2 for a conditional, 3 to 12 for the binary operators by level, 13 for a cast, 14
-- for a unary, 15 for a postfix and 16 for a primary expression
abbrev pub rank : Expression → ℕ
rank (tree.comma lefts right) = 0
rank (tree.assign target operator at value) = 1
rank (tree.conditional test at taken otherwise) = 2
rank (tree.binary left operator at right) = 2 + precedence_of operator
rank (tree.cast at type operand) = 13
rank (tree.prefix operator at operand) = 14
rank (tree.sizeof_value at operand) = 14
rank (tree.sizeof_type at type) = 14
rank (tree.index base at offset) = 15
rank (tree.call callee arguments) = 15
rank (tree.member base access at name) = 15
rank (tree.postfix operand operator at) = 15
rank _ = 16

-- an expression where one of such a rank, or a tighter one, may stand
abbrev pub at_least : ℕ → Expression → Form → Form
at_least least e form = when (nat_le least (rank e)) form

abbrev pub as_assignment : Expression → Form → Form
as_assignment = at_least 1

abbrev pub as_conditional : Expression → Form → Form
as_conditional = at_least 2

-- an operand of a binary operator of that level
abbrev pub as_operand : ℕ → Expression → Form → Form
as_operand level = at_least (2 + level)

abbrev pub as_cast : Expression → Form → Form
as_cast = at_least 13

abbrev pub as_unary : Expression → Form → Form
as_unary = at_least 14

abbrev pub as_postfix : Expression → Form → Form
as_postfix = at_least 15

-- ---- specifiers

-- a type specifier
abbrev pub is_type : Specified → Bool
is_type (tree.storage word at) = false
is_type (tree.dropped word at) = false
is_type _ = true

-- one of the list is a type specifier
abbrev pub is_typed : Specification → Bool
is_typed tree.no_specifiers = false
is_typed (tree.more_specifiers it rest) = is_type it || is_typed rest

-- a typedef name
abbrev pub is_named_type : Specified → Bool
is_named_type (tree.named word) = true
is_named_type _ = false

-- the words that mean nothing
abbrev pub dropped_words : List (List ℕ)
dropped_words = codes "auto" ∷ codes "register" ∷ codes "const" ∷ codes "volatile" ∷ codes "pascal" ∷ []

-- the words that begin a specifier
unfoldable pub specifier_words : List (List ℕ)
specifier_words =
    codes "typedef" ∷ codes "extern" ∷ codes "static" ∷ codes "auto" ∷ codes "register" ∷ codes "const"
    ∷ codes "volatile" ∷ codes "pascal" ∷ codes "void" ∷ codes "char" ∷ codes "short" ∷ codes "int" ∷ codes "long"
    ∷ codes "signed" ∷ codes "unsigned" ∷ codes "struct" ∷ codes "enum" ∷ []

-- The token begins a specifier: by its word, or as a typedef name if no type specifier stands before.
abbrev pub begins_specifier : List (List ℕ) → Bool → Piece → Bool
begins_specifier known typed piece =
    is_same_kind piece.kind Identifier
    && (is_among specifier_words piece.text || (not typed && is_type_name known piece.text))

-- the first token, if there is one, does not begin a specifier
abbrev pub begins_none : List (List ℕ) → Bool → List Piece → Bool
begins_none known typed [] = true
begins_none known typed (piece ∷ pieces) = not (begins_specifier known typed piece)

-- The phrase follows the specifiers: a list of specifiers ends only before a token that begins none.
abbrev pub ends_before : List (List ℕ) → Specification → Form → Form
ends_before known specification form = when (begins_none known (is_typed specification) form.pieces) form

-- ---- declarators

abbrev mutual
  -- it names something
  pub is_named : Declared → Bool
  is_named (tree.pointing pointers direct) = names direct

  pub names : Directly → Bool
  names tree.nothing = false
  names (tree.identifier word) = true
  names (tree.parens_of declarator) = is_named declarator
  names (tree.array base) = names base
  names (tree.sized_array base length) = names base
  names (tree.function base its) = names base
  names (tree.function_of_void base at) = names base

-- nothing stands there
abbrev pub is_nothing : Directly → Bool
is_nothing tree.nothing = true
is_nothing _ = false

-- nothing stands in it
abbrev pub is_empty : Declared → Bool
is_empty (tree.pointing pointers direct) = (length pointers == 0) && is_nothing direct

-- In a parameter or a type name, a typedef name or a dropped word directly after a `(` begins a parameter list.
abbrev pub begins_parameters : List (List ℕ) → List Piece → Bool
begins_parameters known [] = false
begins_parameters known (piece ∷ pieces) =
    is_same_kind piece.kind Identifier && (is_type_name known piece.text || is_among dropped_words piece.text)

-- `void` alone
abbrev pub is_void : Specified → Bool
is_void (tree.basic Void at) = true
is_void _ = false

abbrev pub is_void_alone : Parameters → Bool
is_void_alone (tree.more_parameters (tree.more_specifiers it tree.no_specifiers) declared tree.no_parameters) =
    is_void it && is_empty declared
is_void_alone _ = false

-- ---- lists with something in them

abbrev pub has_expressions : Expressions → Bool
has_expressions tree.no_expressions = false
has_expressions (tree.more_expressions e rest) = true

abbrev pub has_lefts : Lefts → Bool
has_lefts tree.no_lefts = false
has_lefts (tree.more_lefts e at rest) = true

abbrev pub has_specifiers : Specification → Bool
has_specifiers tree.no_specifiers = false
has_specifiers (tree.more_specifiers it rest) = true

abbrev pub has_members : Members → Bool
has_members tree.no_members = false
has_members (tree.more_members specification its rest) = true

abbrev pub has_constants : Constants → Bool
has_constants tree.no_constants = false
has_constants _ = true

abbrev pub has_declarators : Declarators → Bool
has_declarators tree.no_declarators = false
has_declarators (tree.more_declarators declarator rest) = true

abbrev pub has_parameters : Parameters → Bool
has_parameters tree.no_parameters = false
has_parameters (tree.more_parameters specification declared rest) = true

abbrev pub has_initialisers : Initialisers → Bool
has_initialisers tree.no_initialisers = false
has_initialisers (tree.more_initialisers it rest) = true

-- ---- statements

-- An `if` without an `else` stands at its end: an `else` after it would be that one's.
abbrev pub ends_open : Statement → Bool
ends_open (tree.if_ at test body) = true
ends_open (tree.if_else at test taken otherwise) = ends_open otherwise
ends_open (tree.while_ at test body) = ends_open body
ends_open (tree.for_ at first test step body) = ends_open body
ends_open (tree.block it) = false
ends_open (tree.expression e) = false
ends_open (tree.empty at) = false
ends_open (tree.do_ at body test) = false
ends_open (tree.switch_ at value body) = false
ends_open (tree.break_ at) = false
ends_open (tree.continue_ at) = false
ends_open (tree.return_ at value) = false

-- ---- typedef names

-- `typedef` stands in it
abbrev pub is_typedef : Specification → Bool
is_typedef tree.no_specifiers = false
is_typedef (tree.more_specifiers (tree.storage Typedef at) rest) = true
is_typedef (tree.more_specifiers it rest) = is_typedef rest

abbrev mutual
  -- the name that a declarator names
  pub name_of : Declared → List ℕ
  name_of (tree.pointing pointers direct) = name_in direct

  pub name_in : Directly → List ℕ
  name_in tree.nothing = []
  name_in (tree.identifier word) = word.text
  name_in (tree.parens_of it) = name_of it
  name_in (tree.array base) = name_in base
  name_in (tree.sized_array base length) = name_in base
  name_in (tree.function base its) = name_in base
  name_in (tree.function_of_void base at) = name_in base

-- the typedef names that an external declaration makes
abbrev pub made_by : ExternalDeclaration → List (List ℕ)
made_by (tree.function_definition specification declared it) = []
made_by (tree.declaration it) = if is_typedef it.specifiers then map (λ item. name_of item.declarator) it.items else []
