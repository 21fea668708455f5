-- The grammar: the tokens of each tree, and whether the tree is one of the grammar (X3.159-1989 3.3, 3.5 to 3.7). Each
-- case has its production; (own) marks where it is not the standard's. Of an expression the production is the loosest
-- that it is of; if a tighter one is asked for, the case says so. What is left out of the standard's grammar is in
-- docs/SYNTAX.md.
--     expression_form known e           an expression, if these typedef names are known
--     declaration_form known it         a declaration; statement_form, external_form likewise
--     unit_form known externals         a unit, whose typedef names become known one declaration after another
--     IsExpression, IsUnit              the relations of trees and tokens
use Rattle.std.specs.Prelude.{ℕ, suc, Bool, true, false, not, ◌&&◌, ◌||◌, List, [], ◌∷◌, ◌++◌, codes, Option, Some}
use Rattle.std.specs.Prelude.{None, is_some}
use Rattle.hs_constants.specs.Characters.{character_value}
use Rattle.hs_constants.specs.Numbers.{number_value}
use Rattle.hs_constants.specs.Strings.{string_value}
use Rattle.hs_tokens.specs.declared.token.SourceToken.{SourceToken}
use Rattle.hs_tokens.specs.declared.token.TokenKind.TheVariants.{Identifier, Number, Character, Literal}
use Rattle.hs_syntax.specs.Forms.{Form, ◌⨾◌, when, nothing_at_all, mark, mark_at, keyword, keyword_at, word, IsOf}
use Rattle.hs_syntax.specs.Names.{is_among}
use Rattle.hs_syntax.specs.Operators.{binary_text, precedence_of, assign_text, prefix_text, postfix_text, access_text}
use Rattle.hs_syntax.specs.Operators.{storage_text, dropped_text, basic_text}
use Rattle.hs_syntax.specs.Parts.{identifier, literals, pointers_form, tag_form, comma_form, behind_comma, as_prefixed}
use Rattle.hs_syntax.specs.Parts.{in_parens}
use Rattle.hs_syntax.specs.Phrases.{as_assignment, as_conditional, as_operand, as_cast, as_unary, as_postfix, made_by}
use Rattle.hs_syntax.specs.Phrases.{is_type, is_typed, is_named_type, ends_before, is_named, is_empty}
use Rattle.hs_syntax.specs.Phrases.{begins_parameters, is_void_alone, has_specifiers, has_lefts, has_members}
use Rattle.hs_syntax.specs.Phrases.{has_constants, has_declarators, has_expressions, has_parameters, has_initialisers}
use Rattle.hs_syntax.specs.Phrases.{ends_open}
use Rattle.hs_syntax.specs.Trees as tree
use Rattle.hs_syntax.specs.Trees.{Expression, Expressions, Lefts, NamedType, Specified, Specification, Members}
use Rattle.hs_syntax.specs.Trees.{Constants, Declared, Declarators, Directly, Parameters, Initialising, Initialisers}
use Rattle.hs_syntax.specs.Trees.{Declaring, Declaration, Labelling, Statement, Compound, Statements}
use Rattle.hs_syntax.specs.Trees.{ExternalDeclaration, TranslationUnit}

abbrev mutual
  pub expression_form : List (List ℕ) → Expression → Form
  -- expression = assignment { "," assignment }
  expression_form known (tree.comma lefts right) =
      when (has_lefts lefts) (lefts_form known lefts) ⨾ as_assignment right (expression_form known right)
  -- assignment = conditional | unary assign-operator assignment
  expression_form known (tree.assign target operator at e) =
      as_unary target (expression_form known target) ⨾ mark_at at (assign_text operator)
      ⨾ as_assignment e (expression_form known e)
  -- conditional = binary [ "?" expression ":" conditional ]
  expression_form known (tree.conditional test at taken otherwise) =
      as_operand 1 test (expression_form known test) ⨾ mark_at at (codes "?") ⨾ expression_form known taken
      ⨾ mark (codes ":") ⨾ as_conditional otherwise (expression_form known otherwise)
  -- binary = cast { binary-operator cast }: operators of a precedence group to the left
  expression_form known (tree.binary left operator at right) =
      as_operand (precedence_of operator) left (expression_form known left) ⨾ mark_at at (binary_text operator)
      ⨾ as_operand (suc (precedence_of operator)) right (expression_form known right)
  -- cast = unary | "(" type-name ")" cast
  expression_form known (tree.cast at type operand) =
      mark_at at (codes "(") ⨾ type_form known type ⨾ mark (codes ")") ⨾ as_cast operand (expression_form known operand)
  -- unary = postfix | ("++" | "--") unary | ("&" | "*" | "+" | "-" | "~" | "!") cast
  --     | "sizeof" unary | "sizeof" "(" type-name ")"
  expression_form known (tree.prefix operator at operand) =
      mark_at at (prefix_text operator) ⨾ as_prefixed operator operand (expression_form known operand)
  expression_form known (tree.sizeof_value at operand) =
      keyword_at at (codes "sizeof") ⨾ as_unary operand (expression_form known operand)
  expression_form known (tree.sizeof_type at type) =
      keyword_at at (codes "sizeof") ⨾ mark (codes "(") ⨾ type_form known type ⨾ mark (codes ")")
  -- postfix = primary { "[" expression "]" | "(" [assignment { "," assignment }] ")"
  --     | ("." | "->") identifier | "++" | "--" }
  expression_form known (tree.index base at offset) =
      as_postfix base (expression_form known base) ⨾ mark_at at (codes "[") ⨾ expression_form known offset
      ⨾ mark (codes "]")
  expression_form known (tree.call callee arguments) =
      as_postfix callee (expression_form known callee) ⨾ mark (codes "(") ⨾ arguments_form known arguments
      ⨾ mark (codes ")")
  expression_form known (tree.member base access at it) =
      as_postfix base (expression_form known base) ⨾ mark_at at (access_text access) ⨾ identifier it
  expression_form known (tree.postfix operand operator at) =
      as_postfix operand (expression_form known operand) ⨾ mark_at at (postfix_text operator)
  -- primary = identifier | number | character | literal { literal } | "(" expression ")": no typedef name is one.
  -- A number is an integer of at most 32 bits (own), and each character and literal has a value
  expression_form known (tree.name it) = when (not (is_among known it.text)) (identifier it)
  expression_form known (tree.number it) = when (is_some (number_value it.text)) (word Number it)
  expression_form known (tree.character it) = when (is_some (character_value it.text)) (word Character it)
  expression_form known (tree.strings first others) =
      when (is_some (string_value first.text)) (word Literal first) ⨾ literals others
  expression_form known (tree.parens at inner) = mark_at at (codes "(") ⨾ expression_form known inner ⨾ mark (codes ")")

  -- { assignment "," }
  pub lefts_form : List (List ℕ) → Lefts → Form
  lefts_form known tree.no_lefts = nothing_at_all
  lefts_form known (tree.more_lefts e at rest) =
      as_assignment e (expression_form known e) ⨾ mark_at at (codes ",") ⨾ lefts_form known rest

  -- assignment { "," assignment }
  pub arguments_form : List (List ℕ) → Expressions → Form
  arguments_form known tree.no_expressions = nothing_at_all
  arguments_form known (tree.more_expressions e rest) =
      as_assignment e (expression_form known e) ⨾ behind_comma (has_expressions rest) (arguments_form known rest)

  -- type-name = specifiers [ abstract ]
  pub type_form : List (List ℕ) → NamedType → Form
  type_form known (tree.typed_as specification declared) =
      when (has_specifiers specification && not (is_named declared))
      (specification_form known false specification
      ⨾ ends_before known specification (declarator_form known true declared))

  -- specifiers = specifier { specifier }: a typedef name is one only if no type specifier stands before it (3.5.6)
  pub specification_form : List (List ℕ) → Bool → Specification → Form
  specification_form known typed tree.no_specifiers = nothing_at_all
  specification_form known typed (tree.more_specifiers it rest) =
      when (not (typed && is_named_type it)) (specifier_form known it)
      ⨾ specification_form known (typed || is_type it) rest

  pub specifier_form : List (List ℕ) → Specified → Form
  -- specifier = "typedef" | "extern" | "static" | dropped | "void" | "char" | "short" | "int" | "long"
  --     | "signed" | "unsigned" | struct | enum | typedef-name,
  -- where dropped = "auto" | "register" | "const" | "volatile" | "pascal" (own)
  specifier_form known (tree.storage it at) = keyword_at at (storage_text it)
  specifier_form known (tree.dropped it at) = keyword_at at (dropped_text it)
  specifier_form known (tree.basic it at) = keyword_at at (basic_text it)
  specifier_form known (tree.named it) = when (is_among known it.text) (identifier it)
  -- struct = "struct" [identifier] "{" member { member } "}" | "struct" identifier
  specifier_form known (tree.struct_tag at tag) = keyword_at at (codes "struct") ⨾ identifier tag
  specifier_form known (tree.struct_body at tag brace its) =
      keyword_at at (codes "struct") ⨾ tag_form tag ⨾ mark_at brace (codes "{")
      ⨾ when (has_members its) (members_form known its) ⨾ mark (codes "}")
  -- enum = "enum" [identifier] "{" constant { "," constant } [","] "}" | "enum" identifier: the last comma is own
  specifier_form known (tree.enum_tag at tag) = keyword_at at (codes "enum") ⨾ identifier tag
  specifier_form known (tree.enum_body at tag brace its comma) =
      keyword_at at (codes "enum") ⨾ tag_form tag ⨾ mark_at brace (codes "{")
      ⨾ when (has_constants its) (constants_form known its) ⨾ comma_form comma ⨾ mark (codes "}")

  -- member = specifiers declarator { "," declarator } ";"
  pub members_form : List (List ℕ) → Members → Form
  members_form known tree.no_members = nothing_at_all
  members_form known (tree.more_members specification its rest) =
      when (has_specifiers specification && has_declarators its)
      (specification_form known false specification
      ⨾ ends_before known specification (declarators_form known its ⨾ mark (codes ";")))
      ⨾ members_form known rest

  -- constant = identifier [ "=" conditional ]
  pub constants_form : List (List ℕ) → Constants → Form
  constants_form known tree.no_constants = nothing_at_all
  constants_form known (tree.constant it rest) =
      identifier it ⨾ behind_comma (has_constants rest) (constants_form known rest)
  constants_form known (tree.valued_constant it e rest) =
      identifier it ⨾ mark (codes "=") ⨾ as_conditional e (expression_form known e)
      ⨾ behind_comma (has_constants rest) (constants_form known rest)

  -- declarator = { "*" | dropped } direct, and abstract = { "*" | dropped } [ abstract-direct ] (own: words that are
  -- dropped stand in front of the name too); `inner` in a parameter or a type name
  pub declarator_form : List (List ℕ) → Bool → Declared → Form
  declarator_form known inner (tree.pointing pointers direct) = pointers_form pointers ⨾ direct_form known inner direct

  pub declarators_form : List (List ℕ) → Declarators → Form
  declarators_form known tree.no_declarators = nothing_at_all
  declarators_form known (tree.more_declarators it rest) =
      when (is_named it) (declarator_form known false it)
      ⨾ behind_comma (has_declarators rest) (declarators_form known rest)

  pub direct_form : List (List ℕ) → Bool → Directly → Form
  -- direct = identifier | "(" declarator ")" | direct "[" [conditional] "]" | direct "(" [parameters] ")";
  -- abstract-direct likewise, where nothing stands for the identifier; an abstract in parentheses is not empty
  direct_form known inner tree.nothing = nothing_at_all
  direct_form known inner (tree.identifier it) = identifier it
  direct_form known inner (tree.parens_of it) =
      mark (codes "(") ⨾ when (not (is_empty it)) (in_parens known inner (declarator_form known inner it))
      ⨾ mark (codes ")")
  direct_form known inner (tree.array base) = direct_form known inner base ⨾ mark (codes "[") ⨾ mark (codes "]")
  direct_form known inner (tree.sized_array base e) =
      direct_form known inner base ⨾ mark (codes "[") ⨾ as_conditional e (expression_form known e) ⨾ mark (codes "]")
  direct_form known inner (tree.function base its) =
      direct_form known inner base ⨾ mark (codes "(") ⨾ when (not (is_void_alone its)) (parameters_form known its)
      ⨾ mark (codes ")")
  direct_form known inner (tree.function_of_void base at) =
      direct_form known inner base ⨾ mark (codes "(") ⨾ keyword_at at (codes "void") ⨾ mark (codes ")")

  -- parameter = specifiers [ declarator | abstract ]; parameters = "void" | parameter { "," parameter }
  pub parameters_form : List (List ℕ) → Parameters → Form
  parameters_form known tree.no_parameters = nothing_at_all
  parameters_form known (tree.more_parameters specification declared rest) =
      when (has_specifiers specification)
      (specification_form known false specification
      ⨾ ends_before known specification (declarator_form known true declared))
      ⨾ behind_comma (has_parameters rest) (parameters_form known rest)

abbrev mutual
  pub initialiser_form : List (List ℕ) → Initialising → Form
  -- initialiser = assignment | "{" initialiser { "," initialiser } [","] "}"
  initialiser_form known (tree.value e) = as_assignment e (expression_form known e)
  initialiser_form known (tree.list at its comma) =
      mark_at at (codes "{") ⨾ when (has_initialisers its) (initialisers_form known its) ⨾ comma_form comma
      ⨾ mark (codes "}")

  pub initialisers_form : List (List ℕ) → Initialisers → Form
  initialisers_form known tree.no_initialisers = nothing_at_all
  initialisers_form known (tree.more_initialisers it rest) =
      initialiser_form known it ⨾ behind_comma (has_initialisers rest) (initialisers_form known rest)

-- [ "=" initialiser ]
abbrev pub start_form : List (List ℕ) → Option Initialising → Form
start_form known None = nothing_at_all
start_form known (Some it) = mark (codes "=") ⨾ initialiser_form known it

-- item { "," item }, where item = declarator [ "=" initialiser ]
abbrev pub items_form : List (List ℕ) → List Declaring → Form
items_form known [] = nothing_at_all
items_form known (it ∷ []) =
    when (is_named it.declarator) (declarator_form known false it.declarator) ⨾ start_form known it.initialiser
items_form known (it ∷ next ∷ rest) =
    when (is_named it.declarator) (declarator_form known false it.declarator) ⨾ start_form known it.initialiser
    ⨾ mark (codes ",") ⨾ items_form known (next ∷ rest)

-- declaration = specifiers [ item { "," item } ] ";"
abbrev pub declaration_form : List (List ℕ) → Declaration → Form
declaration_form known it =
    when (has_specifiers it.specifiers)
    (specification_form known false it.specifiers
    ⨾ ends_before known it.specifiers (items_form known it.items ⨾ mark (codes ";")))

-- { declaration }
abbrev pub declarations_form : List (List ℕ) → List Declaration → Form
declarations_form known [] = nothing_at_all
declarations_form known (it ∷ rest) = declaration_form known it ⨾ declarations_form known rest

-- { "case" conditional ":" | "default" ":" }
abbrev pub labels_form : List (List ℕ) → List Labelling → Form
labels_form known [] = nothing_at_all
labels_form known (tree.case_ at e ∷ rest) =
    keyword_at at (codes "case") ⨾ as_conditional e (expression_form known e) ⨾ mark (codes ":")
    ⨾ labels_form known rest
labels_form known (tree.default_ at ∷ rest) =
    keyword_at at (codes "default") ⨾ mark (codes ":") ⨾ labels_form known rest

-- [expression]
abbrev pub optional_form : List (List ℕ) → Option Expression → Form
optional_form known None = nothing_at_all
optional_form known (Some e) = expression_form known e

-- "(" expression ")"
abbrev pub test_form : List (List ℕ) → Expression → Form
test_form known e = mark (codes "(") ⨾ expression_form known e ⨾ mark (codes ")")

abbrev mutual
  pub statement_form : List (List ℕ) → Statement → Form
  -- statement = block | [expression] ";"
  statement_form known (tree.block it) = block_form known it
  statement_form known (tree.expression e) = expression_form known e ⨾ mark (codes ";")
  statement_form known (tree.empty at) = mark_at at (codes ";")
  -- | "if" "(" expression ")" statement [ "else" statement ]: an `else` belongs to the nearest open `if`
  statement_form known (tree.if_ at test body) =
      keyword_at at (codes "if") ⨾ test_form known test ⨾ statement_form known body
  statement_form known (tree.if_else at test taken otherwise) =
      keyword_at at (codes "if") ⨾ test_form known test ⨾ when (not (ends_open taken)) (statement_form known taken)
      ⨾ keyword (codes "else") ⨾ statement_form known otherwise
  -- | "while" "(" expression ")" statement | "do" statement "while" "(" expression ")" ";"
  statement_form known (tree.while_ at test body) =
      keyword_at at (codes "while") ⨾ test_form known test ⨾ statement_form known body
  statement_form known (tree.do_ at body test) =
      keyword_at at (codes "do") ⨾ statement_form known body ⨾ keyword (codes "while") ⨾ test_form known test
      ⨾ mark (codes ";")
  -- | "for" "(" [expression] ";" [expression] ";" [expression] ")" statement
  statement_form known (tree.for_ at first test step body) =
      keyword_at at (codes "for") ⨾ mark (codes "(") ⨾ optional_form known first ⨾ mark (codes ";")
      ⨾ optional_form known test ⨾ mark (codes ";")
      ⨾ optional_form known step ⨾ mark (codes ")") ⨾ statement_form known body
  -- | "switch" "(" expression ")" block (own: its body is a block) | "break" ";" | "continue" ";"
  -- | "return" [expression] ";"
  statement_form known (tree.switch_ at e it) = keyword_at at (codes "switch") ⨾ test_form known e ⨾ block_form known it
  statement_form known (tree.break_ at) = keyword_at at (codes "break") ⨾ mark (codes ";")
  statement_form known (tree.continue_ at) = keyword_at at (codes "continue") ⨾ mark (codes ";")
  statement_form known (tree.return_ at e) = keyword_at at (codes "return") ⨾ optional_form known e ⨾ mark (codes ";")

  -- block = "{" { declaration } { labelled } "}"
  pub block_form : List (List ℕ) → Compound → Form
  block_form known (tree.compound opening declarations its closing) =
      mark_at opening (codes "{") ⨾ declarations_form known declarations ⨾ statements_form known its
      ⨾ mark_at closing (codes "}")

  -- { labelled }, where labelled = { "case" conditional ":" | "default" ":" } statement: no other labels (own)
  pub statements_form : List (List ℕ) → Statements → Form
  statements_form known tree.no_statements = nothing_at_all
  statements_form known (tree.more_statements labels it rest) =
      labels_form known labels ⨾ statement_form known it ⨾ statements_form known rest

-- external = function | declaration, where function = [specifiers] declarator block
abbrev pub external_form : List (List ℕ) → ExternalDeclaration → Form
external_form known (tree.function_definition specification declared it) =
    specification_form known false specification
    ⨾ ends_before known specification
    (when (is_named declared) (declarator_form known false declared) ⨾ block_form known it)
external_form known (tree.declaration it) = declaration_form known it

-- unit = { external }: the typedef names of a declaration are known after it
abbrev pub unit_form : List (List ℕ) → TranslationUnit → Form
unit_form known [] = nothing_at_all
unit_form known (it ∷ rest) = external_form known it ⨾ unit_form (known ++ made_by it) rest

-- the tokens are an expression, if these typedef names are known
abbrev pub IsExpression : List (List ℕ) → List SourceToken → Expression → Type 0
IsExpression known sources e = IsOf (expression_form known e) sources

-- the tokens are a unit
abbrev pub IsUnit : List SourceToken → TranslationUnit → Type 0
IsUnit sources externals = IsOf (unit_form [] externals) sources
