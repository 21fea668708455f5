-- Where an expression or a statement is, for those that report it.
--     position_of e                    the place that stands for an expression, which is mostly its operator's
--     first_of e                       the place of the first token of an expression
--     first_of_specifiers its          of specifiers, if there is one; first_of_statement it, of a statement
--     BeginsAt place sources           the tokens begin with one at that place
use Rattle.std.specs.Prelude.{◌≡◌, List, [], ◌∷◌, Option, Some, None}
use Rattle.hs_tokens.specs.declared.token.SourceToken.{SourceToken}
use Rattle.hs_syntax.specs.Forms.{IsAt}
use Rattle.hs_syntax.specs.Trees as tree
use Rattle.hs_syntax.specs.Trees.{Expression, Lefts, Specified, Specification, Statement, Compound}
use Rattle.hs_tokens.specs.declared.place.Place.{Place}

-- the place of the last comma, or the other one if there is no comma
abbrev pub last_comma : Place → Lefts → Place
last_comma other tree.no_lefts = other
last_comma other (tree.more_lefts e at rest) = last_comma at rest

-- the place, or the other one if it is missing
abbrev pub place_or : Place → Option Place → Place
place_or other None = other
place_or other (Some place) = place

-- the place of the last comma, if there is one
abbrev pub IsLastComma : Lefts → Option Place → Type 0
IsLastComma lefts found = (other : Place) → last_comma other lefts ≡ place_or other found

-- Of an operator, the place that the tree keeps for it: of a call, the position of what is called, and of commas, which
-- group to the left, the last one.
abbrev pub position_of : Expression → Place
position_of (tree.name it) = it.place
position_of (tree.number it) = it.place
position_of (tree.character it) = it.place
position_of (tree.strings first others) = first.place
position_of (tree.parens at inner) = position_of inner
position_of (tree.index base at offset) = at
position_of (tree.call callee arguments) = position_of callee
position_of (tree.member base access at it) = at
position_of (tree.postfix operand operator at) = at
position_of (tree.prefix operator at operand) = at
position_of (tree.sizeof_value at operand) = at
position_of (tree.sizeof_type at type) = at
position_of (tree.cast at type operand) = at
position_of (tree.binary left operator at right) = at
position_of (tree.conditional test at taken otherwise) = at
position_of (tree.assign target operator at e) = at
position_of (tree.comma lefts right) = last_comma (position_of right) lefts

abbrev mutual
  -- the place of the first token
  pub first_of : Expression → Place
  first_of (tree.name it) = it.place
  first_of (tree.number it) = it.place
  first_of (tree.character it) = it.place
  first_of (tree.strings first others) = first.place
  first_of (tree.parens at inner) = at
  first_of (tree.index base at offset) = first_of base
  first_of (tree.call callee arguments) = first_of callee
  first_of (tree.member base access at it) = first_of base
  first_of (tree.postfix operand operator at) = first_of operand
  first_of (tree.prefix operator at operand) = at
  first_of (tree.sizeof_value at operand) = at
  first_of (tree.sizeof_type at type) = at
  first_of (tree.cast at type operand) = at
  first_of (tree.binary left operator at right) = first_of left
  first_of (tree.conditional test at taken otherwise) = first_of test
  first_of (tree.assign target operator at e) = first_of target
  first_of (tree.comma lefts right) = first_of_lefts (first_of right) lefts

  -- the same of left operands, or the other place if there are no operands
  pub first_of_lefts : Place → Lefts → Place
  first_of_lefts other tree.no_lefts = other
  first_of_lefts other (tree.more_lefts e at rest) = first_of e

-- the place of a specifier's first token
abbrev pub first_of_specifier : Specified → Place
first_of_specifier (tree.storage it at) = at
first_of_specifier (tree.dropped it at) = at
first_of_specifier (tree.basic it at) = at
first_of_specifier (tree.named it) = it.place
first_of_specifier (tree.struct_tag at tag) = at
first_of_specifier (tree.struct_body at tag brace its) = at
first_of_specifier (tree.enum_tag at tag) = at
first_of_specifier (tree.enum_body at tag brace its comma) = at

-- the place of the first specifier, if there is one
abbrev pub first_of_specifiers : Specification → Option Place
first_of_specifiers tree.no_specifiers = None
first_of_specifiers (tree.more_specifiers it rest) = Some (first_of_specifier it)

-- the place of a block's brace
abbrev pub first_of_block : Compound → Place
first_of_block (tree.compound opening declarations its closing) = opening

-- the place of a statement's first token
abbrev pub first_of_statement : Statement → Place
first_of_statement (tree.block it) = first_of_block it
first_of_statement (tree.expression e) = first_of e
first_of_statement (tree.empty at) = at
first_of_statement (tree.if_ at test body) = at
first_of_statement (tree.if_else at test taken otherwise) = at
first_of_statement (tree.while_ at test body) = at
first_of_statement (tree.do_ at body test) = at
first_of_statement (tree.for_ at first test step body) = at
first_of_statement (tree.switch_ at e it) = at
first_of_statement (tree.break_ at) = at
first_of_statement (tree.continue_ at) = at
first_of_statement (tree.return_ at e) = at

-- the tokens begin with one at that place
abbrev pub BeginsAt : Place → List SourceToken → Type 0
BeginsAt place [] = ⊥
BeginsAt place (source ∷ rest) = IsAt source place

-- the tokens begin with one at that place, if there is a place; else there are no tokens
abbrev pub BeginsIfAny : Option Place → List SourceToken → Type 0
BeginsIfAny (Some place) sources = BeginsAt place sources
BeginsIfAny None [] = Unit {0}
BeginsIfAny None (source ∷ rest) = ⊥
