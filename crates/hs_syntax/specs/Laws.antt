-- Laws that show the grammar to be the right one.
--     GroupsLeft                 precedence, and operators of a precedence group to the left (X3.159-1989 3.3)
--     ElseIsNearest              an `else` belongs to the nearest open `if` (3.6.4.1)
--     TypesBeginParameters       a typedef name begins a parameter list as the rule says (3.5.4.3, 3.5.5)
--     SpecifiersGoOn             a list of specifiers takes what it can (3.5)
--     FirstTokensAreFirst        the place of a phrase's first token is that of its first token
use Rattle.std.specs.Prelude.{◌≡◌, ◌<◌, ◌≤◌, ℕ, Bool, true, false, List, codes}
use Rattle.hs_tokens.specs.declared.token.SourceToken.{SourceToken}
use Rattle.hs_syntax.specs.Forms.{◌⨾◌, mark, IsOf}
use Rattle.hs_syntax.specs.Grammar.{expression_form, direct_form, declarator_form, declaration_form, items_form}
use Rattle.hs_syntax.specs.Grammar.{statement_form, specification_form, IsExpression}
use Rattle.hs_syntax.specs.Operators.{precedence_of}
use Rattle.hs_syntax.specs.Phrases.{begins_none, begins_parameters, is_typed}
use Rattle.hs_syntax.specs.Positions.{first_of, first_of_specifiers, first_of_statement, BeginsAt, BeginsIfAny}
use Rattle.hs_syntax.specs.Trees as tree
use Rattle.hs_syntax.specs.Trees.{Expression, Declared, Declaration, Specification, Statement}
use Rattle.hs_syntax.specs.declared.operators.BinaryOperator.{BinaryOperator}
use Rattle.hs_tokens.specs.declared.place.Place.{Place}

-- Of two binary operators in a row, the first one is applied first if it binds as tightly as the second, and the
-- second one if it binds tighter.
abbrev pub GroupsLeft : Type 0
GroupsLeft = (known : List (List ℕ)) (a b c : Expression) (first second : BinaryOperator) (at place : Place)
    → ((expression_form known (tree.binary (tree.binary a first at b) second place c)).fits ≡ true
    → precedence_of second ≤ precedence_of first)
    × ((expression_form known (tree.binary a first at (tree.binary b second place c))).fits ≡ true
    → precedence_of first < precedence_of second)

-- an `else` after an `if` without one is not that of an outer `if`
abbrev pub ElseIsNearest : Type 0
ElseIsNearest = (known : List (List ℕ)) (outer inner : Expression) (body otherwise : Statement) (at place : Place)
    → (statement_form known (tree.if_else at outer (tree.if_ place inner body) otherwise)).fits ≡ false

-- In a parameter or a type name, no declarator in parentheses begins with a typedef name or with a word that means
-- nothing.
abbrev pub TypesBeginParameters : Type 0
TypesBeginParameters = (known : List (List ℕ)) (it : Declared)
    → (direct_form known true (tree.parens_of it)).fits ≡ true
    → begins_parameters known (declarator_form known true it).pieces ≡ false

-- what follows the specifiers of a declaration begins none
abbrev pub SpecifiersGoOn : Type 0
SpecifiersGoOn = (known : List (List ℕ)) (it : Declaration)
    → (declaration_form known it).fits ≡ true
    → begins_none known (is_typed it.specifiers) (items_form known it.items ⨾ mark (codes ";")).pieces ≡ true

-- If tokens are an expression, a statement or specifiers, they begin with a token at the place of its first token. If
-- there are no specifiers, there are no tokens.
abbrev pub FirstTokensAreFirst : Type 0
FirstTokensAreFirst = (known : List (List ℕ)) (sources : List SourceToken)
    → ((e : Expression) → IsExpression known sources e → BeginsAt (first_of e) sources)
    × ((it : Statement) → IsOf (statement_form known it) sources → BeginsAt (first_of_statement it) sources)
    × ((typed : Bool) (its : Specification) → IsOf (specification_form known typed its) sources
    → BeginsIfAny (first_of_specifiers its) sources)
