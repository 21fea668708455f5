-- The views of lists of the types that contain one another: each is made of the views of its entries.
--     view_left, view_member, ..                 of one entry of a list that has no type of its own in `Trees.antt`
--     specification_from, members_from, ..       the list of those entries
use Rattle.std.specs.Prelude.{List, [], ◌∷◌}
use Rattle.hs_syntax.specs.declared.expr.Constant.{Constant, Plain, Valued'}
use Rattle.hs_syntax.specs.declared.expr.Left.{Left}
use Rattle.hs_syntax.specs.declared.expr.Member.{Member, Member'}
use Rattle.hs_syntax.specs.declared.expr.Parameter.{Parameter}
use Rattle.hs_tokens.specs.declared.place.Place.{Place}
use Rattle.hs_syntax.specs.declared.word.Word.{Word}
use Rattle.hs_syntax.specs.Trees as tree
use Rattle.hs_syntax.specs.Trees.{Expression, Expressions, Lefts, Specified, Specification, Members, Constants}
use Rattle.hs_syntax.specs.Trees.{Declared, Declarators, Parameters, Initialising, Initialisers, Labelling, Statement}
use Rattle.hs_syntax.specs.Trees.{Statements}
use Rattle.hs_syntax.specs.Views.{view, specification_of, view_declarator, view_declarators, view_specifiers}

-- members that are declared together
pub data OneMember : Type 0 where
  one_member : Specification → Declarators → OneMember

-- a left operand of a comma, and the place of the comma
pub data OneLeft : Type 0 where
  one_left : Expression → Place → OneLeft

-- an enumeration constant
pub data OneConstant : Type 0 where
  plain_one : Word → OneConstant
  valued_one : Word → Expression → OneConstant

-- a parameter
pub data OneParameter : Type 0 where
  one_parameter : Specification → Declared → OneParameter

abbrev pub view_left : Left → OneLeft
view_left it = one_left (view it.operand) it.at

abbrev pub view_member : Member → OneMember
view_member (Member' shape specifiers shape' declarators) =
    one_member (view_specifiers specifiers) (view_declarators declarators)

abbrev pub view_constant : Constant → OneConstant
view_constant (Plain name) = plain_one name
view_constant (Valued' name p value) = valued_one name (view value)

abbrev pub view_parameter : Parameter → OneParameter
view_parameter it = one_parameter (specification_of it.specifiers.items) (view_declarator it.declarator)

abbrev pub expressions_from : List Expression → Expressions
expressions_from [] = tree.no_expressions
expressions_from (e ∷ rest) = tree.more_expressions e (expressions_from rest)

abbrev pub lefts_from : List OneLeft → Lefts
lefts_from [] = tree.no_lefts
lefts_from (one_left e at ∷ rest) = tree.more_lefts e at (lefts_from rest)

abbrev pub specification_from : List Specified → Specification
specification_from [] = tree.no_specifiers
specification_from (it ∷ rest) = tree.more_specifiers it (specification_from rest)

abbrev pub members_from : List OneMember → Members
members_from [] = tree.no_members
members_from (one_member specification its ∷ rest) = tree.more_members specification its (members_from rest)

abbrev pub constants_from : List OneConstant → Constants
constants_from [] = tree.no_constants
constants_from (plain_one name ∷ rest) = tree.constant name (constants_from rest)
constants_from (valued_one name e ∷ rest) = tree.valued_constant name e (constants_from rest)

abbrev pub declarators_from : List Declared → Declarators
declarators_from [] = tree.no_declarators
declarators_from (it ∷ rest) = tree.more_declarators it (declarators_from rest)

abbrev pub parameters_from : List OneParameter → Parameters
parameters_from [] = tree.no_parameters
parameters_from (one_parameter specification it ∷ rest) = tree.more_parameters specification it (parameters_from rest)
