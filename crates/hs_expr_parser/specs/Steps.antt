-- What each function of the parser reads: the rules of `Reading.antt`, each over the reading itself.
--     expression_at known tokens, assignment_at, ..
use Rattle.std.specs.Prelude.{ℕ, Bool, List, [], Option, Some, codes, if◌then◌else◌}
use Rattle.hs_tokens.specs.declared.token.SourceToken.{SourceToken}
use Rattle.hs_syntax.specs.RowViews.{OneLeft, OneMember, OneConstant, OneParameter}
use Rattle.hs_syntax.specs.Trees.{Expression, NamedType, Specified, Declared, Directly}
use Rattle.hs_syntax.specs.declared.operators.PrefixOperator.{PrefixOperator}
use Rattle.hs_tokens.specs.declared.place.Place.{Place}
use Rattle.hs_syntax.specs.declared.word.Word.{Word}
use Rattle.hs_expr_parser.specs.Ahead.{is_mark_ahead}
use Rattle.hs_expr_parser.specs.Recursion.{Read}
use Rattle.hs_expr_parser.specs.Reading.{Known, Operand, Branches, Assigned, reading, expression_rule, assignment_rule, conditional_rule, binary_rule, cast_rule, unary_rule, postfix_rule, primary_rule, parens_rule, suffix_rule, suffixes_rule, operand_at, type_in_parens, sizeof_rule, operand_rule, climb_rule, branches_rule, value_rule, another_rule, commas_rule, arguments_rule, type_rule, specifiers_rule, some_specifiers_rule, specifier_rule, struct_by, enum_by, members_rule, member_rule_of, constants_rule, constant_rule, declarator_rule, base_rule, inside_rule, directs_rule, length_rule, list_rule, declarators_rule, parameters_rule, parameter_rule}

-- an expression
unfoldable pub expression_at : Known → List SourceToken → Read Expression
expression_at known tokens = expression_rule known (reading known) tokens

-- an assignment
unfoldable pub assignment_at : Known → List SourceToken → Read Expression
assignment_at known tokens = assignment_rule known (reading known) tokens

-- a conditional
unfoldable pub conditional_at : Known → List SourceToken → Read Expression
conditional_at known tokens = conditional_rule known (reading known) tokens

-- operands of operators of at least that precedence
unfoldable pub binary_at : Known → ℕ → List SourceToken → Read Expression
binary_at known least tokens = binary_rule known (reading known) least tokens

-- a cast
unfoldable pub cast_at : Known → List SourceToken → Read Expression
cast_at known tokens = cast_rule known (reading known) tokens

-- a unary expression
unfoldable pub unary_at : Known → List SourceToken → Read Expression
unary_at known tokens = unary_rule known (reading known) tokens

-- a postfix expression
unfoldable pub postfix_at : Known → List SourceToken → Read Expression
postfix_at known tokens = postfix_rule known (reading known) tokens

-- a primary expression
unfoldable pub primary_at : Known → List SourceToken → Read Expression
primary_at known tokens = primary_rule known (reading known) tokens

-- an expression in parentheses, after the first
unfoldable pub parens_at : Known → Place → List SourceToken → Read Expression
parens_at known at rest = parens_rule (reading known) at rest

-- what is read after a postfix expression, and it
unfoldable pub suffix_at : Known → Expression → List SourceToken → Read Expression
suffix_at known base tokens = suffix_rule (reading known) base tokens

-- the rest of a postfix expression
unfoldable pub suffixes_at : Known → Expression → List SourceToken → Read Expression
suffixes_at known base tokens = suffixes_rule (reading known) base tokens

-- the operand of a prefix operator
unfoldable pub operand_of : Known → PrefixOperator → List SourceToken → Read Expression
operand_of known operator rest = operand_at (reading known) operator rest

-- a type name in parentheses
unfoldable pub type_in_parens_at : Known → List SourceToken → Read (Place × NamedType)
type_in_parens_at known tokens = type_in_parens (reading known) tokens

-- what follows `sizeof`, and it
unfoldable pub sizeof_at : Known → Place → List SourceToken → Read Expression
sizeof_at known at rest = sizeof_rule known (reading known) at rest

-- a binary operator and its right operand
unfoldable pub infix_at : Known → ℕ → ℕ → List SourceToken → Read Operand
infix_at known least most tokens = operand_rule (reading known) least most tokens

-- the rest after a left operand
unfoldable pub climb_at : Known → ℕ → ℕ → Expression → List SourceToken → Read Expression
climb_at known least most left tokens = climb_rule (reading known) least most left tokens

-- what follows a test
unfoldable pub branches_at : Known → List SourceToken → Read Branches
branches_at known tokens = branches_rule (reading known) tokens

-- what is assigned
unfoldable pub value_at : Known → List SourceToken → Read Assigned
value_at known tokens = value_rule (reading known) tokens

-- a comma and its right operand
unfoldable pub another_at : Known → List SourceToken → Read (Place × Expression)
another_at known tokens = another_rule (reading known) tokens

-- the rest after commas so far
unfoldable pub commas_at : Known → List OneLeft → Expression → List SourceToken → Read Expression
commas_at known lefts right tokens = commas_rule (reading known) lefts right tokens

-- arguments after earlier ones
unfoldable pub arguments_at : Known → List Expression → List SourceToken → Read (List Expression)
arguments_at known earlier tokens = arguments_rule known (reading known) earlier tokens

-- arguments, if any, up to a `)`
unfoldable pub some_arguments_at : Known → List SourceToken → Read (List Expression)
some_arguments_at known tokens = if is_mark_ahead (codes ")") tokens then Some ([], tokens) else arguments_at known [] tokens

-- a type name
unfoldable pub type_at : Known → List SourceToken → Read NamedType
type_at known tokens = type_rule known (reading known) tokens

-- specifiers after earlier ones
unfoldable pub specifiers_at : Known → Bool → List Specified → List SourceToken → Read (List Specified)
specifiers_at known typed earlier tokens = specifiers_rule known (reading known) typed earlier tokens

-- at least one specifier
unfoldable pub some_specifiers_at : Known → List SourceToken → Read (List Specified)
some_specifiers_at known tokens = some_specifiers_rule known (reading known) tokens

-- a specifier that begins with the token
unfoldable pub specifier_at : Known → SourceToken → List SourceToken → Read Specified
specifier_at known source rest = specifier_rule known (reading known) source rest

-- a struct, after its tag
unfoldable pub struct_at : Known → Place → Option Word → List SourceToken → Read Specified
struct_at known at tag rest = struct_by (reading known) at tag rest

-- an enumeration, after its tag
unfoldable pub enum_at : Known → Place → Option Word → List SourceToken → Read Specified
enum_at known at tag rest = enum_by (reading known) at tag rest

-- members after earlier ones
unfoldable pub members_at : Known → List OneMember → List SourceToken → Read (List OneMember)
members_at known earlier tokens = members_rule known (reading known) earlier tokens

-- members that are declared together
unfoldable pub member_at : Known → List SourceToken → Read OneMember
member_at known tokens = member_rule_of known (reading known) tokens

-- enumeration constants after earlier ones
unfoldable pub constants_at : Known → List OneConstant → List SourceToken → Read (List OneConstant × Bool)
constants_at known earlier tokens = constants_rule (reading known) earlier tokens

-- an enumeration constant
unfoldable pub constant_at : Known → List SourceToken → Read OneConstant
constant_at known tokens = constant_rule (reading known) tokens

-- a declarator
unfoldable pub declarator_at : Known → Bool → List SourceToken → Read Declared
declarator_at known inner tokens = declarator_rule known (reading known) inner tokens

-- what the rest of a declarator follows
unfoldable pub base_at : Known → Bool → List SourceToken → Read Directly
base_at known inner tokens = base_rule known (reading known) inner tokens

-- a declarator in parentheses, after the first
unfoldable pub inside_at : Known → Bool → List SourceToken → Read Directly
inside_at known inner rest = inside_rule (reading known) inner rest

-- the rest of a declarator
unfoldable pub directs_at : Known → Directly → List SourceToken → Read Directly
directs_at known base tokens = directs_rule (reading known) base tokens

-- the length of an array, after the `[`
unfoldable pub length_at : Known → Directly → List SourceToken → Read Directly
length_at known base rest = length_rule (reading known) base rest

-- a list of parameters, after the `(`
unfoldable pub list_at : Known → Directly → List SourceToken → Read Directly
list_at known base rest = list_rule (reading known) base rest

-- declarators after earlier ones
unfoldable pub declarators_at : Known → List Declared → List SourceToken → Read (List Declared)
declarators_at known earlier tokens = declarators_rule known (reading known) earlier tokens

-- parameters after earlier ones
unfoldable pub parameters_at : Known → List OneParameter → List SourceToken → Read (List OneParameter)
parameters_at known earlier tokens = parameters_rule known (reading known) earlier tokens

-- a parameter
unfoldable pub parameter_at : Known → List SourceToken → Read OneParameter
parameter_at known tokens = parameter_rule known (reading known) tokens
