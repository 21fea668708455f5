-- What is read at a place, and what is found there.
--     Goal         a phrase, or the rest of one after its parts so far
--     Tree goal    what is found
use Rattle.std.specs.Prelude.{ℕ, Bool, List}
use Rattle.hs_syntax.specs.RowViews.{OneLeft, OneMember, OneConstant, OneParameter}
use Rattle.hs_syntax.specs.Trees.{Expression, NamedType, Specified, Declared, Directly}

pub data Goal : Type 0 where
  -- expressions: an `expression`, an `assignment`, a `conditional`, one of binary operators of at least that precedence, a `cast`, a `unary`
  expression : Goal
  assignment : Goal
  conditional : Goal
  binary : ℕ → Goal
  cast : Goal
  unary : Goal
  -- the rest of an expression after its commas so far and the last operand
  commas : List OneLeft → Expression → Goal
  -- the rest after a left operand: operators of at least the first precedence and at most the second
  climb : ℕ → ℕ → Expression → Goal
  -- the rest of a postfix expression
  suffixes : Expression → Goal
  -- arguments after earlier ones
  arguments : List Expression → Goal
  -- type names, and specifiers after earlier ones, whether a type specifier was among them
  type_name : Goal
  specifiers : Bool → List Specified → Goal
  -- members and enumeration constants after earlier ones
  members : List OneMember → Goal
  constants : List OneConstant → Goal
  -- a declarator, in a parameter or a type name or not; declarators after earlier ones
  declarator : Bool → Goal
  declarators : List Declared → Goal
  -- the rest of a declarator after its name
  directs : Directly → Goal
  -- parameters after earlier ones
  parameters : List OneParameter → Goal

abbrev pub Tree : Goal → Type 0
Tree expression = Expression
Tree assignment = Expression
Tree conditional = Expression
Tree (binary least) = Expression
Tree cast = Expression
Tree unary = Expression
Tree (commas lefts right) = Expression
Tree (climb least most left) = Expression
Tree (suffixes base) = Expression
Tree (arguments earlier) = List Expression
Tree type_name = NamedType
Tree (specifiers typed earlier) = List Specified
Tree (members earlier) = List OneMember
Tree (constants earlier) = List OneConstant × Bool
Tree (declarator inner) = Declared
Tree (declarators earlier) = List Declared
Tree (directs base) = Directly
Tree (parameters earlier) = List OneParameter
