-- What stands inside expressions and statements.
--     EachRight holds e, EachLeft holds e       each expression inside e, itself among them, meets the fact
--     EachStatement holds it, EachBlock         each statement and declaration inside, itself among them
--     EachExpression holds phrase               each expression that stands in a statement or a declaration itself
use Rattle.std.specs.Prelude.{Option, Some, None}
use Rattle.std.specs.List.{AllByRecursion}
use Rattle.hs_tree.specs.Trees as tree
use Rattle.hs_tree.specs.Trees.{RightValue, LeftValue, RightValues, Starting, TypedItem, TypedDeclaration, TypedStatement, TypedBlock, TypedStatements, TypedFunction, TypedProgram, type_of, type_of_left}

-- an expression, of either sort
pub data Node : Type 0 where
  right : RightValue → Node
  left : LeftValue → Node

-- Each expression inside a tree, the tree itself among them, meets the fact.
abbrev mutual
  pub EachRight : (Node → Type 0) → RightValue → Type 0
  EachRight holds (tree.number head bits) = holds (right (tree.number head bits))
  EachRight holds (tree.nil head) = holds (right (tree.nil head))
  EachRight holds (tree.load head object) = holds (right (tree.load head object)) × EachLeft holds object
  EachRight holds (tree.decay head array) = holds (right (tree.decay head array)) × EachLeft holds array
  EachRight holds (tree.address head object) = holds (right (tree.address head object)) × EachLeft holds object
  EachRight holds (tree.cast head operand) = holds (right (tree.cast head operand)) × EachRight holds operand
  EachRight holds (tree.convert_number head kind operand) =
      holds (right (tree.convert_number head kind operand)) × EachRight holds operand
  EachRight holds (tree.convert_pointer head operand) = holds (right (tree.convert_pointer head operand)) × EachRight holds operand
  EachRight holds (tree.unary head operator kind operand) =
      holds (right (tree.unary head operator kind operand)) × EachRight holds operand
  EachRight holds (tree.not head operand) = holds (right (tree.not head operand)) × EachRight holds operand
  EachRight holds (tree.arithmetic head operator kind a b) =
      holds (right (tree.arithmetic head operator kind a b)) × EachRight holds a × EachRight holds b
  EachRight holds (tree.comparison head operator kind a b) =
      holds (right (tree.comparison head operator kind a b)) × EachRight holds a × EachRight holds b
  EachRight holds (tree.compare_pointers head operator a b) =
      holds (right (tree.compare_pointers head operator a b)) × EachRight holds a × EachRight holds b
  EachRight holds (tree.is_nil head equal pointer) = holds (right (tree.is_nil head equal pointer)) × EachRight holds pointer
  EachRight holds (tree.step head stride pointer_first a b) =
      holds (right (tree.step head stride pointer_first a b)) × EachRight holds a × EachRight holds b
  EachRight holds (tree.difference head size a b) =
      holds (right (tree.difference head size a b)) × EachRight holds a × EachRight holds b
  EachRight holds (tree.and head a b) = holds (right (tree.and head a b)) × EachRight holds a × EachRight holds b
  EachRight holds (tree.or head a b) = holds (right (tree.or head a b)) × EachRight holds a × EachRight holds b
  EachRight holds (tree.conditional head test then otherwise) =
      holds (right (tree.conditional head test then otherwise)) × EachRight holds test × EachRight holds then × EachRight holds otherwise
  EachRight holds (tree.comma head lefts last) = holds (right (tree.comma head lefts last)) × EachOf holds lefts × EachRight holds last
  EachRight holds (tree.assign head into from) = holds (right (tree.assign head into from)) × EachLeft holds into × EachRight holds from
  EachRight holds (tree.update head operator kind to into from) =
      holds (right (tree.update head operator kind to into from)) × EachLeft holds into × EachRight holds from
  EachRight holds (tree.advance head stride into from) =
      holds (right (tree.advance head stride into from)) × EachLeft holds into × EachRight holds from
  EachRight holds (tree.post_update head operator kind to into) =
      holds (right (tree.post_update head operator kind to into)) × EachLeft holds into
  EachRight holds (tree.post_advance head stride into) = holds (right (tree.post_advance head stride into)) × EachLeft holds into
  EachRight holds (tree.call head number routine arguments) =
      holds (right (tree.call head number routine arguments)) × EachOf holds arguments
  EachRight holds (tree.call_routine head routine arguments) =
      holds (right (tree.call_routine head routine arguments)) × EachOf holds arguments

  pub EachLeft : (Node → Type 0) → LeftValue → Type 0
  EachLeft holds (tree.variable head variable) = holds (left (tree.variable head variable))
  EachLeft holds (tree.literal head place) = holds (left (tree.literal head place))
  EachLeft holds (tree.target head pointer) = holds (left (tree.target head pointer)) × EachRight holds pointer
  EachLeft holds (tree.element head size pointer_first a b) =
      holds (left (tree.element head size pointer_first a b)) × EachRight holds a × EachRight holds b
  EachLeft holds (tree.member head field offset object) = holds (left (tree.member head field offset object)) × EachLeft holds object
  EachLeft holds (tree.arrow head field offset pointer) = holds (left (tree.arrow head field offset pointer)) × EachRight holds pointer

  pub EachOf : (Node → Type 0) → RightValues → Type 0
  EachOf holds tree.no_values = Unit {0}
  EachOf holds (tree.more_values e rest) = EachRight holds e × EachOf holds rest

-- a statement, or a declaration at the head of a block
pub data Phrase : Type 0 where
  of_statement : TypedStatement → Phrase
  of_declaration : TypedDeclaration → Phrase

-- Each statement and declaration inside a statement, itself among them, meets the fact.
abbrev mutual
  pub EachStatement : (Phrase → Type 0) → TypedStatement → Type 0
  EachStatement holds (tree.block it) = EachBlock holds it
  EachStatement holds (tree.expression at e) = holds (of_statement (tree.expression at e))
  EachStatement holds (tree.empty at) = Unit {0}
  EachStatement holds (tree.if_ at test then) = holds (of_statement (tree.if_ at test then)) × EachStatement holds then
  EachStatement holds (tree.if_else at test then otherwise) =
      holds (of_statement (tree.if_else at test then otherwise)) × EachStatement holds then × EachStatement holds otherwise
  EachStatement holds (tree.while_ at test body) = holds (of_statement (tree.while_ at test body)) × EachStatement holds body
  EachStatement holds (tree.do_ at body test) = holds (of_statement (tree.do_ at body test)) × EachStatement holds body
  EachStatement holds (tree.for_ at first test step body) =
      holds (of_statement (tree.for_ at first test step body)) × EachStatement holds body
  EachStatement holds (tree.switch_ at e it) = holds (of_statement (tree.switch_ at e it)) × EachBlock holds it
  EachStatement holds (tree.break_ at) = Unit {0}
  EachStatement holds (tree.continue_ at) = Unit {0}
  EachStatement holds (tree.return_ at e) = holds (of_statement (tree.return_ at e))

  pub EachBlock : (Phrase → Type 0) → TypedBlock → Type 0
  EachBlock holds (tree.compound opening declarations statements closing) =
      AllByRecursion (λ it. holds (of_declaration it)) declarations × EachOfStatements holds statements

  pub EachOfStatements : (Phrase → Type 0) → TypedStatements → Type 0
  EachOfStatements holds tree.no_statements = Unit {0}
  EachOfStatements holds (tree.more_statements labels it rest) = EachStatement holds it × EachOfStatements holds rest

-- the expression, if there is one, meets the fact
abbrev pub IfAny : (RightValue → Type 0) → Option RightValue → Type 0
IfAny holds None = Unit {0}
IfAny holds (Some e) = holds e

-- the value that a variable is given, if it is one expression
abbrev pub InStart : (RightValue → Type 0) → Starting → Type 0
InStart holds (tree.value e) = holds e
InStart holds (tree.parts its) = Unit {0}

-- each expression that stands in a statement or a declaration itself, and not in a statement inside it
abbrev pub EachExpression : (RightValue → Type 0) → Phrase → Type 0
EachExpression holds (of_statement (tree.block it)) = Unit {0}
EachExpression holds (of_statement (tree.expression at e)) = holds e
EachExpression holds (of_statement (tree.empty at)) = Unit {0}
EachExpression holds (of_statement (tree.if_ at test then)) = holds test
EachExpression holds (of_statement (tree.if_else at test then otherwise)) = holds test
EachExpression holds (of_statement (tree.while_ at test body)) = holds test
EachExpression holds (of_statement (tree.do_ at body test)) = holds test
EachExpression holds (of_statement (tree.for_ at first test step body)) = IfAny holds first × IfAny holds test × IfAny holds step
EachExpression holds (of_statement (tree.switch_ at e it)) = holds e
EachExpression holds (of_statement (tree.break_ at)) = Unit {0}
EachExpression holds (of_statement (tree.continue_ at)) = Unit {0}
EachExpression holds (of_statement (tree.return_ at e)) = IfAny holds e
EachExpression holds (of_declaration it) = AllByRecursion (λ item. InStart holds item.start) it.items
