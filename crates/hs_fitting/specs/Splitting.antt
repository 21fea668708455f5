-- A fact that follows for each expression, statement or declaration follows for all of them.
--     right_so, left_so, all_so_of        for the expressions inside one
--     expressions_so                      for those of a statement or declaration
--     block_so                            for the statements and declarations inside a block
use Rattle.std.proofs.Common.{Option, Some, None}
use Rattle.hs_base.specs.Entries.{all_so}
use Rattle.hs_tree.specs.Inside.{Node, right, left, Phrase, of_statement, of_declaration, EachRight, EachLeft, EachOf, EachStatement, EachBlock, EachOfStatements, EachExpression, IfAny, InStart}
use Rattle.hs_tree.specs.Trees as tree
use Rattle.hs_tree.specs.Trees.{RightValue, LeftValue, RightValues, Starting, TypedStatement, TypedBlock, TypedStatements}

module _ (holds holds' : Node → Type 0) (so : (node : Node) → holds node → holds' node) where
  mutual
    pub right_so : (e : RightValue) → EachRight holds e → EachRight holds' e
    right_so (tree.number head bits) is = so (right (tree.number head bits)) is
    right_so (tree.nil head) is = so (right (tree.nil head)) is
    right_so (tree.load head object) is = (so (right (tree.load head object)) is.0, left_so object is.1)
    right_so (tree.decay head array) is = (so (right (tree.decay head array)) is.0, left_so array is.1)
    right_so (tree.address head object) is = (so (right (tree.address head object)) is.0, left_so object is.1)
    right_so (tree.cast head operand) is = (so (right (tree.cast head operand)) is.0, right_so operand is.1)
    right_so (tree.convert_number head kind operand) is = (so (right (tree.convert_number head kind operand)) is.0, right_so operand is.1)
    right_so (tree.convert_pointer head operand) is = (so (right (tree.convert_pointer head operand)) is.0, right_so operand is.1)
    right_so (tree.unary head operator kind operand) is = (so (right (tree.unary head operator kind operand)) is.0, right_so operand is.1)
    right_so (tree.not head operand) is = (so (right (tree.not head operand)) is.0, right_so operand is.1)
    right_so (tree.arithmetic head operator kind a b) is = (so (right (tree.arithmetic head operator kind a b)) is.0, right_so a is.1, right_so b is.2)
    right_so (tree.comparison head operator kind a b) is = (so (right (tree.comparison head operator kind a b)) is.0, right_so a is.1, right_so b is.2)
    right_so (tree.compare_pointers head operator a b) is = (so (right (tree.compare_pointers head operator a b)) is.0, right_so a is.1, right_so b is.2)
    right_so (tree.is_nil head equal pointer) is = (so (right (tree.is_nil head equal pointer)) is.0, right_so pointer is.1)
    right_so (tree.step head stride pointer_first a b) is = (so (right (tree.step head stride pointer_first a b)) is.0, right_so a is.1, right_so b is.2)
    right_so (tree.difference head size a b) is = (so (right (tree.difference head size a b)) is.0, right_so a is.1, right_so b is.2)
    right_so (tree.and head a b) is = (so (right (tree.and head a b)) is.0, right_so a is.1, right_so b is.2)
    right_so (tree.or head a b) is = (so (right (tree.or head a b)) is.0, right_so a is.1, right_so b is.2)
    right_so (tree.conditional head test taken otherwise) is =
        (so (right (tree.conditional head test taken otherwise)) is.0, right_so test is.1, right_so taken is.2, right_so otherwise is.3)
    right_so (tree.comma head lefts last) is = (so (right (tree.comma head lefts last)) is.0, all_of_so lefts is.1, right_so last is.2)
    right_so (tree.assign head into from) is = (so (right (tree.assign head into from)) is.0, left_so into is.1, right_so from is.2)
    right_so (tree.update head operator kind to into from) is =
        (so (right (tree.update head operator kind to into from)) is.0, left_so into is.1, right_so from is.2)
    right_so (tree.advance head stride into from) is = (so (right (tree.advance head stride into from)) is.0, left_so into is.1, right_so from is.2)
    right_so (tree.post_update head operator kind to into) is = (so (right (tree.post_update head operator kind to into)) is.0, left_so into is.1)
    right_so (tree.post_advance head stride into) is = (so (right (tree.post_advance head stride into)) is.0, left_so into is.1)
    right_so (tree.call head number routine arguments) is = (so (right (tree.call head number routine arguments)) is.0, all_of_so arguments is.1)
    right_so (tree.call_routine head routine arguments) is = (so (right (tree.call_routine head routine arguments)) is.0, all_of_so arguments is.1)

    pub left_so : (it : LeftValue) → EachLeft holds it → EachLeft holds' it
    left_so (tree.variable head variable) is = so (left (tree.variable head variable)) is
    left_so (tree.literal head place) is = so (left (tree.literal head place)) is
    left_so (tree.target head pointer) is = (so (left (tree.target head pointer)) is.0, right_so pointer is.1)
    left_so (tree.element head size pointer_first a b) is = (so (left (tree.element head size pointer_first a b)) is.0, right_so a is.1, right_so b is.2)
    left_so (tree.member head field offset object) is = (so (left (tree.member head field offset object)) is.0, left_so object is.1)
    left_so (tree.arrow head field offset pointer) is = (so (left (tree.arrow head field offset pointer)) is.0, right_so pointer is.1)

    pub all_of_so : (its : RightValues) → EachOf holds its → EachOf holds' its
    all_of_so tree.no_values is = tt
    all_of_so (tree.more_values e rest) is = (right_so e is.0, all_of_so rest is.1)

-- ---- of a statement or declaration

module _ (holds holds' : RightValue → Type 0) (so : (e : RightValue) → holds e → holds' e) where
  if_any_so : (e : Option RightValue) → IfAny holds e → IfAny holds' e
  if_any_so None is = tt
  if_any_so (Some e) is = so e is

  in_start_so : (it : Starting) → InStart holds it → InStart holds' it
  in_start_so (tree.value e) is = so e is
  in_start_so (tree.parts its) is = tt

  pub expressions_so : (it : Phrase) → EachExpression holds it → EachExpression holds' it
  expressions_so (of_statement (tree.block it)) is = tt
  expressions_so (of_statement (tree.expression at e)) is = so e is
  expressions_so (of_statement (tree.empty at)) is = tt
  expressions_so (of_statement (tree.if_ at test taken)) is = so test is
  expressions_so (of_statement (tree.if_else at test taken otherwise)) is = so test is
  expressions_so (of_statement (tree.while_ at test body)) is = so test is
  expressions_so (of_statement (tree.do_ at body test)) is = so test is
  expressions_so (of_statement (tree.for_ at first test step body)) is = (if_any_so first is.0, if_any_so test is.1, if_any_so step is.2)
  expressions_so (of_statement (tree.switch_ at e it)) is = so e is
  expressions_so (of_statement (tree.break_ at)) is = tt
  expressions_so (of_statement (tree.continue_ at)) is = tt
  expressions_so (of_statement (tree.return_ at e)) is = if_any_so e is
  expressions_so (of_declaration it) is =
      all_so (λ item. InStart holds item.start) (λ item. InStart holds' item.start) (λ item is. in_start_so item.start is) it.items is

-- ---- inside a block

module _ (holds holds' : Phrase → Type 0) (so : (it : Phrase) → holds it → holds' it) where
  mutual
    pub statement_so : (it : TypedStatement) → EachStatement holds it → EachStatement holds' it
    statement_so (tree.block it) is = block_so it is
    statement_so (tree.expression at e) is = so (of_statement (tree.expression at e)) is
    statement_so (tree.empty at) is = tt
    statement_so (tree.if_ at test taken) is = (so (of_statement (tree.if_ at test taken)) is.0, statement_so taken is.1)
    statement_so (tree.if_else at test taken otherwise) is =
        (so (of_statement (tree.if_else at test taken otherwise)) is.0, statement_so taken is.1, statement_so otherwise is.2)
    statement_so (tree.while_ at test body) is = (so (of_statement (tree.while_ at test body)) is.0, statement_so body is.1)
    statement_so (tree.do_ at body test) is = (so (of_statement (tree.do_ at body test)) is.0, statement_so body is.1)
    statement_so (tree.for_ at first test step body) is = (so (of_statement (tree.for_ at first test step body)) is.0, statement_so body is.1)
    statement_so (tree.switch_ at e it) is = (so (of_statement (tree.switch_ at e it)) is.0, block_so it is.1)
    statement_so (tree.break_ at) is = tt
    statement_so (tree.continue_ at) is = tt
    statement_so (tree.return_ at e) is = so (of_statement (tree.return_ at e)) is

    pub block_so : (it : TypedBlock) → EachBlock holds it → EachBlock holds' it
    block_so (tree.compound opening declarations its closing) is = (
      all_so (λ it. holds (of_declaration it)) (λ it. holds' (of_declaration it))
          (λ it is. so (of_declaration it) is) declarations is.0,
      statements_so its is.1,
    )

    pub statements_so : (its : TypedStatements) → EachOfStatements holds its → EachOfStatements holds' its
    statements_so tree.no_statements is = tt
    statements_so (tree.more_statements labels it rest) is = (statement_so it is.0, statements_so rest is.1)
