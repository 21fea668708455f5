-- What an expression is before it is used (X3.159-1989 3.2.2.1): a value, an object that it designates, or a function.
--     TypedOperand               one of the three
--     view_operand               the one that an operand of the code is
--     type_of_operand, place_of_operand
use Rattle.hs_operand_types.specs.declared.operand.Designator.{Designator}
use Rattle.hs_operand_types.specs.declared.operand.Operand.{Operand}
use Rattle.hs_operand_types.specs.declared.operand.Operand.TheVariants.{Value, Object, Function}
use Rattle.hs_tree.specs.Trees.{RightValue, LeftValue, head_of, head_of_left}
use Rattle.hs_tree.specs.Views.{view_right, view_left}
use Rattle.hs_tree.specs.declared.head.Head.{Head}

-- one of the three
pub data TypedOperand : Type 0 where
  value : RightValue → TypedOperand
  object : LeftValue → TypedOperand
  function : Designator → TypedOperand

-- of the code
abbrev pub view_operand : Operand → TypedOperand
view_operand (Value e) = value (view_right e.value)
view_operand (Object it) = object (view_left it.value)
view_operand (Function it) = function it

-- its position and its type
abbrev pub head_of_operand : TypedOperand → Head
head_of_operand (value e) = head_of e
head_of_operand (object it) = head_of_left it
head_of_operand (function it) = it.head
