-- The tree that a tree of the code is: the same, but for memory.
--     view_right, view_left, view_rights      of expressions, and of the row of a list of them
--     view_statement, view_block, view_function, program_of, ..
use Rattle.std.specs.Prelude.{ℕ, List, map, option_map}
use Rattle.hs_tree.specs.Trees as tree
use Rattle.hs_tree.specs.Trees.{RightValue, LeftValue, RightValues, Starting, TypedItem, TypedDeclaration, TypedStatement, TypedBlock}
use Rattle.hs_tree.specs.Trees.{TypedStatements, TypedFunction, TypedProgram}
use Rattle.hs_tree.specs.declared.function.BoundRoutine.{BoundRoutine}
use Rattle.hs_tree.specs.declared.function.Function.{Function}
use Rattle.hs_tree.specs.declared.globals.Global.{Global}
use Rattle.hs_tree.specs.declared.representatives.Representatives.{Representatives}
use Rattle.hs_tree.specs.declared.statement.Block.{Block, Block', Row_of-Labelled, end_of-Labelled, more_of-Labelled}
use Rattle.hs_tree.specs.declared.statement.Declaration.{Declaration}
use Rattle.hs_tree.specs.declared.statement.Initial.{Initial}
use Rattle.hs_tree.specs.declared.statement.Initial.TheVariants.{Value, Parts}
use Rattle.hs_tree.specs.declared.statement.Initialised.{Initialised}
use Rattle.hs_tree.specs.declared.statement.Statement.{Statement, Block as ABlock, Expression, Empty, If', IfElse', While', Do', For'}
use Rattle.hs_tree.specs.declared.statement.Statement.{Switch, Break, Continue, Return}
use Rattle.hs_tree.specs.declared.value.Lvalue.{Lvalue, Variable, Literal, Target', Element', Member', Arrow'}
use Rattle.hs_tree.specs.declared.value.Rvalue.{Rvalue, Number, Nil, Load', Decay', Address', Cast', ConvertNumber', ConvertPointer'}
use Rattle.hs_tree.specs.declared.value.Rvalue.{Unary', Not', Arithmetic', Comparison', ComparePointers', IsNil', Step', Difference'}
use Rattle.hs_tree.specs.declared.value.Rvalue.{And', Or', Conditional', Comma', Assign', Update', Advance', PostUpdate', PostAdvance'}
use Rattle.hs_tree.specs.declared.value.Rvalue.{Call', CallRoutine', Row_of-Rvalue, end_of-Rvalue, more_of-Rvalue}
use Rattle.hs_types.specs.TypeTables.{TypeTable}
use Rattle.hs_types.specs.declared.row.FieldId.{FieldId}

abbrev mutual
  pub view_right : Rvalue → RightValue
  view_right (Number head bits) = tree.number head bits
  view_right (Nil head) = tree.nil head
  view_right (Load' head p object) = tree.load head (view_left object)
  view_right (Decay' head p array) = tree.decay head (view_left array)
  view_right (Address' head p object) = tree.address head (view_left object)
  view_right (Cast' head p operand) = tree.cast head (view_right operand)
  view_right (ConvertNumber' head kind p operand) = tree.convert_number head kind (view_right operand)
  view_right (ConvertPointer' head p operand) = tree.convert_pointer head (view_right operand)
  view_right (Unary' head operator kind p operand) = tree.unary head operator kind (view_right operand)
  view_right (Not' head p operand) = tree.not head (view_right operand)
  view_right (Arithmetic' head operator kind p left q right) = tree.arithmetic head operator kind (view_right left) (view_right right)
  view_right (Comparison' head operator kind p left q right) = tree.comparison head operator kind (view_right left) (view_right right)
  view_right (ComparePointers' head operator p left q right) = tree.compare_pointers head operator (view_right left) (view_right right)
  view_right (IsNil' head equal p pointer) = tree.is_nil head equal (view_right pointer)
  view_right (Step' head stride pointer_first p left q right) =
      tree.step head stride pointer_first (view_right left) (view_right right)
  view_right (Difference' head size p left q right) = tree.difference head size (view_right left) (view_right right)
  view_right (And' head p left q right) = tree.and head (view_right left) (view_right right)
  view_right (Or' head p left q right) = tree.or head (view_right left) (view_right right)
  view_right (Conditional' head p test q then r otherwise) =
      tree.conditional head (view_right test) (view_right then) (view_right otherwise)
  view_right (Comma' head shape lefts p right) = tree.comma head (view_rights lefts) (view_right right)
  view_right (Assign' head p target q value) = tree.assign head (view_left target) (view_right value)
  view_right (Update' head operator kind to p target q value) =
      tree.update head operator kind to (view_left target) (view_right value)
  view_right (Advance' head stride p target q value) = tree.advance head stride (view_left target) (view_right value)
  view_right (PostUpdate' head operator kind to p target) = tree.post_update head operator kind to (view_left target)
  view_right (PostAdvance' head stride p target) = tree.post_advance head stride (view_left target)
  view_right (Call' head function routine shape arguments) = tree.call head function routine (view_rights arguments)
  view_right (CallRoutine' head routine shape arguments) = tree.call_routine head routine (view_rights arguments)

  pub view_left : Lvalue → LeftValue
  view_left (Variable head variable) = tree.variable head variable
  view_left (Literal head number) = tree.literal head number
  view_left (Target' head p pointer) = tree.target head (view_right pointer)
  view_left (Element' head size pointer_first p left q right) =
      tree.element head size pointer_first (view_right left) (view_right right)
  view_left (Member' head field offset p object) = tree.member head field offset (view_left object)
  view_left (Arrow' head field offset p pointer) = tree.arrow head field offset (view_right pointer)

  pub view_rights : {m : _} → Row_of-Rvalue m → RightValues
  view_rights end_of-Rvalue = tree.no_values
  view_rights (more_of-Rvalue e rest) = tree.more_values (view_right e) (view_rights rest)

abbrev pub view_initial : Initial → Starting
view_initial (Value e) = tree.value (view_right e.value)
view_initial (Parts its) = tree.parts its

abbrev pub view_item : Initialised → TypedItem
view_item it = record { variable = it.variable; at = it.at; start = view_initial it.value }

abbrev pub view_declaration : Declaration → TypedDeclaration
view_declaration it = record { at = it.at; items = map view_item it.items.items }

abbrev mutual
  pub view_statement : Statement → TypedStatement
  view_statement (ABlock it) = tree.block (view_block it)
  view_statement (Expression at e) = tree.expression at (view_right e.value)
  view_statement (Empty at) = tree.empty at
  view_statement (If' at test p then) = tree.if_ at (view_right test.value) (view_statement then)
  view_statement (IfElse' at test p then q otherwise) =
      tree.if_else at (view_right test.value) (view_statement then) (view_statement otherwise)
  view_statement (While' at test p body) = tree.while_ at (view_right test.value) (view_statement body)
  view_statement (Do' at p body test) = tree.do_ at (view_statement body) (view_right test.value)
  view_statement (For' at first test step p body) =
      tree.for_ at (option_map (λ e. view_right e.value) first) (option_map (λ e. view_right e.value) test)
      (option_map (λ e. view_right e.value) step) (view_statement body)
  view_statement (Switch at e it) = tree.switch_ at (view_right e.value) (view_block it)
  view_statement (Break at) = tree.break_ at
  view_statement (Continue at) = tree.continue_ at
  view_statement (Return at e) = tree.return_ at (option_map (λ it. view_right it.value) e)

  pub view_block : Block → TypedBlock
  view_block (Block' opening declarations shape its closing) =
      tree.compound opening (map view_declaration declarations.items) (view_statements its) closing

  pub view_statements : {m : _} → Row_of-Labelled m → TypedStatements
  view_statements end_of-Labelled = tree.no_statements
  view_statements (more_of-Labelled labels it rest) = tree.more_statements labels.items (view_statement it) (view_statements rest)

abbrev pub view_function : Function → TypedFunction
view_function it =
    record {
      name = it.name;
      at = it.at;
      result = it.result;
      parameters = it.parameters;
      variables = it.variables;
      body = view_block it.body;
    }

-- the program with these parts
abbrev pub program_of : TypeTable → List Global → List (List ℕ) → List Function → List BoundRoutine → Representatives → List FieldId → ℕ → TypedProgram
program_of types globals literals functions routines same taken main =
    record {
      types = types;
      globals = globals;
      literals = literals;
      functions = map view_function functions;
      routines = routines;
      same = same;
      taken = taken;
      main = main;
    }
