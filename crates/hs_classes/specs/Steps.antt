-- The same words, as contracts see the trees of the code.
--     program_in, function_in         what the definitions see of a program, and of a function
--     value_step, statement_step, ..  the known classes, with those of a part
use Rattle.std.specs.Prelude.{List, Option}
use Rattle.hs_code.specs.Codes.{view_program}
use Rattle.hs_tree.specs.Trees.{RightValue, TypedFunction, TypedProgram}
use Rattle.hs_tree.specs.Views.{view_right, view_left, view_item, view_declaration, view_statement, view_block, view_function}
use Rattle.hs_tree.specs.declared.class.Class.{Class}
use Rattle.hs_tree.specs.declared.constant.Part.{Part}
use Rattle.hs_tree.specs.declared.function.Function.{Function}
use Rattle.hs_tree.specs.declared.globals.Global.{Global}
use Rattle.hs_tree.specs.declared.head.VariableDecl.{VariableDecl}
use Rattle.hs_tree.specs.declared.program.Program.{Program}
use Rattle.hs_tree.specs.declared.statement.Block.{Block}
use Rattle.hs_tree.specs.declared.statement.Declaration.{Declaration}
use Rattle.hs_tree.specs.declared.statement.Initialised.{Initialised}
use Rattle.hs_tree.specs.declared.statement.Labelled.{Labelled}
use Rattle.hs_tree.specs.declared.statement.Statement.{Statement}
use Rattle.hs_tree.specs.declared.value.Lvalue.{Lvalue}
use Rattle.hs_tree.specs.declared.value.Rvalue.{Rvalue}
use Rattle.hs_classes.specs.Naming.{with_scalar, with_object, with_inside, with_global, with_value, with_place, with_access, with_optional, with_item, with_declaration, with_statement, with_block, with_function}
use Rattle.hs_classes.specs.declared.within.Within.{Within}

-- what the definitions see of a program
unfoldable pub program_in : Program → TypedProgram
program_in its = view_program its

-- of a function
unfoldable pub function_in : Function → TypedFunction
function_in its = view_function its

module _ (its : Within) where
  -- the program of what is gone through, and the function
  abbrev its_program : TypedProgram
  its_program = program_in its.program.now

  abbrev its_function : TypedFunction
  its_function = function_in its.function.now

  -- with those of an expression
  abbrev pub value_step : List Class → Rvalue → List Class
  value_step known e = with_value its_program its_function known (view_right e)

  -- of the address of an lvalue
  abbrev pub place_step : List Class → Lvalue → List Class
  place_step known object = with_place its_program its_function known (view_left object)

  -- of what a load or a store of it reaches
  abbrev pub access_step : List Class → Lvalue → List Class
  access_step known object = with_access its_program its_function known (view_left object)

  -- of an expression, if there is one
  abbrev pub optional_step : List Class → Option RightValue → List Class
  optional_step known e = with_optional its_program its_function known e

  -- of what a variable starts with
  abbrev pub item_step : List Class → Initialised → List Class
  item_step known it = with_item its_program its_function known (view_item it)

  -- of a declaration
  abbrev pub declaration_step : List Class → Declaration → List Class
  declaration_step known it = with_declaration its_program its_function known (view_declaration it)

  -- of a statement
  abbrev pub statement_step : List Class → Statement → List Class
  statement_step known it = with_statement its_program its_function known (view_statement it)

  -- with its labels
  abbrev pub labelled_step : List Class → Labelled → List Class
  labelled_step known it = statement_step known it.statement

  -- of a block
  abbrev pub block_step : List Class → Block → List Class
  block_step known it = with_block its_program its_function known (view_block it)

module _ (program : Program) where
  -- of a scalar that starts with a constant
  abbrev pub part_step : List Class → Part → List Class
  part_step known it = with_scalar (program_in program) known it.type_id it.field

  -- of a variable that is an object
  abbrev pub object_step : List Class → VariableDecl → List Class
  object_step known it = with_object (program_in program) known it

  -- of all its scalars
  abbrev pub inside_step : List Class → VariableDecl → List Class
  inside_step known it = with_inside (program_in program) known it

  -- of an object of the program
  abbrev pub global_step : List Class → Global → List Class
  global_step known it = with_global (program_in program) known it

  -- of a function
  abbrev pub function_step : List Class → Function → List Class
  function_step known it = with_function (program_in program) known (function_in it)
