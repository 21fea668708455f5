-- The known classes, with those that a part of a program names (own). No word unfolds, so that a walk over a part is a few words, and each
-- form of a part is one equation of `proofs/Equations.antt`.
--     with_value, with_place      with those of an expression, and of the address of an lvalue
--     with_access                 with that of what a load or a store of an lvalue reaches
--     with_item, with_declaration, with_statement, with_block
--     with_scalar                 with that of a scalar, if it is a pointer
--     with_object, with_inside    with that of a variable that is an object, and with those of all its scalars
--     with_global, with_function  with those of an object of the program, and of a function
use Rattle.std.specs.Prelude.{List, [], ◌∷◌, ◌++◌, take, Option, Some, if◌then◌else◌}
use Rattle.hs_meaning.specs.Classes.{with_classes, class_if, class_of_scalar, accessed, named, named_left, named_if, named_items, named_in, named_block, named_object, named_inside, named_parts, named_variables}
use Rattle.hs_tree.specs.Classes.{is_slot}
use Rattle.hs_tree.specs.Kinds.{is_pointer}
use Rattle.hs_tree.specs.Trees.{RightValue, LeftValue, TypedItem, TypedDeclaration, TypedStatement, TypedBlock, TypedFunction, TypedProgram}
use Rattle.hs_tree.specs.declared.class.Class.{Class}
use Rattle.hs_tree.specs.declared.globals.Global.{Global}
use Rattle.hs_tree.specs.declared.head.VariableDecl.{VariableDecl}
use Rattle.hs_types.specs.declared.row.FieldId.{FieldId}
use Rattle.hs_types.specs.declared.row.TypeId.{TypeId}

module _ (program : TypedProgram) where
  -- ---- objects

  -- with that of a scalar, if it is a pointer
  unfoldable pub with_scalar : List Class → TypeId → Option FieldId → List Class
  with_scalar known id field = with_classes known (class_if (is_pointer program.types id) (class_of_scalar program.same program.taken id field))

  -- with that of a variable, if it is an object
  unfoldable pub with_object : List Class → VariableDecl → List Class
  with_object known variable = with_classes known (named_object program variable)

  -- with those of all scalars of an object
  unfoldable pub with_inside : List Class → VariableDecl → List Class
  with_inside known variable = with_classes known (named_inside program (Some variable))

  -- with those of an object of the program
  unfoldable pub with_global : List Class → Global → List Class
  with_global known it = with_classes known (if is_slot program.types it.variable then [] else named_parts program it.parts)

  module _ (function : TypedFunction) where
    -- ---- expressions

    -- with those of an expression
    unfoldable pub with_value : List Class → RightValue → List Class
    with_value known e = with_classes known (named program function e)

    -- with those of the address of an lvalue
    unfoldable pub with_place : List Class → LeftValue → List Class
    with_place known object = with_classes known (named_left program function object)

    -- with that of what a load or a store of it reaches
    unfoldable pub with_access : List Class → LeftValue → List Class
    with_access known object = with_classes known (accessed program function object)

    -- with those of an expression, if there is one
    unfoldable pub with_optional : List Class → Option RightValue → List Class
    with_optional known e = with_classes known (named_if program function e)

    -- ---- statements

    -- with those of what a variable starts with
    unfoldable pub with_item : List Class → TypedItem → List Class
    with_item known it = with_classes known (named_items program function (it ∷ []))

    -- with those of a declaration
    unfoldable pub with_declaration : List Class → TypedDeclaration → List Class
    with_declaration known it = with_classes known (named_items program function it.items)

    -- with those of a statement
    unfoldable pub with_statement : List Class → TypedStatement → List Class
    with_statement known it = with_classes known (named_in program function it)

    -- with those of a block
    unfoldable pub with_block : List Class → TypedBlock → List Class
    with_block known it = with_classes known (named_block program function it)

  -- with those of a function: its parameters first
  unfoldable pub with_function : List Class → TypedFunction → List Class
  with_function known it = with_classes known (named_variables program (take it.parameters it.variables) ++ named_block program it it.body)
