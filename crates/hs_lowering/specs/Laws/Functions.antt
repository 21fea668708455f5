-- What the operations of the code of a typed program name is there (own).
--     starts_there       the first values of a block have their classes and the objects of their constants
--     code_names         the law
use Rattle.std.proofs.Common.{◌≡◌, Bool, true, false, not, ◌&&◌, List, [], ◌∷◌, ◌++◌, take, slice_get, Option, Some, None}
use Rattle.std.specs.List.{AllByRecursion}
use Rattle.hs_lowering.specs.Laws.Bodies.{ConstantThere, PartThere, ScalarThere, MemoryThere, ConstantsThere, StartThere, StartsThere, PhraseNames, function_named}
use Rattle.hs_lowering.specs.Laws.Fitting.{block_both}
use Rattle.hs_lowering.specs.Laws.Listing.{AllAmong, placed_in, all_front, all_back, listed_all, front, back}
use Rattle.hs_lowering.specs.Laws.Named.{names_fit}
use Rattle.hs_lowering.specs.Laws.Ranges.{ClassIn, NamesFit, AllThere}
use Rattle.hs_lowering.specs.Lowering.{access_in}
use Rattle.hs_lowering.specs.Statements.{function_code}
use Rattle.hs_meaning.specs.Classes.{same_class, classes_of, class_if, class_of_type, class_of_scalar, is_slot_declared, named, named_if, named_variable, named_scalars, named_start, named_items, named_declarations, named_in, named_block, named_statements, named_variables, named_functions, named_globals}
use Rattle.hs_meaning.specs.Scalars.{Scalar, scalars_of}
use Rattle.hs_meaning.specs.Settings.{setting_of, access_by}
use Rattle.hs_tree.specs.Classes.{is_slot}
use Rattle.hs_tree.specs.Fitting.{Fits, FitsPhrase, FitsItem, FitsVariable}
use Rattle.hs_tree.specs.Inside.{Phrase, of_declaration, EachRight, EachStatement, EachBlock, EachOfStatements, EachExpression}
use Rattle.hs_tree.specs.Kinds.{number_kind, is_pointer}
use Rattle.hs_tree.specs.Objects.{FitsPart, FitsStart, IsConstant}
use Rattle.hs_tree.specs.Trees as tree
use Rattle.hs_tree.specs.Trees.{Starting, TypedItem, TypedDeclaration, TypedStatement, TypedBlock, TypedStatements, TypedFunction, TypedProgram}
use Rattle.hs_tree.specs.declared.class.Class.{Class}
use Rattle.hs_tree.specs.declared.constant.Constant.{Constant}
use Rattle.hs_tree.specs.declared.constant.Constant.TheVariants as constant
use Rattle.hs_tree.specs.declared.constant.Part as constant_part
use Rattle.hs_tree.specs.declared.head.VariableDecl.{VariableDecl}
use Rattle.hs_types.specs.declared.integer.Integer.{Integer}
use Rattle.hs_types.specs.declared.row.TypeId.{TypeId}

module _ (program : TypedProgram) where
  -- those of the program
  abbrev classes : List Class
  classes = classes_of program

  -- ---- constants

  constant_fits : (id : TypeId) (its : Constant) → IsConstant program id its → ConstantThere program classes its
  constant_fits id (constant.Number bits) is = tt
  constant_fits id constant.Nil is = tt
  constant_fits id (constant.Address its offset) is = is.1

  parts_fit : (id : TypeId) (its : List constant_part.Part) → AllByRecursion (FitsPart program id) its → AllByRecursion (PartThere program classes) its
  parts_fit id [] is = tt
  parts_fit id (part ∷ parts) is = (constant_fits part.type_id part.value is.0.1, parts_fit id parts is.1)

  constants_fit : (id : TypeId) (its : Starting) → FitsStart program id its → ConstantsThere program classes its
  constants_fit id (tree.value e) is = tt
  constants_fit id (tree.parts its) is = parts_fit id its is.0

  -- ---- classes

  -- of a scalar
  scalar_class : (id : TypeId) (its : Class) (kind : Option Integer) (b : Bool) → AllAmong classes (class_if b its)
      → ClassIn classes (access_in (access_by (setting_of program) id its kind b))
  scalar_class id its (Some kind) b is = tt
  scalar_class id its None true is = placed_in (same_class its) classes is.0
  scalar_class id its None false is = tt

  -- of a variable that is no slot
  object_class : (id : TypeId) (its : Class) (kind : Option Integer) (b slot : Bool) → slot ≡ false → AllAmong classes (class_if (b && not slot) its)
      → ClassIn classes (access_in (access_by (setting_of program) id its kind b))
  object_class id its (Some kind) b slot no_ is = tt
  object_class id its None true true no_ is = absurd cc
  object_class id its None true false no_ is = placed_in (same_class its) classes is.0
  object_class id its None false slot no_ is = tt

  scalars_there : (its : List Scalar) → AllAmong classes (named_scalars program its) → AllByRecursion (ScalarThere program classes) its
  scalars_there [] is = tt
  scalars_there (one ∷ rest) is = (
    scalar_class one.type_id (class_of_scalar program.same program.taken one.type_id one.field) (number_kind program.types one.type_id)
        (is_pointer program.types one.type_id)
        (all_front classes (class_if (is_pointer program.types one.type_id) (class_of_scalar program.same program.taken one.type_id one.field))
        (named_scalars program rest) is),
    scalars_there rest
        (all_back classes (class_if (is_pointer program.types one.type_id) (class_of_scalar program.same program.taken one.type_id one.field))
        (named_scalars program rest) is),
  )

  module _ (function : TypedFunction) where
    memory_there : (its : VariableDecl) (start : Starting) → AllAmong classes (named_start program function (Some its) start)
        → is_slot_declared program.types (Some its) ≡ false → MemoryThere program classes its start
    memory_there its (tree.value e) is no_ =
        object_class its.type_id (class_of_type program.same its.type_id) (number_kind program.types its.type_id) (is_pointer program.types its.type_id)
        (is_slot program.types its) no_ (all_back classes (named program function e) (named_variable program (Some its)) is)
    memory_there its (tree.parts parts) is no_ = scalars_there (scalars_of program.types its.type_id) is

    start_there : (its : Option VariableDecl) (start : Starting) → FitsVariable program its start
        → AllAmong classes (named_start program function its start) → StartThere program classes its start
    start_there None start fits is = absurd fits
    start_there (Some its) start fits is = (constants_fit its.type_id start fits, memory_there its start is)

    items_there : (its : List TypedItem) → AllByRecursion (FitsItem program function) its → AllAmong classes (named_items program function its)
        → AllByRecursion (λ (item : TypedItem). StartThere program classes (slice_get function.variables item.variable) item.start) its
    items_there [] fits is = tt
    items_there (item ∷ items) fits is = (
      start_there (slice_get function.variables item.variable) item.start fits.0
          (all_front classes (named_start program function (slice_get function.variables item.variable) item.start) (named_items program function items) is),
      items_there items fits.1
          (all_back classes (named_start program function (slice_get function.variables item.variable) item.start) (named_items program function items) is),
    )

    -- ---- statements

    -- what the program keeps of a statement or declaration
    abbrev FitsHere : Phrase → Type 0
    FitsHere it = FitsPhrase program function it

    -- that its first values name what is there
    abbrev There : Phrase → Type 0
    There it = StartsThere program classes function it

    -- the classes that it names
    abbrev named_there : TypedStatement → List Class
    named_there it = named_in program function it

    declarations_there : (its : List TypedDeclaration) → AllByRecursion (λ it. FitsHere (of_declaration it)) its
        → AllAmong classes (named_declarations program function its) → AllByRecursion (λ it. There (of_declaration it)) its
    declarations_there [] fits is = tt
    declarations_there (it ∷ rest) fits is = (
      items_there it.items fits.0 (front program function (named_items program function it.items) (named_declarations program function rest) is),
      declarations_there rest fits.1 (back program function (named_items program function it.items) (named_declarations program function rest) is),
    )

    mutual
      statement_there : (it : TypedStatement) → EachStatement FitsHere it → AllAmong classes (named_there it) → EachStatement There it
      statement_there (tree.block it) fits is = starts_there it fits is
      statement_there (tree.expression at e) fits is = tt
      statement_there (tree.empty at) fits is = tt
      statement_there (tree.if_ at test first) fits is =
          (tt, statement_there first fits.1 (back program function (named program function test) (named_there first) is))
      statement_there (tree.if_else at test first second) fits is = (
        tt,
        statement_there first fits.1
            (back program function (named program function test) (named_there first)
            (front program function (named program function test ++ named_there first) (named_there second) is)),
        statement_there second fits.2 (back program function (named program function test ++ named_there first) (named_there second) is),
      )
      statement_there (tree.while_ at test body) fits is =
          (tt, statement_there body fits.1 (back program function (named program function test) (named_there body) is))
      statement_there (tree.do_ at body test) fits is =
          (tt, statement_there body fits.1 (front program function (named_there body) (named program function test) is))
      statement_there (tree.for_ at first test next body) fits is = (
        tt,
        statement_there body fits.1 (back program function (named_if program function first ++ named_if program function test) (named_there body)
            (front program function (named_if program function first ++ named_if program function test ++ named_there body)
            (named_if program function next) is)),
      )
      statement_there (tree.switch_ at e it) fits is =
          (tt, starts_there it fits.1 (back program function (named program function e) (named_block program function it) is))
      statement_there (tree.break_ at) fits is = tt
      statement_there (tree.continue_ at) fits is = tt
      statement_there (tree.return_ at e) fits is = tt

      pub starts_there : (it : TypedBlock) → EachBlock FitsHere it → AllAmong classes (named_block program function it) → EachBlock There it
      starts_there (tree.compound opening declarations list closing) fits is = (
        declarations_there declarations fits.0
            (front program function (named_declarations program function declarations) (named_statements program function list) is),
        list_there list fits.1 (back program function (named_declarations program function declarations) (named_statements program function list) is),
      )

      list_there : (its : TypedStatements) → EachOfStatements FitsHere its → AllAmong classes (named_statements program function its)
          → EachOfStatements There its
      list_there tree.no_statements fits is = tt
      list_there (tree.more_statements labels it rest) fits is = (
        statement_there it fits.0 (front program function (named_there it) (named_statements program function rest) is),
        list_there rest fits.1 (back program function (named_there it) (named_statements program function rest) is),
      )

  -- ---- functions

  -- of the code of a function
  abbrev pub FunctionNames : TypedFunction → Type 0
  FunctionNames function = AllThere program classes function (function_code (setting_of program) function).ops

  functions_name : (its : List TypedFunction)
      → AllByRecursion (λ function. EachBlock (EachExpression (EachRight (NamesFit program classes function))) function.body) its
      → AllByRecursion (λ function. EachBlock (FitsPhrase program function) function.body) its → AllAmong classes (named_functions program its)
      → AllByRecursion FunctionNames its
  functions_name [] names fits is = tt
  functions_name (function ∷ rest) names fits is = (
    function_named program classes function
        (block_both (EachExpression (EachRight (NamesFit program classes function))) (StartsThere program classes function)
        (PhraseNames program classes function)
        (λ phrase one other. (one, other)) function.body names.0
        (starts_there function function.body fits.0
        (all_back classes (named_variables program (take function.parameters function.variables)) (named_block program function function.body)
        (all_front classes (named_variables program (take function.parameters function.variables) ++ named_block program function function.body)
        (named_functions program rest) is)))),
    functions_name rest names.1 fits.1
        (all_back classes (named_variables program (take function.parameters function.variables) ++ named_block program function function.body)
        (named_functions program rest) is),
  )

  -- by what the program keeps
  pub code_names : Fits program → AllByRecursion FunctionNames program.functions
  code_names fits =
      functions_name program.functions (names_fit program fits) fits.statements
      (all_back classes (named_globals program program.globals) (named_functions program program.functions)
      (listed_all [] (named_globals program program.globals ++ named_functions program program.functions)))
