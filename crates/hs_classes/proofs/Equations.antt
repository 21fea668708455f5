-- Each form of a part in the words of its parts (`specs/Naming.antt`).
--     value_.., place_.., statement_..     a form of an expression, of an lvalue, of a statement
--     .._each                              the parts of a list, one after the other
--     optional_.., item_..                 an expression that may be missing, and what a variable starts with
--     function_is, classes_are             a function, and the whole program
use Rattle.std.proofs.Common.{◌≡◌, ℕ, Bool, List, [], ◌∷◌, ◌++◌, map, Option, Some, None, refl, sym, ◌∙◌, ap}
use Rattle.std.specs.List.{fold}
use Rattle.std.specs.Prelude.{slice_get, take, if◌then◌else◌}
use Rattle.std.proofs.lemmas.List.{append-nil}
use Rattle.hs_code.specs.Codes.{view_program}
use Rattle.hs_meaning.specs.Classes.{with_classes, class_if, class_of_scalar, accessed, named, named_left, named_all, named_if, named_start, named_items, named_declarations, named_in, named_block, named_statements, named_object, named_inside, named_parts, named_scalars, named_variable, named_variables, named_globals, named_functions, classes_of}
use Rattle.hs_meaning.specs.Scalars.{Scalar, scalars_of}
use Rattle.hs_tokens.specs.declared.place.Place.{Place}
use Rattle.hs_tree.specs.Classes.{is_slot}
use Rattle.hs_tree.specs.Kinds.{is_pointer}
use Rattle.hs_tree.specs.RowLaws.{rights_from, statements_from, view_labelled}
use Rattle.hs_tree.specs.Trees as tree
use Rattle.hs_tree.specs.Trees.{RightValue, LeftValue, Starting, TypedDeclaration, TypedStatement, TypedBlock, TypedFunction, TypedProgram}
use Rattle.hs_tree.specs.Views.{view_right, view_item, view_declaration, view_statement, view_function}
use Rattle.hs_tree.specs.declared.class.Class.{Class}
use Rattle.hs_tree.specs.declared.constant.Part.{Part}
use Rattle.hs_tree.specs.declared.function.Function.{Function}
use Rattle.hs_tree.specs.declared.globals.Global.{Global}
use Rattle.hs_tree.specs.declared.head.Head.{Head}
use Rattle.hs_tree.specs.declared.head.Variable.{Variable}
use Rattle.hs_tree.specs.declared.head.VariableDecl.{VariableDecl}
use Rattle.hs_tree.specs.declared.operators.Arithmetic.{Arithmetic}
use Rattle.hs_tree.specs.declared.operators.Comparison.{Comparison}
use Rattle.hs_tree.specs.declared.operators.Stride.{Stride}
use Rattle.hs_tree.specs.declared.operators.Unary.{Unary}
use Rattle.hs_tree.specs.declared.program.Program.{Program}
use Rattle.hs_tree.specs.declared.statement.Declaration.{Declaration}
use Rattle.hs_tree.specs.declared.statement.Initialised.{Initialised}
use Rattle.hs_tree.specs.declared.statement.Labelled.{Labelled}
use Rattle.hs_tree.specs.declared.value.Rvalue.{Rvalue}
use Rattle.hs_types.specs.declared.integer.Integer.{Integer}
use Rattle.hs_types.specs.declared.row.FieldId.{FieldId}
use Rattle.hs_classes.specs.Naming.{with_scalar, with_object, with_inside, with_global, with_value, with_place, with_access, with_optional, with_item, with_declaration, with_statement, with_block, with_function}
use Rattle.hs_classes.specs.Steps.{program_in, function_in, global_step, function_step}

-- ---- lists of classes

-- those of two parts
pub with_two : (xs known ys : List Class) → with_classes known (xs ++ ys) ≡ with_classes (with_classes known xs) ys
with_two [] known ys = refl
with_two (x ∷ xs) known ys = with_two xs _ ys

-- of three
pub with_three : (known xs ys zs : List Class) → with_classes known (xs ++ ys ++ zs) ≡ with_classes (with_classes (with_classes known xs) ys) zs
with_three known xs ys zs = with_two (xs ++ ys) known zs ∙ ap (λ before. with_classes before zs) (with_two xs known ys)

-- ---- objects

module _ (program : TypedProgram) where
  -- the constants of an object of the program, one after the other
  pub parts_each : (its : List Part) (known : List Class)
      → with_classes known (named_parts program its) ≡ fold (λ before it. with_scalar program before it.type_id it.field) known its
  unfolding with_scalar
  parts_each [] known = refl
  parts_each (it ∷ rest) known =
      with_two (class_if (is_pointer program.types it.type_id) (class_of_scalar program.same program.taken it.type_id it.field)) known
      (named_parts program rest)
      ∙ parts_each rest _

  -- the parameters of a function
  pub variables_each : (its : List VariableDecl) (known : List Class)
      → with_classes known (named_variables program its) ≡ fold (λ before it. with_object program before it) known its
  unfolding with_object
  variables_each [] known = refl
  variables_each (it ∷ rest) known = with_two (named_object program it) known (named_variables program rest) ∙ variables_each rest _

  -- the objects of the program
  pub globals_each : (its : List Global) (known : List Class)
      → with_classes known (named_globals program its) ≡ fold (λ before it. with_global program before it) known its
  unfolding with_global
  globals_each [] known = refl
  globals_each (it ∷ rest) known =
      with_two (if is_slot program.types it.variable then [] else named_parts program it.parts) known (named_globals program rest)
      ∙ globals_each rest _

  -- its functions
  pub functions_each : (its : List Function) (known : List Class)
      → with_classes known (named_functions program (map view_function its)) ≡ fold (λ before it. with_function program before (function_in it)) known its
  unfolding with_function function_in
  functions_each [] known = refl
  functions_each (it ∷ rest) known =
      let its = view_function it in
      with_two (named_variables program (take its.parameters its.variables) ++ named_block program its its.body) known
      (named_functions program (map view_function rest))
      ∙ functions_each rest _

  -- the scalars of an object, one after the other
  scalars_each : (its : List Scalar) (known : List Class)
      → with_classes known (named_scalars program its) ≡ fold (λ before it. with_scalar program before it.type_id it.field) known its
  unfolding with_scalar
  scalars_each [] known = refl
  scalars_each (it ∷ rest) known =
      with_two (class_if (is_pointer program.types it.type_id) (class_of_scalar program.same program.taken it.type_id it.field)) known
      (named_scalars program rest)
      ∙ scalars_each rest _

  pub inside_each : (known : List Class) (it : VariableDecl)
      → with_inside program known it
      ≡ fold (λ before scalar. with_scalar program before scalar.type_id scalar.field) known (scalars_of program.types it.type_id)
  unfolding with_inside
  inside_each known it = scalars_each (scalars_of program.types it.type_id) known

  -- a function: its parameters, and then its body
  pub function_is : (known : List Class) (it : TypedFunction)
      → with_function program known it
      ≡ with_block program it (fold (λ before variable. with_object program before variable) known (take it.parameters it.variables)) it.body
  unfolding with_function with_block
  function_is known it =
      with_two (named_variables program (take it.parameters it.variables)) known (named_block program it it.body)
      ∙ ap (λ before. with_classes before (named_block program it it.body)) (variables_each (take it.parameters it.variables) known)

module _ (program : TypedProgram) (function : TypedFunction) where
  -- ---- lists of expressions

  values_each : (its : List Rvalue) (known : List Class)
      → with_classes known (named_all program function (rights_from (map view_right its)))
      ≡ fold (λ before e. with_value program function before (view_right e)) known its
  unfolding with_value
  values_each [] known = refl
  values_each (e ∷ rest) known =
      with_two (named program function (view_right e)) known (named_all program function (rights_from (map view_right rest)))
      ∙ values_each rest _

  pub value_comma : (known : List Class) (head : Head) (lefts : List Rvalue) (last : RightValue)
      → with_value program function known (tree.comma head (rights_from (map view_right lefts)) last)
      ≡ with_value program function (fold (λ before e. with_value program function before (view_right e)) known lefts) last
  unfolding with_value
  value_comma known head lefts last =
      with_two (named_all program function (rights_from (map view_right lefts))) known (named program function last)
      ∙ ap (λ before. with_classes before (named program function last)) (values_each lefts known)

  pub value_call : (known : List Class) (head : Head) (number : ℕ) (routine : Option ℕ) (its : List Rvalue)
      → with_value program function known (tree.call head number routine (rights_from (map view_right its)))
      ≡ fold (λ before e. with_value program function before (view_right e)) known its
  unfolding with_value
  value_call known head number routine its = values_each its known

  pub value_call_routine : (known : List Class) (head : Head) (number : ℕ) (its : List Rvalue)
      → with_value program function known (tree.call_routine head number (rights_from (map view_right its)))
      ≡ fold (λ before e. with_value program function before (view_right e)) known its
  unfolding with_value
  value_call_routine known head number its = values_each its known

  -- ---- expressions

  pub value_number : (known : List Class) (head : Head) (bits : ℕ) → with_value program function known (tree.number head bits) ≡ known
  unfolding with_value
  value_number known head bits = refl

  pub value_nil : (known : List Class) (head : Head) → with_value program function known (tree.nil head) ≡ known
  unfolding with_value
  value_nil known head = refl

  pub value_load : (known : List Class) (head : Head) (object : LeftValue)
      → with_value program function known (tree.load head object)
      ≡ with_access program function (with_place program function known object) object
  unfolding with_value with_place with_access
  value_load known head object = with_two (named_left program function object) known (accessed program function object)

  pub value_decay : (known : List Class) (head : Head) (array : LeftValue)
      → with_value program function known (tree.decay head array) ≡ with_place program function known array
  unfolding with_value with_place
  value_decay known head array = refl

  pub value_address : (known : List Class) (head : Head) (object : LeftValue)
      → with_value program function known (tree.address head object) ≡ with_place program function known object
  unfolding with_value with_place
  value_address known head object = refl

  pub value_cast : (known : List Class) (head : Head) (operand : RightValue)
      → with_value program function known (tree.cast head operand) ≡ with_value program function known operand
  unfolding with_value
  value_cast known head operand = refl

  pub value_convert_number : (known : List Class) (head : Head) (kind : Integer) (operand : RightValue)
      → with_value program function known (tree.convert_number head kind operand) ≡ with_value program function known operand
  unfolding with_value
  value_convert_number known head kind operand = refl

  pub value_convert_pointer : (known : List Class) (head : Head) (operand : RightValue)
      → with_value program function known (tree.convert_pointer head operand) ≡ with_value program function known operand
  unfolding with_value
  value_convert_pointer known head operand = refl

  pub value_unary : (known : List Class) (head : Head) (operator : Unary) (kind : Integer) (operand : RightValue)
      → with_value program function known (tree.unary head operator kind operand) ≡ with_value program function known operand
  unfolding with_value
  value_unary known head operator kind operand = refl

  pub value_not : (known : List Class) (head : Head) (operand : RightValue)
      → with_value program function known (tree.not head operand) ≡ with_value program function known operand
  unfolding with_value
  value_not known head operand = refl

  pub value_arithmetic : (known : List Class) (head : Head) (operator : Arithmetic) (kind : Integer) (a b : RightValue)
      → with_value program function known (tree.arithmetic head operator kind a b)
      ≡ with_value program function (with_value program function known a) b
  unfolding with_value
  value_arithmetic known head operator kind a b = with_two (named program function a) known (named program function b)

  pub value_comparison : (known : List Class) (head : Head) (operator : Comparison) (kind : Integer) (a b : RightValue)
      → with_value program function known (tree.comparison head operator kind a b)
      ≡ with_value program function (with_value program function known a) b
  unfolding with_value
  value_comparison known head operator kind a b = with_two (named program function a) known (named program function b)

  pub value_compare_pointers : (known : List Class) (head : Head) (operator : Comparison) (a b : RightValue)
      → with_value program function known (tree.compare_pointers head operator a b)
      ≡ with_value program function (with_value program function known a) b
  unfolding with_value
  value_compare_pointers known head operator a b = with_two (named program function a) known (named program function b)

  pub value_is_nil : (known : List Class) (head : Head) (equal : Bool) (pointer : RightValue)
      → with_value program function known (tree.is_nil head equal pointer) ≡ with_value program function known pointer
  unfolding with_value
  value_is_nil known head equal pointer = refl

  pub value_stepped : (known : List Class) (head : Head) (stride : Stride) (pointer_first : Bool) (a b : RightValue)
      → with_value program function known (tree.step head stride pointer_first a b)
      ≡ with_value program function (with_value program function known a) b
  unfolding with_value
  value_stepped known head stride pointer_first a b = with_two (named program function a) known (named program function b)

  pub value_difference : (known : List Class) (head : Head) (size : ℕ) (a b : RightValue)
      → with_value program function known (tree.difference head size a b)
      ≡ with_value program function (with_value program function known a) b
  unfolding with_value
  value_difference known head size a b = with_two (named program function a) known (named program function b)

  pub value_and : (known : List Class) (head : Head) (a b : RightValue)
      → with_value program function known (tree.and head a b) ≡ with_value program function (with_value program function known a) b
  unfolding with_value
  value_and known head a b = with_two (named program function a) known (named program function b)

  pub value_or : (known : List Class) (head : Head) (a b : RightValue)
      → with_value program function known (tree.or head a b) ≡ with_value program function (with_value program function known a) b
  unfolding with_value
  value_or known head a b = with_two (named program function a) known (named program function b)

  pub value_conditional : (known : List Class) (head : Head) (test first second : RightValue)
      → with_value program function known (tree.conditional head test first second)
      ≡ with_value program function (with_value program function (with_value program function known test) first) second
  unfolding with_value
  value_conditional known head test first second = with_three known (named program function test) (named program function first) (named program function second)

  pub value_assign : (known : List Class) (head : Head) (into : LeftValue) (from : RightValue)
      → with_value program function known (tree.assign head into from)
      ≡ with_access program function (with_value program function (with_place program function known into) from) into
  unfolding with_value with_place with_access
  value_assign known head into from = with_three known (named_left program function into) (named program function from) (accessed program function into)

  pub value_update : (known : List Class) (head : Head) (operator : Arithmetic) (kind to : Integer) (into : LeftValue) (from : RightValue)
      → with_value program function known (tree.update head operator kind to into from)
      ≡ with_value program function (with_place program function known into) from
  unfolding with_value with_place
  value_update known head operator kind to into from = with_two (named_left program function into) known (named program function from)

  pub value_advance : (known : List Class) (head : Head) (stride : Stride) (into : LeftValue) (from : RightValue)
      → with_value program function known (tree.advance head stride into from)
      ≡ with_value program function (with_access program function (with_place program function known into) into) from
  unfolding with_value with_place with_access
  value_advance known head stride into from = with_three known (named_left program function into) (accessed program function into) (named program function from)

  pub value_post_update : (known : List Class) (head : Head) (operator : Arithmetic) (kind to : Integer) (into : LeftValue)
      → with_value program function known (tree.post_update head operator kind to into) ≡ with_place program function known into
  unfolding with_value with_place
  value_post_update known head operator kind to into = refl

  pub value_post_advance : (known : List Class) (head : Head) (stride : Stride) (into : LeftValue)
      → with_value program function known (tree.post_advance head stride into)
      ≡ with_access program function (with_place program function known into) into
  unfolding with_value with_place with_access
  value_post_advance known head stride into = with_two (named_left program function into) known (accessed program function into)

  -- ---- lvalues

  pub place_variable : (known : List Class) (head : Head) (name : Variable)
      → with_place program function known (tree.variable head name) ≡ known
  unfolding with_place
  place_variable known head name = refl

  pub place_literal : (known : List Class) (head : Head) (place : ℕ) → with_place program function known (tree.literal head place) ≡ known
  unfolding with_place
  place_literal known head place = refl

  pub place_target : (known : List Class) (head : Head) (pointer : RightValue)
      → with_place program function known (tree.target head pointer) ≡ with_value program function known pointer
  unfolding with_place with_value
  place_target known head pointer = refl

  pub place_element : (known : List Class) (head : Head) (size : ℕ) (pointer_first : Bool) (a b : RightValue)
      → with_place program function known (tree.element head size pointer_first a b)
      ≡ with_value program function (with_value program function known a) b
  unfolding with_place with_value
  place_element known head size pointer_first a b = with_two (named program function a) known (named program function b)

  pub place_member : (known : List Class) (head : Head) (field : FieldId) (offset : ℕ) (object : LeftValue)
      → with_place program function known (tree.member head field offset object) ≡ with_place program function known object
  unfolding with_place
  place_member known head field offset object = refl

  pub place_arrow : (known : List Class) (head : Head) (field : FieldId) (offset : ℕ) (pointer : RightValue)
      → with_place program function known (tree.arrow head field offset pointer) ≡ with_value program function known pointer
  unfolding with_place with_value
  place_arrow known head field offset pointer = refl

  -- ---- declarations

  pub optional_none : (known : List Class) → with_optional program function known None ≡ known
  unfolding with_optional
  optional_none known = refl

  pub optional_some : (known : List Class) (e : RightValue) → with_optional program function known (Some e) ≡ with_value program function known e
  unfolding with_optional with_value
  optional_some known e = refl

  module _ (known : List Class) (place : ℕ) (at : Place) where
    item_alone : (start : Starting)
        → with_item program function known (record { variable = place; at = at; start = start })
        ≡ with_classes known (named_start program function (slice_get function.variables place) start)
    unfolding with_item
    item_alone start = ap (with_classes known) (append-nil (named_start program function (slice_get function.variables place) start))

    pub item_value : (e : RightValue) (variable : VariableDecl) → slice_get function.variables place ≡ Some variable
        → with_item program function known (record { variable = place; at = at; start = tree.value e })
        ≡ with_object program (with_value program function known e) variable
    unfolding with_value with_object
    item_value e variable is =
        item_alone (tree.value e)
        ∙ with_two (named program function e) known (named_variable program (slice_get function.variables place))
        ∙ ap (λ found. with_classes (with_classes known (named program function e)) (named_variable program found)) is

    pub item_missing : (e : RightValue) → slice_get function.variables place ≡ None
        → with_item program function known (record { variable = place; at = at; start = tree.value e }) ≡ with_value program function known e
    unfolding with_value
    item_missing e is =
        item_alone (tree.value e)
        ∙ with_two (named program function e) known (named_variable program (slice_get function.variables place))
        ∙ ap (λ found. with_classes (with_classes known (named program function e)) (named_variable program found)) is

    pub item_parts : (its : List Part) (variable : VariableDecl) → slice_get function.variables place ≡ Some variable
        → with_item program function known (record { variable = place; at = at; start = tree.parts its }) ≡ with_inside program known variable
    unfolding with_inside
    item_parts its variable is = item_alone (tree.parts its) ∙ ap (λ found. with_classes known (named_inside program found)) is

    pub item_nothing : (its : List Part) → slice_get function.variables place ≡ None
        → with_item program function known (record { variable = place; at = at; start = tree.parts its }) ≡ known
    item_nothing its is = item_alone (tree.parts its) ∙ ap (λ found. with_classes known (named_inside program found)) is

  items_each : (its : List Initialised) (known : List Class)
      → with_classes known (named_items program function (map view_item its))
      ≡ fold (λ before it. with_item program function before (view_item it)) known its
  unfolding with_item
  items_each [] known = refl
  items_each (it ∷ rest) known =
      let first = named_start program function (slice_get function.variables it.variable) (view_item it).start in
      with_two first known (named_items program function (map view_item rest))
      ∙ ap (λ its. with_classes (with_classes known its) (named_items program function (map view_item rest))) (sym (append-nil first))
      ∙ items_each rest _

  -- its variables, one after the other
  pub declaration_each : (it : Declaration) (known : List Class)
      → with_declaration program function known (view_declaration it)
      ≡ fold (λ before it. with_item program function before (view_item it)) known it.items.items
  unfolding with_declaration
  declaration_each it known = items_each it.items.items known

  declarations_each : (its : List Declaration) (known : List Class)
      → with_classes known (named_declarations program function (map view_declaration its))
      ≡ fold (λ before it. with_declaration program function before (view_declaration it)) known its
  unfolding with_declaration
  declarations_each [] known = refl
  declarations_each (it ∷ rest) known =
      with_two (named_items program function (view_declaration it).items) known (named_declarations program function (map view_declaration rest))
      ∙ declarations_each rest _

  -- ---- statements

  pub statement_block : (known : List Class) (it : TypedBlock)
      → with_statement program function known (tree.block it) ≡ with_block program function known it
  unfolding with_statement with_block
  statement_block known it = refl

  pub statement_expression : (known : List Class) (at : Place) (e : RightValue)
      → with_statement program function known (tree.expression at e) ≡ with_value program function known e
  unfolding with_statement with_value
  statement_expression known at e = refl

  pub statement_empty : (known : List Class) (at : Place) → with_statement program function known (tree.empty at) ≡ known
  unfolding with_statement
  statement_empty known at = refl

  pub statement_if : (known : List Class) (at : Place) (test : RightValue) (first : TypedStatement)
      → with_statement program function known (tree.if_ at test first)
      ≡ with_statement program function (with_value program function known test) first
  unfolding with_statement with_value
  statement_if known at test first = with_two (named program function test) known (named_in program function first)

  pub statement_if_else : (known : List Class) (at : Place) (test : RightValue) (first second : TypedStatement)
      → with_statement program function known (tree.if_else at test first second)
      ≡ with_statement program function (with_statement program function (with_value program function known test) first) second
  unfolding with_statement with_value
  statement_if_else known at test first second =
      with_three known (named program function test) (named_in program function first) (named_in program function second)

  pub statement_while : (known : List Class) (at : Place) (test : RightValue) (body : TypedStatement)
      → with_statement program function known (tree.while_ at test body)
      ≡ with_statement program function (with_value program function known test) body
  unfolding with_statement with_value
  statement_while known at test body = with_two (named program function test) known (named_in program function body)

  pub statement_do : (known : List Class) (at : Place) (body : TypedStatement) (test : RightValue)
      → with_statement program function known (tree.do_ at body test)
      ≡ with_value program function (with_statement program function known body) test
  unfolding with_statement with_value
  statement_do known at body test = with_two (named_in program function body) known (named program function test)

  pub statement_for : (known : List Class) (at : Place) (first test next : Option RightValue) (body : TypedStatement)
      → with_statement program function known (tree.for_ at first test next body)
      ≡ with_optional program function
      (with_statement program function (with_optional program function (with_optional program function known first) test) body) next
  unfolding with_statement with_optional
  statement_for known at first test next body =
      let begun = named_if program function first in
      let tested = named_if program function test in
      let inside = named_in program function body in
      let ended = named_if program function next in
      with_two (begun ++ tested ++ inside) known ended ∙ ap (λ before. with_classes before ended) (with_three known begun tested inside)

  pub statement_switch : (known : List Class) (at : Place) (e : RightValue) (it : TypedBlock)
      → with_statement program function known (tree.switch_ at e it) ≡ with_block program function (with_value program function known e) it
  unfolding with_statement with_value with_block
  statement_switch known at e it = with_two (named program function e) known (named_block program function it)

  pub statement_break : (known : List Class) (at : Place) → with_statement program function known (tree.break_ at) ≡ known
  unfolding with_statement
  statement_break known at = refl

  pub statement_continue : (known : List Class) (at : Place) → with_statement program function known (tree.continue_ at) ≡ known
  unfolding with_statement
  statement_continue known at = refl

  pub statement_return : (known : List Class) (at : Place) (e : Option RightValue)
      → with_statement program function known (tree.return_ at e) ≡ with_optional program function known e
  unfolding with_statement with_optional
  statement_return known at e = refl

  statements_each : (its : List Labelled) (known : List Class)
      → with_classes known (named_statements program function (statements_from (map view_labelled its)))
      ≡ fold (λ before it. with_statement program function before (view_statement it.statement)) known its
  unfolding with_statement
  statements_each [] known = refl
  statements_each (it ∷ rest) known =
      with_two (named_in program function (view_statement it.statement)) known (named_statements program function (statements_from (map view_labelled rest)))
      ∙ statements_each rest _

  -- a block: its declarations, and then its statements
  pub block_each : (known : List Class) (opening closing : Place) (declarations : List Declaration) (its : List Labelled)
      → with_block program function known (tree.compound opening (map view_declaration declarations) (statements_from (map view_labelled its)) closing)
      ≡ fold (λ before it. with_statement program function before (view_statement it.statement))
      (fold (λ before it. with_declaration program function before (view_declaration it)) known declarations) its
  unfolding with_block
  block_each known opening closing declarations its =
      with_two (named_declarations program function (map view_declaration declarations)) known
      (named_statements program function (statements_from (map view_labelled its)))
      ∙ ap (λ before. with_classes before (named_statements program function (statements_from (map view_labelled its)))) (declarations_each declarations known)
      ∙ statements_each its _

-- the whole program: its objects, and then its functions
pub classes_are : (its : Program)
    → classes_of (view_program its) ≡ fold (function_step its) (fold (global_step its) [] its.globals) its.functions.items
unfolding program_in
classes_are its =
    let program = program_in its in
    with_two (named_globals program its.globals) [] (named_functions program (map view_function its.functions.items))
    ∙ ap (λ before. with_classes before (named_functions program (map view_function its.functions.items))) (globals_each program its.globals [])
    ∙ functions_each program its.functions.items _

-- all of them, for the functions that take these steps
pub ruleset value_equations = (
  value_number,
  value_nil,
  value_load,
  value_decay,
  value_address,
  value_cast,
  value_convert_number,
  value_convert_pointer,
  value_unary,
  value_not,
  value_arithmetic,
  value_comparison,
  value_compare_pointers,
  value_is_nil,
  value_stepped,
  value_difference,
  value_and,
  value_or,
  value_conditional,
  value_assign,
  value_update,
  value_advance,
  value_post_update,
  value_post_advance,
)

pub ruleset place_equations = (
  place_variable,
  place_literal,
  place_target,
  place_element,
  place_member,
  place_arrow,
)

pub ruleset statement_equations = (
  statement_block,
  statement_expression,
  statement_empty,
  statement_if,
  statement_if_else,
  statement_while,
  statement_do,
  statement_for,
  statement_switch,
  statement_break,
  statement_continue,
  statement_return,
)

pub ruleset optional_equations = (optional_none, optional_some)

pub ruleset item_equations = (item_value, item_missing, item_parts, item_nothing)
