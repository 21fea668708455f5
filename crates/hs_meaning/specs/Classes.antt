-- The classes of a program, in the order in which it first names them (own). What a load or a store of a pointer reaches names its class,
-- after its operands; so do the constants with which objects start, and parameters that are objects. The words that begin with `named` are
-- the classes that a part of the program names, in the order of the text.
--     class_of_type, class_of_scalar      the class of a pointer that is no field, and of a scalar inside an object
--     classes_of program                  all classes, in their order
use Rattle.indexmap.specs.IndexSet.{insert_key}
use Rattle.std.specs.Prelude.{Bool, true, false, not, ◌&&◌, List, [], ◌∷◌, ◌++◌, take, slice_get, Option, Some, None, if◌then◌else◌}
use Rattle.hs_meaning.specs.Scalars.{Scalar, scalars_of}
use Rattle.hs_tree.specs.Classes.{class_of, class_of_field, is_slot}
use Rattle.hs_tree.specs.Fitting.{declared}
use Rattle.hs_tree.specs.Kinds.{is_pointer}
use Rattle.hs_tree.specs.Representatives.{type_for}
use Rattle.hs_tree.specs.Trees as tree
use Rattle.hs_tree.specs.Trees.{RightValue, LeftValue, RightValues, Starting, TypedItem, TypedDeclaration, TypedStatement, TypedBlock, TypedStatements, TypedFunction, TypedProgram}
use Rattle.hs_tree.specs.contracts.class.ClassPartialEq.TheImpl as class_eq
use Rattle.hs_tree.specs.declared.class.Class.{Class}
use Rattle.hs_tree.specs.declared.class.Class.TheVariants as class
use Rattle.hs_tree.specs.declared.constant.Part.{Part}
use Rattle.hs_tree.specs.declared.globals.Global.{Global}
use Rattle.hs_tree.specs.declared.head.VariableDecl.{VariableDecl}
use Rattle.hs_tree.specs.declared.representatives.Representatives.{Representatives}
use Rattle.hs_types.specs.TypeTables.{TypeTable}
use Rattle.hs_types.specs.declared.row.FieldId.{FieldId}
use Rattle.hs_types.specs.declared.row.TypeId.{TypeId}

-- ---- classes of lvalues, parts and parameters

-- the class of a pointer that is no field
abbrev pub class_of_type : Representatives → TypeId → Class
class_of_type same id = class.Pointer (type_for same id)

-- of a scalar inside an object
abbrev pub class_of_scalar : Representatives → List FieldId → TypeId → Option FieldId → Class
class_of_scalar same taken id None = class_of_type same id
class_of_scalar same taken id (Some field) = class_of_field same taken id field

-- one class, if the type is one of pointers
abbrev pub class_if : Bool → Class → List Class
class_if true its = its ∷ []
class_if false its = []

-- none or one
abbrev pub listed : {A : Type 0} → Option A → List A
listed None = []
listed (Some it) = it ∷ []

-- a variable that is a slot reaches no cells
abbrev pub is_slot_declared : TypeTable → Option VariableDecl → Bool
is_slot_declared types None = false
is_slot_declared types (Some variable) = is_slot types variable

-- the lvalue is a variable that is a slot
abbrev pub in_slot : TypedProgram → TypedFunction → LeftValue → Bool
in_slot program function (tree.variable head name) = is_slot_declared program.types (declared program function name)
in_slot program function (tree.literal head place) = false
in_slot program function (tree.target head pointer) = false
in_slot program function (tree.element head size pointer_first a b) = false
in_slot program function (tree.member head field offset object) = false
in_slot program function (tree.arrow head field offset pointer) = false

-- ---- in the order of the text

module _ (program : TypedProgram) (function : TypedFunction) where
  -- the class that a load or a store of the lvalue names
  abbrev pub accessed : LeftValue → List Class
  accessed e = if in_slot program function e then [] else listed (class_of program.types program.same program.taken e)

  abbrev mutual
    -- the classes that the evaluation of an expression names
    pub named : RightValue → List Class
    named (tree.number head bits) = []
    named (tree.nil head) = []
    named (tree.load head object) = named_left object ++ accessed object
    named (tree.decay head array) = named_left array
    named (tree.address head object) = named_left object
    named (tree.cast head operand) = named operand
    named (tree.convert_number head kind operand) = named operand
    named (tree.convert_pointer head operand) = named operand
    named (tree.unary head operator kind operand) = named operand
    named (tree.not head operand) = named operand
    named (tree.arithmetic head operator kind a b) = named a ++ named b
    named (tree.comparison head operator kind a b) = named a ++ named b
    named (tree.compare_pointers head operator a b) = named a ++ named b
    named (tree.is_nil head equal pointer) = named pointer
    named (tree.step head stride pointer_first a b) = named a ++ named b
    named (tree.difference head size a b) = named a ++ named b
    named (tree.and head a b) = named a ++ named b
    named (tree.or head a b) = named a ++ named b
    named (tree.conditional head test first second) = named test ++ named first ++ named second
    named (tree.comma head lefts last) = named_all lefts ++ named last
    named (tree.assign head into from) = named_left into ++ named from ++ accessed into
    named (tree.update head operator kind to into from) = named_left into ++ named from
    named (tree.advance head stride into from) = named_left into ++ accessed into ++ named from
    named (tree.post_update head operator kind to into) = named_left into
    named (tree.post_advance head stride into) = named_left into ++ accessed into
    named (tree.call head number routine arguments) = named_all arguments
    named (tree.call_routine head number arguments) = named_all arguments

    -- of an lvalue: of its address alone
    pub named_left : LeftValue → List Class
    named_left (tree.variable head name) = []
    named_left (tree.literal head place) = []
    named_left (tree.target head pointer) = named pointer
    named_left (tree.element head size pointer_first a b) = named a ++ named b
    named_left (tree.member head field offset object) = named_left object
    named_left (tree.arrow head field offset pointer) = named pointer

    -- of a list of expressions
    pub named_all : RightValues → List Class
    named_all tree.no_values = []
    named_all (tree.more_values e rest) = named e ++ named_all rest

  -- of the expression, if there is one
  abbrev pub named_if : Option RightValue → List Class
  named_if None = []
  named_if (Some e) = named e

-- the scalars that are pointers
abbrev pub named_scalars : TypedProgram → List Scalar → List Class
named_scalars program [] = []
named_scalars program (its ∷ rest) =
    class_if (is_pointer program.types its.type_id) (class_of_scalar program.same program.taken its.type_id its.field) ++ named_scalars program rest

-- all scalars of an object that a function makes
abbrev pub named_inside : TypedProgram → Option VariableDecl → List Class
named_inside program None = []
named_inside program (Some variable) = named_scalars program (scalars_of program.types variable.type_id)

-- the scalars of an object of the program that have constants; the others are bytes that are 0
abbrev pub named_parts : TypedProgram → List Part → List Class
named_parts program [] = []
named_parts program (part ∷ parts) =
    class_if (is_pointer program.types part.type_id) (class_of_scalar program.same program.taken part.type_id part.field) ++ named_parts program parts

-- a variable that is an object
abbrev pub named_object : TypedProgram → VariableDecl → List Class
named_object program variable =
    class_if (is_pointer program.types variable.type_id && not (is_slot program.types variable)) (class_of_type program.same variable.type_id)

-- of a variable that is there
abbrev pub named_variable : TypedProgram → Option VariableDecl → List Class
named_variable program None = []
named_variable program (Some variable) = named_object program variable

-- of all of them
abbrev pub named_variables : TypedProgram → List VariableDecl → List Class
named_variables program [] = []
named_variables program (variable ∷ rest) = named_object program variable ++ named_variables program rest

module _ (program : TypedProgram) (function : TypedFunction) where
  -- of a first value
  abbrev pub named_start : Option VariableDecl → Starting → List Class
  named_start variable (tree.value e) = named program function e ++ named_variable program variable
  named_start variable (tree.parts its) = named_inside program variable

  -- of the variables of a declaration
  abbrev pub named_items : List TypedItem → List Class
  named_items [] = []
  named_items (item ∷ items) = named_start (slice_get function.variables item.variable) item.start ++ named_items items

  -- of all declarations
  abbrev pub named_declarations : List TypedDeclaration → List Class
  named_declarations [] = []
  named_declarations (it ∷ rest) = named_items it.items ++ named_declarations rest

  abbrev mutual
    -- of a statement
    pub named_in : TypedStatement → List Class
    named_in (tree.block it) = named_block it
    named_in (tree.expression at e) = named program function e
    named_in (tree.empty at) = []
    named_in (tree.if_ at test first) = named program function test ++ named_in first
    named_in (tree.if_else at test first second) = named program function test ++ named_in first ++ named_in second
    named_in (tree.while_ at test body) = named program function test ++ named_in body
    named_in (tree.do_ at body test) = named_in body ++ named program function test
    named_in (tree.for_ at first test next body) =
        named_if program function first ++ named_if program function test ++ named_in body ++ named_if program function next
    named_in (tree.switch_ at e it) = named program function e ++ named_block it
    named_in (tree.break_ at) = []
    named_in (tree.continue_ at) = []
    named_in (tree.return_ at e) = named_if program function e

    -- of a block
    pub named_block : TypedBlock → List Class
    named_block (tree.compound opening declarations list closing) = named_declarations declarations ++ named_statements list

    -- of a list of statements
    pub named_statements : TypedStatements → List Class
    named_statements tree.no_statements = []
    named_statements (tree.more_statements labels it rest) = named_in it ++ named_statements rest

-- ---- of the whole program

-- of the objects of the program
abbrev pub named_globals : TypedProgram → List Global → List Class
named_globals program [] = []
named_globals program (it ∷ rest) = (if is_slot program.types it.variable then [] else named_parts program it.parts) ++ named_globals program rest

-- of its functions
abbrev pub named_functions : TypedProgram → List TypedFunction → List Class
named_functions program [] = []
named_functions program (it ∷ rest) =
    named_variables program (take it.parameters it.variables) ++ named_block program it it.body ++ named_functions program rest

-- the same field or type
abbrev pub same_class : Class → Class → Bool
same_class = (class_eq.ghosts).eq

-- each once
abbrev pub with_classes : List Class → List Class → List Class
with_classes known [] = known
with_classes known (its ∷ rest) = with_classes (insert_key same_class known its) rest

-- objects first, then functions
abbrev pub classes_of : TypedProgram → List Class
classes_of program = with_classes [] (named_globals program program.globals ++ named_functions program program.functions)
