-- What a typed program keeps, apart from its shape: `Fits`, one fact a line. The facts of one expression go by its form. An
-- expression is `right` or `left` (`Inside.antt`), and stands in a function, whose variables it names.
--     InRange, HasOperands, HasResult, NamesField     facts of one expression
--     FitsFunction, FitsRoutine, IsMarked             facts of one call, and of one address that is taken
--     FitsPhrase, may_stand                           facts of one statement or declaration, and where statements may stand
--     HasRole, FitsDefinition, IsMain                 facts of routines and functions
--     EachNode program holds, EachPhrase              a fact of each expression, and of each statement and declaration
use Rattle.std.specs.Prelude.{◌≡◌, ◌≤◌, ◌<◌, ℕ, Bool, true, false, List, [], ◌∷◌, length, take, slice_get, Option, Some, None, IsTrue, is_some, codes, not, ◌&&◌, ◌||◌}
use Rattle.std.specs.List.{AllByRecursion}
use Rattle.hs_table.specs.declared.routine.Routine.{Routine}
use Rattle.hs_tree.specs.Classes.{is_taken_anywhere}
use Rattle.hs_tree.specs.Kinds.{AreAlike, number_kind, pointed, element, array_length, is_number, is_void, is_readable, IsNumber, IsAnyNumber, IsPointer, IsPointerTo, IsStruct, IsScalar, IsReadable, IsPointerToSize}
use Rattle.hs_tree.specs.Roles.{FitsRole}
use Rattle.hs_tree.specs.Sameness.{AreOne}
use Rattle.hs_tree.specs.Trees as tree
use Rattle.hs_tree.specs.Trees.{RightValue, LeftValue, RightValues, Starting, TypedItem, TypedDeclaration, TypedStatement, TypedBlock, TypedStatements, TypedFunction, TypedProgram, type_of, type_of_left}
use Rattle.hs_tree.specs.declared.function.BoundRoutine.{BoundRoutine}
use Rattle.hs_tree.specs.declared.function.Prototype.{Prototype}
use Rattle.hs_tree.specs.declared.globals.Global.{Global}
use Rattle.hs_tree.specs.declared.head.Variable.{Variable}
use Rattle.hs_tree.specs.declared.head.Variable.TheVariants as name
use Rattle.hs_tree.specs.declared.head.VariableDecl.{VariableDecl}
use Rattle.hs_tree.specs.declared.operators.Arithmetic.{Arithmetic}
use Rattle.hs_tree.specs.declared.operators.Arithmetic.TheVariants as operator
use Rattle.hs_tree.specs.declared.representatives.Representatives.{Representatives}
use Rattle.hs_tree.specs.declared.statement.Label.{Label}
use Rattle.hs_types.specs.Integers.{promoted}
use Rattle.hs_types.specs.Rows.{integer_id}
use Rattle.hs_types.specs.TypeTables.{TypeTable, row_of, is_complete}
use Rattle.hs_types.specs.declared.integer.Integer.{Integer}
use Rattle.hs_types.specs.declared.integer.Integer.TheVariants as kind
use Rattle.hs_types.specs.declared.row.FieldId.{FieldId}
use Rattle.hs_types.specs.declared.row.Row.{Row}
use Rattle.hs_types.specs.declared.row.Row.TheVariants as row
use Rattle.hs_types.specs.declared.row.TypeId.{TypeId}
use Rattle.hs_tree.specs.Inside.{Node, right, left, Phrase, of_statement, of_declaration, EachRight, EachBlock, EachExpression, IfAny}
use Rattle.hs_tree.specs.Objects.{IsField, number_in, FitsStart, FitsGlobal}
use Rattle.std.proofs.Common.{suc, refl, ap}

-- the variable of an object of static storage duration
abbrev pub variable_of_global : Option Global → Option VariableDecl
variable_of_global None = None
variable_of_global (Some it) = Some it.variable

-- a global by its place in the program, a local by its place in the function
abbrev pub declared : TypedProgram → TypedFunction → Variable → Option VariableDecl
declared program function (name.Global place) = variable_of_global (slice_get program.globals place)
declared program function (name.Local place) = slice_get function.variables place

-- Each variable, literal, function and routine that is named is there.
abbrev pub InRange : TypedProgram → TypedFunction → Node → Type 0
InRange program function (left (tree.variable head variable)) = IsTrue (is_some (declared program function variable))
InRange program function (left (tree.literal head place)) = place < length program.literals
InRange program function (right (tree.call head number None arguments)) = number < length program.functions
InRange program function (right (tree.call head number (Some routine) arguments)) =
    (number < length program.functions) × (routine < length program.routines)
InRange program function (right (tree.call_routine head routine arguments)) = routine < length program.routines
InRange program function _ = Unit {0}

-- the right operand of a shift may be of another type than the left one (3.3.7)
abbrev pub IsSecondOperand : TypeTable → Arithmetic → Integer → TypeId → Type 0
IsSecondOperand types operator.ShiftLeft kind id = IsAnyNumber types id
IsSecondOperand types operator.ShiftRight kind id = IsAnyNumber types id
IsSecondOperand types operator.Multiply kind id = IsNumber types kind id
IsSecondOperand types operator.Divide kind id = IsNumber types kind id
IsSecondOperand types operator.Remainder kind id = IsNumber types kind id
IsSecondOperand types operator.Add kind id = IsNumber types kind id
IsSecondOperand types operator.Subtract kind id = IsNumber types kind id
IsSecondOperand types operator.BitAnd kind id = IsNumber types kind id
IsSecondOperand types operator.BitXor kind id = IsNumber types kind id
IsSecondOperand types operator.BitOr kind id = IsNumber types kind id

-- a pointer to objects of that size, and a number, in this order or the other way round
abbrev pub AreSteps : TypeTable → Bool → ℕ → TypeId → TypeId → Type 0
AreSteps types true size first second = IsPointerToSize types size first × IsAnyNumber types second
AreSteps types false size first second = IsAnyNumber types first × IsPointerToSize types size second

-- the type to which a pointer points
abbrev pub struct_at : TypeTable → Option TypeId → Option Row
struct_at types None = None
struct_at types (Some of) = row_of types of

-- each argument of a call is a value that can be read (3.3.2.2)
abbrev pub AreReadable : TypeTable → RightValues → Type 0
AreReadable types tree.no_values = Unit {0}
AreReadable types (tree.more_values e rest) = IsReadable types (type_of e) × AreReadable types rest

-- Each operand has the type that its operator asks for.
abbrev pub HasOperands : TypeTable → Node → Type 0
HasOperands types (right (tree.number head bits)) = Unit {0}
HasOperands types (right (tree.nil head)) = Unit {0}
HasOperands types (right (tree.load head object)) = IsReadable types (type_of_left object)
HasOperands types (right (tree.decay head array)) = IsTrue (is_some (element types (type_of_left array)))
HasOperands types (right (tree.address head object)) = Unit {0}
HasOperands types (right (tree.cast head operand)) = is_void types head.type_id ≡ false → IsScalar types (type_of operand)
HasOperands types (right (tree.convert_number head kind operand)) = IsAnyNumber types (type_of operand)
HasOperands types (right (tree.convert_pointer head operand)) = IsPointer types (type_of operand)
HasOperands types (right (tree.unary head operator kind operand)) = IsNumber types kind (type_of operand)
HasOperands types (right (tree.not head operand)) = IsAnyNumber types (type_of operand)
HasOperands types (right (tree.arithmetic head operator kind a b)) =
    IsNumber types kind (type_of a) × IsSecondOperand types operator kind (type_of b)
HasOperands types (right (tree.comparison head operator kind a b)) = IsNumber types kind (type_of a) × IsNumber types kind (type_of b)
HasOperands types (right (tree.compare_pointers head operator a b)) = IsPointer types (type_of a) × IsPointer types (type_of b)
HasOperands types (right (tree.is_nil head equal pointer)) = IsPointer types (type_of pointer)
HasOperands types (right (tree.step head stride pointer_first a b)) =
    AreSteps types pointer_first stride.size (type_of a) (type_of b) × IsTrue (pointer_first || not stride.backward)
HasOperands types (right (tree.difference head size a b)) = IsPointerToSize types size (type_of a) × IsPointerToSize types size (type_of b)
HasOperands types (right (tree.and head a b)) = IsAnyNumber types (type_of a) × IsAnyNumber types (type_of b)
HasOperands types (right (tree.or head a b)) = IsAnyNumber types (type_of a) × IsAnyNumber types (type_of b)
HasOperands types (right (tree.conditional head test then otherwise)) = IsAnyNumber types (type_of test)
HasOperands types (right (tree.comma head lefts last)) = Unit {0}
HasOperands types (right (tree.assign head into from)) = IsReadable types (type_of_left into) × (type_of from ≡ type_of_left into)
HasOperands types (right (tree.update head operator kind to into from)) =
    IsNumber types to (type_of_left into) × IsSecondOperand types operator kind (type_of from)
HasOperands types (right (tree.advance head stride into from)) =
    IsPointerToSize types stride.size (type_of_left into) × IsAnyNumber types (type_of from)
HasOperands types (right (tree.post_update head operator kind to into)) = IsNumber types to (type_of_left into)
HasOperands types (right (tree.post_advance head stride into)) = IsPointerToSize types stride.size (type_of_left into)
HasOperands types (right (tree.call head number routine arguments)) = AreReadable types arguments
HasOperands types (right (tree.call_routine head routine arguments)) = AreReadable types arguments
HasOperands types (left (tree.variable head variable)) = Unit {0}
HasOperands types (left (tree.literal head place)) = Unit {0}
HasOperands types (left (tree.target head pointer)) = IsPointer types (type_of pointer)
HasOperands types (left (tree.element head size pointer_first a b)) = AreSteps types pointer_first size (type_of a) (type_of b)
HasOperands types (left (tree.member head field offset object)) = IsStruct types field.of (type_of_left object)
HasOperands types (left (tree.arrow head field offset pointer)) = struct_at types (pointed types (type_of pointer)) ≡ Some (row.Struct field.of)

-- what the pointer of a step points to
abbrev pub IsStepTarget : TypeTable → Bool → TypeId → TypeId → TypeId → Type 0
IsStepTarget types true first second of = IsPointerTo types of first
IsStepTarget types false first second of = IsPointerTo types of second

-- the type of the pointer of a step
abbrev pub stepping : Bool → TypeId → TypeId → TypeId
stepping true first second = first
stepping false first second = second

-- an object of static storage duration that is there, of a type like that one
abbrev pub IsObjectOf : TypeTable → Option Global → TypeId → Type 0
IsObjectOf types None id = ⊥
IsObjectOf types (Some it) id = AreAlike types it.variable.type_id id

-- An automatic variable that is there, of that type. In its own initialiser an array may still be of unknown length (3.5.7).
abbrev pub IsVariableOf : Representatives → TypeTable → Option VariableDecl → TypeId → Type 0
IsVariableOf same types None id = ⊥
IsVariableOf same types (Some it) id = AreOne same types it.type_id id × (is_complete types id ≡ true → it.type_id ≡ id)

-- The type that a name has where it stands: that of the variable, or one like that of the object, which may have other declarations.
abbrev pub IsOfType : TypedProgram → TypedFunction → Variable → TypeId → Type 0
IsOfType program function (name.Global place) id = IsObjectOf program.types (slice_get program.globals place) id
IsOfType program function (name.Local place) id = IsVariableOf program.same program.types (slice_get function.variables place) id

-- how many bytes a literal has
abbrev pub size_of_bytes : Option (List ℕ) → Option ℕ
size_of_bytes None = None
size_of_bytes (Some bytes) = Some (length bytes)

-- an array of characters with the bytes of the literal (3.1.4)
abbrev pub IsLiteral : TypedProgram → ℕ → TypeId → Type 0
IsLiteral program place id =
    (element program.types id ≡ Some (integer_id kind.Char))
    × (size_of_bytes (slice_get program.literals place) ≡ array_length program.types id)
    × IsTrue (is_some (array_length program.types id))

-- Each expression has the type that its form gives. A number is one of its type. A comparison is an int (3.3.8), a difference a
-- long (own; 3.3.6 leaves it open).
abbrev pub HasResult : TypedProgram → TypedFunction → Node → Type 0
HasResult program function (right (tree.number head bits)) = number_in bits (number_kind program.types head.type_id) ≡ Some bits
HasResult program function (right (tree.nil head)) = IsPointer program.types head.type_id
HasResult program function (right (tree.load head object)) = head.type_id ≡ type_of_left object
HasResult program function (right (tree.decay head array)) =
    pointed program.types head.type_id ≡ element program.types (type_of_left array)
HasResult program function (right (tree.address head object)) = IsPointerTo program.types (type_of_left object) head.type_id
HasResult program function (right (tree.cast head operand)) =
    is_void program.types head.type_id ≡ false → head.type_id ≡ type_of operand
HasResult program function (right (tree.convert_number head its operand)) = IsNumber program.types its head.type_id
HasResult program function (right (tree.convert_pointer head operand)) = IsPointer program.types head.type_id
HasResult program function (right (tree.unary head operator its operand)) = head.type_id ≡ integer_id its
HasResult program function (right (tree.not head operand)) = head.type_id ≡ integer_id kind.Int
HasResult program function (right (tree.arithmetic head operator its a b)) = head.type_id ≡ integer_id its
HasResult program function (right (tree.comparison head operator its a b)) = head.type_id ≡ integer_id kind.Int
HasResult program function (right (tree.compare_pointers head operator a b)) = head.type_id ≡ integer_id kind.Int
HasResult program function (right (tree.is_nil head equal pointer)) = head.type_id ≡ integer_id kind.Int
HasResult program function (right (tree.step head stride pointer_first a b)) =
    head.type_id ≡ stepping pointer_first (type_of a) (type_of b)
HasResult program function (right (tree.difference head size a b)) = head.type_id ≡ integer_id kind.Long
HasResult program function (right (tree.and head a b)) = head.type_id ≡ integer_id kind.Int
HasResult program function (right (tree.or head a b)) = head.type_id ≡ integer_id kind.Int
HasResult program function (right (tree.conditional head test then otherwise)) =
    (type_of then ≡ head.type_id) × (type_of otherwise ≡ head.type_id)
HasResult program function (right (tree.comma head lefts last)) = head.type_id ≡ type_of last
HasResult program function (right (tree.assign head into from)) = head.type_id ≡ type_of_left into
HasResult program function (right (tree.update head operator its to into from)) = head.type_id ≡ type_of_left into
HasResult program function (right (tree.advance head stride into from)) = head.type_id ≡ type_of_left into
HasResult program function (right (tree.post_update head operator its to into)) = head.type_id ≡ type_of_left into
HasResult program function (right (tree.post_advance head stride into)) = head.type_id ≡ type_of_left into
HasResult program function (right (tree.call head number routine arguments)) = Unit {0}
HasResult program function (right (tree.call_routine head routine arguments)) = Unit {0}
HasResult program function (left (tree.variable head variable)) = IsOfType program function variable head.type_id
HasResult program function (left (tree.literal head place)) = IsLiteral program place head.type_id
HasResult program function (left (tree.target head pointer)) = IsPointerTo program.types head.type_id (type_of pointer)
HasResult program function (left (tree.element head size pointer_first a b)) =
    IsStepTarget program.types pointer_first (type_of a) (type_of b) head.type_id
HasResult program function (left (tree.member head field offset object)) = Unit {0}
HasResult program function (left (tree.arrow head field offset pointer)) = Unit {0}

-- Each member access names a field of its struct, so a class that is a field is one of its type.
abbrev pub NamesField : TypeTable → Node → Type 0
NamesField types (left (tree.member head field offset object)) = IsField types field offset head.type_id
NamesField types (left (tree.arrow head field offset pointer)) = IsField types field offset head.type_id
NamesField types _ = Unit {0}

-- as many arguments as parameters, each of a type that is `alike` to its
abbrev pub FitParameters : (TypeId → TypeId → Type 0) → List TypeId → RightValues → Type 0
FitParameters alike [] tree.no_values = Unit {0}
FitParameters alike [] (tree.more_values e rest) = ⊥
FitParameters alike (id ∷ ids) tree.no_values = ⊥
FitParameters alike (id ∷ ids) (tree.more_values e rest) = alike (type_of e) id × FitParameters alike ids rest

-- the types of variables
abbrev pub types_of : List VariableDecl → List TypeId
types_of [] = []
types_of (variable ∷ variables) = variable.type_id ∷ types_of variables

-- as many types as variables
pub count_types : (its : List VariableDecl) → length (types_of its) ≡ length its
count_types [] = refl
count_types (it ∷ its) = ap suc (count_types its)

-- a call with these arguments and of that type fits the parameters and the result
abbrev pub FitsSignature : (TypeId → TypeId → Type 0) → List TypeId → TypeId → RightValues → TypeId → Type 0
FitsSignature alike parameters result arguments id = FitParameters alike parameters arguments × alike id result

-- Each call of a function has its parameters and its result.
abbrev pub FitsCalled : Representatives → TypeTable → Option TypedFunction → RightValues → TypeId → Type 0
FitsCalled same types None arguments id = ⊥
FitsCalled same types (Some called) arguments id =
    FitsSignature (AreOne same types) (types_of (take called.parameters called.variables)) called.result arguments id

-- the called function, by its number
abbrev pub FitsFunction : TypedProgram → Node → Type 0
FitsFunction program (right (tree.call head number routine arguments)) =
    FitsCalled program.same program.types (slice_get program.functions number) arguments head.type_id
FitsFunction program _ = Unit {0}

-- Each call of a routine has the parameters and the result of its declaration.
abbrev pub FitsPrototype : Representatives → TypeTable → Option Prototype → RightValues → TypeId → Type 0
FitsPrototype same types None arguments id = ⊥
FitsPrototype same types (Some prototype) arguments id =
    FitsSignature (AreOne same types) prototype.parameters prototype.result arguments id

-- how a routine is declared, if it is called
abbrev pub prototype_in : Option BoundRoutine → Option Prototype
prototype_in None = None
prototype_in (Some it) = it.prototype

-- the called routine, by its number
abbrev pub FitsRoutine : TypedProgram → Node → Type 0
FitsRoutine program (right (tree.call_routine head number arguments)) =
    FitsPrototype program.same program.types (prototype_in (slice_get program.routines number)) arguments head.type_id
FitsRoutine program _ = Unit {0}

-- The declaration of a routine fits its role.
abbrev pub HasRoleAs : TypeTable → Routine → Option Prototype → Type 0
HasRoleAs types routine None = Unit {0}
HasRoleAs types routine (Some prototype) = FitsRole types routine prototype

-- of each routine
abbrev pub HasRole : TypeTable → BoundRoutine → Type 0
HasRole types it = HasRoleAs types it.routine it.prototype

-- the variable is marked
abbrev pub is_taken_variable : Option VariableDecl → Bool
is_taken_variable None = false
is_taken_variable (Some it) = it.taken

-- the program has noted that it takes the address of the field, or of one that is one with it
abbrev pub IsFieldTaken : TypedProgram → FieldId → Type 0
IsFieldTaken program field = IsTrue (is_taken_anywhere program.same program.taken field)

-- What the program takes the address of is marked as taken.
abbrev pub IsMarked : TypedProgram → TypedFunction → Node → Type 0
IsMarked program function (right (tree.address head (tree.variable its variable))) =
    IsTrue (is_taken_variable (declared program function variable))
IsMarked program function (right (tree.address head (tree.member its field offset object))) = IsFieldTaken program field
IsMarked program function (right (tree.address head (tree.arrow its field offset pointer))) = IsFieldTaken program field
IsMarked program function _ = Unit {0}

-- a promoted number, as the controlling expression of a switch is (3.6.4.2)
abbrev pub IsPromotedKind : Option Integer → Type 0
IsPromotedKind None = ⊥
IsPromotedKind (Some its) = promoted its ≡ its

-- by the kind of its numbers
abbrev pub IsPromoted : TypeTable → TypeId → Type 0
IsPromoted types id = IsPromotedKind (number_kind types id)

-- A value that is returned is of the function's type, which is then not void (3.6.6.4).
abbrev pub FitsReturn : TypedProgram → TypedFunction → Option RightValue → Type 0
FitsReturn program function None = Unit {0}
FitsReturn program function (Some e) = IsReadable program.types function.result × (type_of e ≡ function.result)

-- the variable that is named starts with a value of its type
abbrev pub FitsVariable : TypedProgram → Option VariableDecl → Starting → Type 0
FitsVariable program None start = ⊥
FitsVariable program (Some it) start = FitsStart program it.type_id start

-- a variable of the function
abbrev pub FitsItem : TypedProgram → TypedFunction → TypedItem → Type 0
FitsItem program function item = FitsVariable program (slice_get function.variables item.variable) item.start

-- Each controlling expression is a number, each value that is returned or given to a variable is of its type.
abbrev pub FitsPhrase : TypedProgram → TypedFunction → Phrase → Type 0
FitsPhrase program function (of_statement (tree.block it)) = Unit {0}
FitsPhrase program function (of_statement (tree.expression at e)) = Unit {0}
FitsPhrase program function (of_statement (tree.empty at)) = Unit {0}
FitsPhrase program function (of_statement (tree.if_ at test then)) = IsAnyNumber program.types (type_of test)
FitsPhrase program function (of_statement (tree.if_else at test then otherwise)) = IsAnyNumber program.types (type_of test)
FitsPhrase program function (of_statement (tree.while_ at test body)) = IsAnyNumber program.types (type_of test)
FitsPhrase program function (of_statement (tree.do_ at body test)) = IsAnyNumber program.types (type_of test)
FitsPhrase program function (of_statement (tree.for_ at first test step body)) = IfAny (λ e. IsAnyNumber program.types (type_of e)) test
FitsPhrase program function (of_statement (tree.switch_ at e it)) = IsPromoted program.types (type_of e)
FitsPhrase program function (of_statement (tree.break_ at)) = Unit {0}
FitsPhrase program function (of_statement (tree.continue_ at)) = Unit {0}
FitsPhrase program function (of_statement (tree.return_ at e)) = FitsReturn program function e
FitsPhrase program function (of_declaration it) = AllByRecursion (FitsItem program function) it.items

-- no labels
abbrev pub is_empty : List Label → Bool
is_empty [] = true
is_empty (label ∷ labels) = false

-- `break` stands inside a loop or a switch, `continue` inside a loop, and labels in the own block of a switch (3.6.1 and 3.6.6).
abbrev mutual
  pub may_stand : Bool → Bool → TypedStatement → Bool
  may_stand breaks loops (tree.block it) = block_may_stand false breaks loops it
  may_stand breaks loops (tree.expression at e) = true
  may_stand breaks loops (tree.empty at) = true
  may_stand breaks loops (tree.if_ at test then) = may_stand breaks loops then
  may_stand breaks loops (tree.if_else at test then otherwise) = may_stand breaks loops then && may_stand breaks loops otherwise
  may_stand breaks loops (tree.while_ at test body) = may_stand true true body
  may_stand breaks loops (tree.do_ at body test) = may_stand true true body
  may_stand breaks loops (tree.for_ at first test step body) = may_stand true true body
  may_stand breaks loops (tree.switch_ at e it) = block_may_stand true true loops it
  may_stand breaks loops (tree.break_ at) = breaks
  may_stand breaks loops (tree.continue_ at) = loops
  may_stand breaks loops (tree.return_ at e) = true

  pub block_may_stand : Bool → Bool → Bool → TypedBlock → Bool
  block_may_stand labelled breaks loops (tree.compound opening declarations statements closing) =
      statements_may_stand labelled breaks loops statements

  pub statements_may_stand : Bool → Bool → Bool → TypedStatements → Bool
  statements_may_stand labelled breaks loops tree.no_statements = true
  statements_may_stand labelled breaks loops (tree.more_statements labels it rest) =
      (labelled || is_empty labels) && may_stand breaks loops it && statements_may_stand labelled breaks loops rest

-- Each function has its parameters among its variables, which are of complete types, and gives nothing or a value of a type that can
-- be read (3.7.1).
abbrev pub FitsDefinition : TypeTable → TypedFunction → Type 0
FitsDefinition types function =
    (function.parameters ≤ length function.variables)
    × AllByRecursion (λ variable. IsTrue (is_complete types variable.type_id)) function.variables
    × IsTrue (is_void types function.result || is_readable types function.result)

-- `main` has no parameters, and gives a number or nothing (own).
abbrev pub IsMain : TypeTable → TypedFunction → Type 0
IsMain types function =
    (function.name ≡ codes "main") × (function.parameters ≡ 0) × IsTrue (is_number types function.result || is_void types function.result)

-- the function of that number is there
abbrev pub IsMainOf : TypeTable → Option TypedFunction → Type 0
IsMainOf types None = ⊥
IsMainOf types (Some function) = IsMain types function

-- each function of the program meets the fact
abbrev pub EachFunction : TypedProgram → (TypedFunction → Type 0) → Type 0
EachFunction program holds = AllByRecursion holds program.functions

-- each statement and declaration of the program meets the fact in its function
abbrev pub EachPhrase : TypedProgram → (TypedFunction → Phrase → Type 0) → Type 0
EachPhrase program holds = EachFunction program (λ function. EachBlock (holds function) function.body)

-- each expression of the program meets the fact in its function
abbrev pub EachNode : TypedProgram → (TypedFunction → Node → Type 0) → Type 0
EachNode program holds = EachPhrase program (λ function. EachExpression (EachRight (holds function)))

-- What every typed program keeps.
pub record Fits (program : TypedProgram) : Type 0 where
  pub ranges : EachNode program (InRange program)
  pub operands : EachNode program (λ function. HasOperands program.types)
  pub results : EachNode program (HasResult program)
  pub fields : EachNode program (λ function. NamesField program.types)
  pub calls : EachNode program (λ function. FitsFunction program)
  pub routine_calls : EachNode program (λ function. FitsRoutine program)
  pub roles : AllByRecursion (HasRole program.types) program.routines
  pub taken : EachNode program (IsMarked program)
  pub statements : EachPhrase program (FitsPhrase program)
  pub places : EachFunction program (λ function. IsTrue (block_may_stand false false false function.body))
  pub functions : EachFunction program (FitsDefinition program.types)
  pub globals : AllByRecursion (FitsGlobal program) program.globals
  pub main : IsMainOf program.types (slice_get program.functions program.main)
