-- What operators make of well-typed operands is well typed: every expression in it has the operands that its form asks for and the type
-- that it gives, and names a field of its struct, as each typed program keeps it. The operators see the table of types as it is when they
-- are typed; the facts are over the table of the whole program, which has grown from it.
use Rattle.std.specs.Prelude.{◌≡◌, ℕ, List, Result, Ok}
use Rattle.std.specs.List.{AllByRecursion}
use Rattle.hs_operands.specs.Assignments.{assigned, assign_of, update_of, post_update_of, cast_of, conditional_of, comma_of}
use Rattle.hs_operands.specs.Objects.{loaded, target_of, element_of, member_of, arrow_of, address_of, size_number}
use Rattle.hs_operand_types.specs.Operands as operand
use Rattle.hs_operand_types.specs.Operands.{TypedOperand}
use Rattle.hs_operands.specs.Operators.{unary_of, arithmetic_of, not_of, and_of, or_of}
use Rattle.hs_operands.specs.Pointers.{plus_of, minus_of, compared}
use Rattle.hs_operand_types.specs.declared.operand_end.OperandEnd.{OperandEnd}
use Rattle.hs_tokens.specs.declared.place.Place.{Place}
use Rattle.hs_tree.specs.Fitting.{HasOperands, HasResult, NamesField}
use Rattle.hs_tree.specs.Inside.{Node, EachRight, EachLeft}
use Rattle.hs_tree.specs.Trees.{RightValue, LeftValue, TypedFunction, TypedProgram, type_of}
use Rattle.hs_tree.specs.declared.operators.Arithmetic.{Arithmetic}
use Rattle.hs_tree.specs.declared.operators.Comparison.{Comparison}
use Rattle.hs_tree.specs.declared.operators.Unary.{Unary}
use Rattle.hs_types.specs.TypeTables.{TypeTable, IsRight, Grows}
use Rattle.hs_types.specs.declared.row.TypeId.{TypeId}
pub mod Added
pub mod AssignedTyped
pub mod BranchesTyped
pub mod CallsTyped
pub mod Conditions
pub mod Kept
pub mod Made
pub mod Numbers
pub mod ObjectsTyped
pub mod PointersTyped
pub mod Readable
pub mod Stays
pub mod Typed

-- what each program keeps of an expression, by the types of its operands
abbrev pub Holds : TypedProgram → TypedFunction → Node → Type 0
Holds program function node = HasOperands program.types node × HasResult program function node × NamesField program.types node

-- each expression inside, itself among them
abbrev pub IsTyped : TypedProgram → TypedFunction → RightValue → Type 0
IsTyped program function e = EachRight (Holds program function) e

-- of an object
abbrev pub IsTypedObject : TypedProgram → TypedFunction → LeftValue → Type 0
IsTypedObject program function it = EachLeft (Holds program function) it

-- of an operand
abbrev pub IsTypedOperand : TypedProgram → TypedFunction → TypedOperand → Type 0
IsTypedOperand program function (operand.value e) = IsTyped program function e
IsTypedOperand program function (operand.object it) = IsTypedObject program function it
IsTypedOperand program function (operand.function it) = Unit {0}

-- what is given is well typed
abbrev pub MakesTyped : TypedProgram → TypedFunction → Result RightValue OperandEnd → Type 0
MakesTyped program function given = (made : RightValue) → given ≡ Ok made → IsTyped program function made

-- of objects
abbrev pub MakesObject : TypedProgram → TypedFunction → Result LeftValue OperandEnd → Type 0
MakesObject program function given = (made : LeftValue) → given ≡ Ok made → IsTypedObject program function made

-- and of that type
abbrev pub MakesOfType : TypedProgram → TypedFunction → TypeId → Result RightValue OperandEnd → Type 0
MakesOfType program function id given = (made : RightValue) → given ≡ Ok made → IsTyped program function made × (type_of made ≡ id)

-- one fact for each operator
pub record OperatorsAreTyped (program : TypedProgram) (function : TypedFunction) (types : TypeTable) : Type 0 where
  pub unary : (at : Place) (operator : Unary) (e : RightValue) → IsTyped program function e
      → MakesTyped program function (unary_of types at operator e)
  pub arithmetic : (at : Place) (operator : Arithmetic) (a b : RightValue) → IsTyped program function a → IsTyped program function b
      → MakesTyped program function (arithmetic_of types at operator a b)
  pub plus : (at : Place) (a b : RightValue) → IsTyped program function a → IsTyped program function b
      → MakesTyped program function (plus_of types at a b)
  pub minus : (at : Place) (a b : RightValue) → IsTyped program function a → IsTyped program function b
      → MakesTyped program function (minus_of types at a b)
  pub comparison : (at : Place) (operator : Comparison) (a b : RightValue) → IsTyped program function a → IsTyped program function b
      → MakesTyped program function (compared types at operator a b)
  pub not : (at : Place) (e : RightValue) → IsTyped program function e → MakesTyped program function (not_of types at e)
  pub and : (at : Place) (a b : RightValue) → IsTyped program function a → IsTyped program function b
      → MakesTyped program function (and_of types at a b)
  pub or : (at : Place) (a b : RightValue) → IsTyped program function a → IsTyped program function b
      → MakesTyped program function (or_of types at a b)
  pub size : (at : Place) (id : TypeId) → MakesTyped program function (size_number types at id)
  pub target : (at : Place) (e : RightValue) → IsTyped program function e → MakesObject program function (target_of types at e)
  pub element : (at : Place) (a b : RightValue) → IsTyped program function a → IsTyped program function b
      → MakesObject program function (element_of types at a b)
  pub member : (at : Place) (name : List ℕ) (it : LeftValue) → IsTypedObject program function it
      → MakesObject program function (member_of types at name it)
  pub arrow : (at : Place) (name : List ℕ) (e : RightValue) → IsTyped program function e
      → MakesObject program function (arrow_of types at name e)
  pub assigned : (at : Place) (id : TypeId) (e : RightValue) → IsTyped program function e
      → MakesOfType program function id (assigned types at id e)
  pub assign : (at : Place) (it : LeftValue) (e : RightValue) → IsTypedObject program function it → IsTyped program function e
      → MakesTyped program function (assign_of types at it e)
  pub update : (at : Place) (operator : Arithmetic) (it : LeftValue) (e : RightValue) → IsTypedObject program function it
      → IsTyped program function e → MakesTyped program function (update_of types at operator it e)
  pub post_update : (at : Place) (operator : Arithmetic) (it : LeftValue) → IsTypedObject program function it
      → MakesTyped program function (post_update_of types at operator it)
  pub cast : (at : Place) (id : TypeId) (e : RightValue) → IsTyped program function e → MakesTyped program function (cast_of types at id e)
  pub conditional : (at : Place) (test a b : RightValue) → IsTyped program function test → IsTyped program function a
      → IsTyped program function b → MakesTyped program function (conditional_of types at test a b)
  pub comma : (at : Place) (lefts : List RightValue) (e : RightValue) → AllByRecursion (IsTyped program function) lefts
      → IsTyped program function e → IsTyped program function (comma_of at lefts e)
  pub loaded : (it : TypedOperand) (made : RightValue) (new : TypeTable) → IsTypedOperand program function it
      → loaded types it ≡ Ok (made, new) → Grows new program.types → IsTyped program function made
  pub address : (at : Place) (it : LeftValue) (made : RightValue) (new : TypeTable) → IsTypedObject program function it
      → address_of types at it ≡ (made, new) → Grows new program.types → IsTyped program function made

-- at any place of the text
abbrev pub AreTypedAnywhere : Type 0
AreTypedAnywhere = (program : TypedProgram) (function : TypedFunction) (types : TypeTable) → IsRight program.types
    → Grows types program.types → OperatorsAreTyped program function types
