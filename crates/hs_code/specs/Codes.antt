-- What the code of a program keeps (own).
--     scope_of program function                        what the kinds of the operations of a function depend on
--     IsInRange program classes function code op       what an operation names is there, and where it goes too
--     IsCodeOf program classes function code           the code of a function: all that it names is there, and each operation has its operands
--     AreCodesOf program classes functions codes       of these functions, in their order
--     IsCode program classes codes                     of the program
use Rattle.std.specs.Prelude.{◌≡◌, ◌<◌, ◌≤◌, ℕ, Bool, true, false, not, List, [], ◌∷◌, length, map, take, slice_get, Option, Some, None}
use Rattle.hs_code.specs.Stacks.{Scope, Signature, IsStacked, variable_in}
use Rattle.hs_code.specs.declared.function_code.Case.{Case}
use Rattle.hs_code.specs.declared.function_code.FunctionCode.{FunctionCode}
use Rattle.hs_code.specs.declared.function_code.Placed.{Placed}
use Rattle.hs_code.specs.declared.op.Access.{Access}
use Rattle.hs_code.specs.declared.op.Access.TheVariants as access
use Rattle.hs_code.specs.declared.op.Object.TheVariants as object
use Rattle.hs_code.specs.declared.op.Op.{Op}
use Rattle.hs_code.specs.declared.op.Op.TheVariants as op
use Rattle.hs_tree.specs.Classes.{is_slot}
use Rattle.hs_tree.specs.Fitting.{types_of}
use Rattle.hs_tree.specs.Trees.{TypedFunction, TypedProgram}
use Rattle.hs_tree.specs.Views.{program_of}
use Rattle.hs_tree.specs.declared.class.Class.{Class}
use Rattle.hs_tree.specs.declared.head.VariableDecl.{VariableDecl}
use Rattle.hs_tree.specs.declared.program.Program.{Program}
use Rattle.hs_types.specs.TypeTables.{TypeTable}

-- ---- of a program

-- what a call of the function takes and leaves
abbrev pub signature_of : TypedFunction → Signature
signature_of function = record { parameters = types_of (take function.parameters function.variables); result = function.result }

-- what the kinds of the operations of a function depend on
abbrev pub scope_of : TypedProgram → TypedFunction → Scope
scope_of program function =
    record {
      types = program.types;
      globals = program.globals;
      variables = function.variables;
      result = function.result;
      functions = map signature_of program.functions;
      routines = program.routines;
    }

-- ---- of one function

-- a variable that is there, and is an object
abbrev pub is_object : TypeTable → Option VariableDecl → Bool
is_object types None = false
is_object types (Some variable) = not (is_slot types variable)

-- a variable that is there, and is a slot
abbrev pub is_slot_in : TypeTable → Option VariableDecl → Bool
is_slot_in types None = false
is_slot_in types (Some variable) = is_slot types variable

module _ (program : TypedProgram) (classes : List Class) (function : TypedFunction) (code : FunctionCode) where
  -- an operation of the function
  abbrev pub IsTarget : ℕ → Type 0
  IsTarget at = at < length code.ops

  -- the class of a pointer is one of the program
  abbrev pub HasClass : Access → Type 0
  HasClass (access.Number kind) = Unit {0}
  HasClass (access.Pointer class) = class < length classes
  HasClass (access.Struct size) = Unit {0}

  -- what it names is there, and where it goes too
  abbrev pub IsInRange : Op → Type 0
  IsInRange (op.Address (object.Variable name)) = is_object program.types (variable_in (scope_of program function) name) ≡ true
  IsInRange (op.Address (object.Literal place)) = place < length program.literals
  IsInRange (op.Get name) = is_slot_in program.types (variable_in (scope_of program function) name) ≡ true
  IsInRange (op.Set name) = is_slot_in program.types (variable_in (scope_of program function) name) ≡ true
  IsInRange (op.Load its) = HasClass its
  IsInRange (op.Store its) = HasClass its
  IsInRange (op.Jump target) = IsTarget target
  IsInRange (op.Zero target) = IsTarget target
  IsInRange (op.Pick target) = IsTarget target
  IsInRange (op.Choose goal) = IsTarget goal.default × (goal.first ≤ goal.end) × (goal.end ≤ length code.cases)
  IsInRange (op.Shift place) = place < length program.routines
  IsInRange (op.Routine place) = place < length program.routines
  IsInRange (op.Call place) = place < length program.functions
  IsInRange _ = Unit {0}

  -- whether control comes to it or not
  pub record IsCodeOf : Type 0 where
    pub ranges : (at : ℕ) (its : Placed) → slice_get code.ops at ≡ Some its → IsInRange its.op
    pub cases : (place : ℕ) (its : Case) → slice_get code.cases place ≡ Some its → IsTarget its.target
    pub stacked : IsStacked (scope_of program function) code

-- one after the other
abbrev pub AreCodesOf : TypedProgram → List Class → List TypedFunction → List FunctionCode → Type 0
AreCodesOf program classes [] [] = Unit {0}
AreCodesOf program classes [] (code ∷ codes) = ⊥
AreCodesOf program classes (function ∷ functions) [] = ⊥
AreCodesOf program classes (function ∷ functions) (code ∷ codes) =
    IsCodeOf program classes function code × AreCodesOf program classes functions codes

-- as contracts see the program
abbrev pub view_program : Program → TypedProgram
view_program its = program_of its.types its.globals its.literals its.functions.items its.routines its.same its.taken its.main

-- of each function
abbrev pub IsCode : TypedProgram → List Class → List FunctionCode → Type 0
IsCode program classes codes = AreCodesOf program classes program.functions codes
