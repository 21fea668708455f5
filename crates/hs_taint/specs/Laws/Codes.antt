-- What the code of a program says of its operations.
--     ops_small                     the numbers in operations fit
--     start_there                   each function has an operation
use Rattle.hs_code.specs.Codes.{AreCodesOf, IsCode, IsCodeOf, IsInRange, is_slot_in, scope_of}
use Rattle.hs_code.specs.Stacks.{begins as starts, variable_in, variable_of_global}
use Rattle.hs_code.specs.declared.function_code.FunctionCode.{FunctionCode}
use Rattle.hs_code.specs.declared.function_code.Placed.{Placed}
use Rattle.hs_code.specs.declared.op.Access.TheVariants as access
use Rattle.hs_code.specs.declared.op.Op.TheVariants as op
use Rattle.hs_code.specs.declared.op.Op.{Op}
use Rattle.hs_facts.specs.Effects.{WholeCode, placed_in}
use Rattle.hs_facts.specs.Effects.{ops_in}
use Rattle.hs_flow.specs.Programs.{variables_in}
use Rattle.hs_flow.specs.declared.fact.Slot.TheVariants as slot
use Rattle.hs_taint.specs.Coding.{number_of, numbers}
use Rattle.hs_taint.specs.Laws.Nodes.{there_placed}
use Rattle.hs_taint.specs.Laws.Small.{IsSmallSlot, SmallOp}
use Rattle.hs_taint.specs.Laws.Small.{IsSmallSlot}
use Rattle.hs_taint.specs.Laws.Small.{SmallOp}
use Rattle.hs_taint.specs.Points.{is_there}
use Rattle.hs_tree.specs.Trees.{TypedFunction, TypedProgram}
use Rattle.hs_tree.specs.declared.class.Class.{Class}
use Rattle.hs_tree.specs.declared.globals.Global.{Global}
use Rattle.hs_tree.specs.declared.head.Variable.TheVariants as name
use Rattle.hs_tree.specs.declared.head.Variable.{Variable}
use Rattle.hs_tree.specs.declared.head.VariableDecl.{VariableDecl}
use Rattle.hs_types.specs.TypeTables.{TypeTable}
use Rattle.std.proofs.Common.{◌≡◌, ◌<◌, ◌≤◌, ◌∙◌, ℕ, zero, suc, true, List, [], ◌∷◌, length, slice_get, Option, Some, None, ap, subst, refl, arith}
use Rattle.std.proofs.lemmas.Option.{slice_get_within}
use Rattle.std.specs.Coded.{le_prop}
use mathlib.Core.Bool.{Bool-set}
use mathlib.Core.Logic.{∥∥₁_elim}

-- the code of a function
own_code : (program : TypedProgram) (classes : List Class) (functions : List TypedFunction) (codes : List FunctionCode)
    → AreCodesOf program classes functions codes → (f : ℕ) (code : FunctionCode) → slice_get codes f ≡ Some code
    → (function : TypedFunction) × (slice_get functions f ≡ Some function) × IsCodeOf program classes function code
own_code program classes [] [] are f code there = absurd (cc)
own_code program classes [] (code ∷ codes) are f its there = absurd are
own_code program classes (function ∷ functions) [] are f its there = absurd are
own_code program classes (function ∷ functions) (code ∷ codes) are zero its there =
    (function, refl, subst (IsCodeOf program classes function) (some_code there) are.0)
  where
    some_code : {a b : FunctionCode} → Some a ≡ Some b → a ≡ b
    some_code same = cc
own_code program classes (function ∷ functions) (code ∷ codes) are (suc f) its there = own_code program classes functions codes are.1 f its there

-- the code of a function that is there
code_of_own : (program : TypedProgram) (classes : List Class) (functions : List TypedFunction) (codes : List FunctionCode)
    → AreCodesOf program classes functions codes → (f : ℕ) (function : TypedFunction) → slice_get functions f ≡ Some function
    → (code : FunctionCode) × (slice_get codes f ≡ Some code) × IsCodeOf program classes function code
code_of_own program classes [] [] are f function there = absurd (cc)
code_of_own program classes [] (code ∷ codes) are f function there = absurd are
code_of_own program classes (it ∷ functions) [] are f function there = absurd are
code_of_own program classes (it ∷ functions) (code ∷ codes) are zero function there =
    (code, refl, subst (λ it. IsCodeOf program classes it code) (some_function there) are.0)
  where
    some_function : {a b : TypedFunction} → Some a ≡ Some b → a ≡ b
    some_function same = cc
code_of_own program classes (it ∷ functions) (code ∷ codes) are (suc f) function there = code_of_own program classes functions codes are.1 f function there

-- ---- numbers in operations

number_prop : (a b : ℕ) → (x y : a < b) → x ≡ y
number_prop a b = le_prop

unit_prop : (x y : Unit {0}) → x ≡ y
unit_prop x y = refl

small_prop : (its : Op) (x y : SmallOp its) → x ≡ y
small_prop (op.Num bits) = unit_prop
small_prop op.Nil = unit_prop
small_prop (op.Address its) = unit_prop
small_prop (op.Get v) = unit_prop
small_prop (op.Set v) = number_prop (number_of (slot.Variable v)) numbers
small_prop (op.Load its) = unit_prop
small_prop (op.Store (access.Pointer class)) = number_prop class numbers
small_prop (op.Store (access.Number kind)) = unit_prop
small_prop (op.Store (access.Struct size)) = unit_prop
small_prop op.Drop = unit_prop
small_prop op.Dup = unit_prop
small_prop op.Tuck = unit_prop
small_prop (op.Conv kind) = unit_prop
small_prop (op.Unary its) = unit_prop
small_prop (op.Binary its kind) = unit_prop
small_prop op.IsNil = unit_prop
small_prop (op.Compare its) = unit_prop
small_prop (op.Difference size) = unit_prop
small_prop (op.Offset bytes) = unit_prop
small_prop (op.Step stride first) = unit_prop
small_prop (op.Jump target) = unit_prop
small_prop (op.Zero target) = unit_prop
small_prop (op.Choose goal) = unit_prop
small_prop (op.Shift place) = unit_prop
small_prop (op.Routine place) = unit_prop
small_prop (op.Call f) = unit_prop
small_prop op.Return = unit_prop
small_prop op.Turn = unit_prop
small_prop op.Mark = unit_prop
small_prop (op.Pick target) = unit_prop
small_prop (op.Bring place) = unit_prop

slot_below : (types : TypeTable) (variables : List VariableDecl) (place : ℕ) → is_slot_in types (slice_get variables place) ≡ true
    → place < length variables
slot_below types variables place slot = by (slice_get variables place) refl slot
  where
    by : (o : Option VariableDecl) → slice_get variables place ≡ o → is_slot_in types o ≡ true → place < length variables
    by None is slot = absurd (cc)
    by (Some it) is slot = slice_get_within variables place it is

global_below : (types : TypeTable) (globals : List Global) (place : ℕ) → is_slot_in types (variable_of_global (slice_get globals place)) ≡ true
    → place < length globals
global_below types globals place slot = by (slice_get globals place) refl slot
  where
    by : (o : Option Global) → slice_get globals place ≡ o → is_slot_in types (variable_of_global o) ≡ true → place < length globals
    by None is slot = absurd (cc)
    by (Some it) is slot = slice_get_within globals place it is

module _ (whole : WholeCode) (globals : length whole.program.globals ≤ numbers)
    (locals : (f : ℕ) → length (variables_in (slice_get whole.program.functions f)) ≤ numbers) (classes : length whole.classes ≤ numbers)
  where
    variable_small : (f : ℕ) (function : TypedFunction) → slice_get whole.program.functions f ≡ Some function → (v : Variable)
        → is_slot_in whole.program.types (variable_in (scope_of whole.program function) v) ≡ true → IsSmallSlot (slot.Variable v)
    variable_small f function there (name.Global place) slot =
        let below = global_below whole.program.types whole.program.globals place slot in
        omega (arith)
    variable_small f function there (name.Local place) slot =
        let below = slot_below whole.program.types function.variables place slot in
        let few : length function.variables ≤ numbers = subst (λ o. length (variables_in o) ≤ numbers) there (locals f) in
        omega (arith)

    op_small : (f : ℕ) (function : TypedFunction) (code : FunctionCode) → slice_get whole.program.functions f ≡ Some function → (its : Op)
        → IsInRange whole.program whole.classes function code its → SmallOp its
    op_small f function code there (op.Set v) range = variable_small f function there v range
    op_small f function code there (op.Store (access.Pointer class)) range = let below : class < length whole.classes = range in omega (arith)
    op_small f function code there (op.Num bits) range = tt
    op_small f function code there op.Nil range = tt
    op_small f function code there (op.Address its) range = tt
    op_small f function code there (op.Get v) range = tt
    op_small f function code there (op.Load its) range = tt
    op_small f function code there (op.Store (access.Number kind)) range = tt
    op_small f function code there (op.Store (access.Struct size)) range = tt
    op_small f function code there op.Drop range = tt
    op_small f function code there op.Dup range = tt
    op_small f function code there op.Tuck range = tt
    op_small f function code there (op.Conv kind) range = tt
    op_small f function code there (op.Unary its) range = tt
    op_small f function code there (op.Binary its kind) range = tt
    op_small f function code there op.IsNil range = tt
    op_small f function code there (op.Compare its) range = tt
    op_small f function code there (op.Difference size) range = tt
    op_small f function code there (op.Offset bytes) range = tt
    op_small f function code there (op.Step stride first) range = tt
    op_small f function code there (op.Jump target) range = tt
    op_small f function code there (op.Zero target) range = tt
    op_small f function code there (op.Choose goal) range = tt
    op_small f function code there (op.Shift place) range = tt
    op_small f function code there (op.Routine place) range = tt
    op_small f function code there (op.Call g) range = tt
    op_small f function code there op.Return range = tt
    op_small f function code there op.Turn range = tt
    op_small f function code there op.Mark range = tt
    op_small f function code there (op.Pick target) range = tt
    op_small f function code there (op.Bring place) range = tt

    by_code : (f at : ℕ) (its : Placed) (o : Option FunctionCode) → slice_get whole.functions f ≡ o → slice_get (ops_in o) at ≡ Some its
        → IsCode whole.program whole.classes whole.functions → SmallOp its.op
    by_code f at its None is there are = absurd (cc)
    by_code f at its (Some code) is there are =
        let own = own_code whole.program whole.classes whole.program.functions whole.functions are f code is in
        op_small f own.0 code own.1 its.op (own.2.ranges at its there)

    -- the numbers in the operations of a program fit
    pub ops_small : ∥ IsCode whole.program whole.classes whole.functions ∥₁ → (f at : ℕ) (its : Placed) → placed_in whole f at ≡ Some its → SmallOp its.op
    ops_small are f at its there = ∥∥₁_elim are (small_prop its.op) (by_code f at its (slice_get whole.functions f) refl there)

-- a function has an operation
pub start_there : (whole : WholeCode) (f : ℕ) (function : TypedFunction) → ∥ IsCode whole.program whole.classes whole.functions ∥₁
    → slice_get whole.program.functions f ≡ Some function → is_there whole.functions f 0 ≡ true
start_there whole f function are is = ∥∥₁_elim are (Bool-set (is_there whole.functions f 0) true) by
  where
    by : IsCode whole.program whole.classes whole.functions → is_there whole.functions f 0 ≡ true
    by its =
        let own = code_of_own whole.program whole.classes whole.program.functions whole.functions its f function is in
        let first = own.2.stacked 0 [] starts in
        there_placed whole f 0 first.its (ap (λ o. slice_get (ops_in o) 0) own.1 ∙ first.there)
