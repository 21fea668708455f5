-- A run begins with values of their kinds, and what a typed program and its code keep is enough for all of it.
--     code_is_typed       the code of a typed program keeps what a step asks for
--     run_begins          the first point of a run of it
use Rattle.std.proofs.Common.{◌≡◌, ℕ, zero, suc, Bool, true, false, List, [], ◌∷◌, length, map, take, slice_get, Option, Some, None, IsTrue, is_some, ◌||◌, ◌&&◌, not, refl, sym, subst, if◌then◌else◌}
use Rattle.std.specs.List.{AllByRecursion}
use Rattle.hs_code.specs.Codes.{IsCode}
use Rattle.hs_code.specs.Stacks.{Kind, kind_of, kind_by, begins}
use Rattle.hs_code.specs.Stacks as kind
use Rattle.hs_code.specs.declared.function_code.FunctionCode.{FunctionCode}
use Rattle.hs_code_run.specs.Codes.{CodeFunction, CodeProgram, function_with, functions_with, code_program}
use Rattle.hs_code_run.specs.Laws.Depths.Programs.{code_is_stacked}
use Rattle.hs_code_run.specs.Runs.{starting_point, begun}
use Rattle.hs_heap.specs.declared.cell.Pointer.TheVariants.{Nil}
use Rattle.hs_kinds.specs.Kinds.{IsOfKind, AreOfKinds, FitBindings}
use Rattle.hs_kinds.specs.Points.{IsTypedCode, IsKindPoint}
use Rattle.hs_kinds.specs.Steps.{RanTo, ran_then, ran_done}
use Rattle.hs_kinds.specs.Variables.{opened_to}
use Rattle.hs_lowering.specs.Laws.Kinds.{number_kinds, pointer_kinds}
use Rattle.hs_meaning.specs.Frames.{opened}
use Rattle.hs_meaning.specs.Machine.{slot, object_at}
use Rattle.hs_meaning.specs.Objects.{variables_of, starting_bindings, starting_value, constant_value}
use Rattle.hs_heap.specs.declared.decision.Decision.{Decision}
use Rattle.hs_meaning.specs.declared.input.Input.{Input}
use Rattle.hs_meaning.specs.Runs.{starting}
use Rattle.hs_meaning.specs.Settings.{Setting, setting_of}
use Rattle.hs_meaning.specs.Steps.{State, acts, give}
use Rattle.hs_meaning.specs.Values.{number, pointer}
use Rattle.hs_tree.specs.Classes.{is_slot}
use Rattle.hs_tree.specs.Fitting.{Fits, IsMainOf, types_of}
use Rattle.hs_tree.specs.Kinds.{number_kind, is_pointer, is_scalar, pointed_of_row, kind_of_row, is_struct_row, is_void_row, IsScalar}
use Rattle.hs_tree.specs.Objects.{IsScalarAt, itself, in_array, is_field, in_field, IsConstant, FitsPart, FitsGlobal, number_in}
use Rattle.hs_tree.specs.Trees.{TypedFunction, TypedProgram}
use Rattle.hs_tree.specs.declared.class.Class.{Class}
use Rattle.hs_tree.specs.declared.constant.Constant.{Constant}
use Rattle.hs_tree.specs.declared.constant.Constant.TheVariants as constant
use Rattle.hs_tree.specs.declared.constant.Part.{Part}
use Rattle.hs_tree.specs.declared.globals.Global.{Global}
use Rattle.hs_types.specs.TypeTables.{TypeTable, row_of}
use Rattle.hs_types.specs.declared.integer.Integer.{Integer}
use Rattle.hs_types.specs.declared.row.FieldId.{FieldId}
use Rattle.hs_types.specs.declared.row.Row.{Row}
use Rattle.hs_types.specs.declared.row.Row.TheVariants as row
use Rattle.hs_types.specs.declared.row.TypeId.{TypeId}

-- a scalar that is no pointer is a number
scalar_kind_row : (its : Option Row) → IsTrue (is_some (kind_of_row its) || is_some (pointed_of_row its)) → is_some (pointed_of_row its) ≡ false
    → kind_by (is_some (pointed_of_row its)) (is_struct_row its) ≡ kind.number
scalar_kind_row None is so = absurd cc
scalar_kind_row (Some row.Void) is so = absurd cc
scalar_kind_row (Some (row.Integer i)) is so = refl
scalar_kind_row (Some (row.Pointer of)) is so = absurd cc
scalar_kind_row (Some (row.Enumeration n)) is so = refl
scalar_kind_row (Some (row.Struct n)) is so = absurd cc
scalar_kind_row (Some (row.Array of length layout)) is so = absurd cc
scalar_kind_row (Some (row.OpenArray of)) is so = absurd cc
scalar_kind_row (Some (row.Function result parameters)) is so = absurd cc

-- what `main` gives is a number, or nothing
result_row : (its : Option Row) → IsTrue (is_some (kind_of_row its) || is_void_row its)
    → kind_by (is_some (pointed_of_row its)) (is_struct_row its) ≡ kind.number
result_row None is = absurd cc
result_row (Some row.Void) is = refl
result_row (Some (row.Integer i)) is = refl
result_row (Some (row.Pointer of)) is = absurd cc
result_row (Some (row.Enumeration n)) is = refl
result_row (Some (row.Struct n)) is = absurd cc
result_row (Some (row.Array of length layout)) is = absurd cc
result_row (Some (row.OpenArray of)) is = absurd cc
result_row (Some (row.Function result parameters)) is = absurd cc

module _ (program : TypedProgram) where
  -- the setting of its run
  abbrev setting : Setting
  setting = setting_of program

  -- a number that a type keeps
  any_number : (bits : ℕ) (its : Option Integer) → number_in bits its ≡ Some bits → IsTrue (is_some its)
  any_number bits None is = absurd cc
  any_number bits (Some i) is = refl

  -- a constant is of the kind of its type
  constant_kind : (id : TypeId) (its : Constant) → IsConstant program id its → IsOfKind (kind_of program.types id) (constant_value setting its)
  constant_kind id (constant.Number bits) is =
      subst (λ k. IsOfKind k (number bits)) (sym (number_kinds program.types id (any_number bits (number_kind program.types id) is)).0) tt
  constant_kind id constant.Nil is = subst (λ k. IsOfKind k (pointer Nil)) (sym (pointer_kinds program.types id is).0) tt
  constant_kind id (constant.Address its offset) is =
      subst (λ k. IsOfKind k (constant_value setting (constant.Address its offset))) (sym (pointer_kinds program.types id is.0).0) tt

  -- the scalar of a scalar is itself
  same_scalar : (id scalar : TypeId) (offset : ℕ) (field : Option FieldId) → IsScalarAt program.types id offset scalar field
      → IsScalar program.types id → scalar ≡ id
  same_scalar _ _ _ _ (itself id is) scalar_is = refl
  same_scalar _ _ _ _ (in_array id of scalar length place offset layout field is less inner) scalar_is =
      absurd (none (row_of program.types id) is scalar_is)
    where
      none : (its : Option Row) → its ≡ Some (row.Array of length layout) → IsTrue (is_some (kind_of_row its) || is_some (pointed_of_row its)) → ⊥
      none its so it = false_true (subst (λ a. IsTrue (is_some (kind_of_row a) || is_some (pointed_of_row a))) so it)
        where
          false_true : IsTrue false → ⊥
          false_true it = absurd cc
  same_scalar _ _ _ _ (is_field id scalar field offset is there of) scalar_is =
      absurd (false_true (subst (λ a. IsTrue (is_some (kind_of_row a) || is_some (pointed_of_row a))) is scalar_is))
    where
      false_true : IsTrue false → ⊥
      false_true it = absurd cc
  same_scalar _ _ _ _ (in_field id of scalar field first offset inner is there less rest) scalar_is =
      absurd (false_true (subst (λ a. IsTrue (is_some (kind_of_row a) || is_some (pointed_of_row a))) is scalar_is))
    where
      false_true : IsTrue false → ⊥
      false_true it = absurd cc

  -- an object that nothing initialises starts as nil or 0
  zero_kind : (id : TypeId) (b : Bool) → is_pointer program.types id ≡ b → IsScalar program.types id
      → IsOfKind (kind_of program.types id) (if b then pointer Nil else number 0)
  zero_kind id true so is = subst (λ k. IsOfKind k (pointer Nil)) (sym (pointer_kinds program.types id so).0) tt
  zero_kind id false so is = subst (λ k. IsOfKind k (number 0)) (sym (scalar_kind_row (row_of program.types id) is so)) tt

  -- a scalar starts with a value of its kind
  start_kind : (id : TypeId) (parts : List Part) → IsScalar program.types id → AllByRecursion (FitsPart program id) parts
      → IsOfKind (kind_of program.types id) (starting_value setting id parts)
  start_kind id [] is all = zero_kind id (is_pointer program.types id) refl is
  start_kind id (part ∷ parts) is all =
      subst (λ a. IsOfKind (kind_of program.types a) (constant_value setting part.value))
      (same_scalar id part.type_id part.offset part.field all.0.0 is) (constant_kind part.type_id part.value all.0.1)

  -- the first of two
  slot_scalar : (a b : Bool) → (a && b) ≡ true → a ≡ true
  slot_scalar true b is = refl
  slot_scalar false b is = absurd cc

  -- the globals of a typed program start with values of their kinds
  pub starting_fit : (next : ℕ) (globals : List Global) → AllByRecursion (FitsGlobal program) globals
      → FitBindings program.types (variables_of globals) (starting_bindings setting next globals)
  starting_fit next [] all = tt
  starting_fit next (it ∷ rest) all =
      by (is_slot program.types it.variable) refl (starting_fit next rest all.1) (starting_fit (suc next) rest all.1)
    where
      by : (b : Bool) → is_slot program.types it.variable ≡ b
          → FitBindings program.types (variables_of rest) (starting_bindings setting next rest)
          → FitBindings program.types (variables_of rest) (starting_bindings setting (suc next) rest)
          → FitBindings program.types (variables_of (it ∷ rest))
          (if b then slot (Some (starting_value setting it.variable.type_id it.parts)) ∷ starting_bindings setting next rest
          else object_at next ∷ starting_bindings setting (suc next) rest)
      by true so first second = (
        (
          so,
          start_kind it.variable.type_id it.parts
              (slot_scalar (is_scalar program.types it.variable.type_id) (not it.variable.taken) so) all.0.1.0,
        ),
        first,
      )
      by false so first second = (so, second)

  -- ---- the code

  module _ (classes : List Class) (its : List FunctionCode) (are : IsCode program classes its) (fits : Fits program) where
    -- the result of `main`
    main_of : (functions : List TypedFunction) (codes : List FunctionCode) (place : ℕ) (function : CodeFunction)
        → IsMainOf program.types (slice_get functions place) → slice_get (functions_with functions codes) place ≡ Some function
        → kind_of program.types function.result ≡ kind.number
    main_of [] codes place function main is = absurd main
    main_of (one ∷ functions) [] place function main is = absurd cc
    main_of (one ∷ functions) (code ∷ codes) zero function main is =
        subst (λ (f : CodeFunction). kind_of program.types f.result ≡ kind.number) (same (function_with one code) function is)
        (result_row (row_of program.types one.result) main.2)
      where
        same : (a b : CodeFunction) → Some a ≡ Some b → a ≡ b
        same a b is = cc
    main_of (one ∷ functions) (code ∷ codes) (suc place) function main is = main_of functions codes place function main is

    -- the code of a typed program keeps all that a step asks for
    pub code_is_typed : IsTypedCode (code_program program its)
    code_is_typed =
        record {
          stacked = code_is_stacked program classes its fits.functions are;
          roles = fits.roles;
          main = λ function is. main_of program.functions its program.main function fits.main is;
        }

-- the first point of a run
pub begins_kinds : (program : CodeProgram) (typed : IsTypedCode program) (function : CodeFunction) (choices : List Bool) (s : State)
    → slice_get program.functions program.main ≡ Some function → function.parameters ≡ 0
    → FitBindings program.setting.types (variables_of program.setting.globals) s.machine.globals
    → RanTo (IsKindPoint program) (begun program choices function s)
begins_kinds program typed function choices s is few all =
    ran_then
    (λ it t. FitBindings program.setting.types (variables_of program.setting.globals) t.machine.globals
    × FitBindings program.setting.types function.variables t.machine.locals) (IsKindPoint program)
    (λ it. give (starting_point function choices))
    (acts function.opening (opened program.setting function.parameters function.variables []) s)
    (ran_done (λ it machine. FitBindings program.setting.types (variables_of program.setting.globals) machine.globals
    × FitBindings program.setting.types function.variables machine.locals) function.opening s
    (opened program.setting function.parameters function.variables [] s.machine)
    (opened_to program.setting (FitBindings program.setting.types (variables_of program.setting.globals)) function.variables function.parameters []
    s.machine all (subst (λ n. AreOfKinds (map (kind_of program.setting.types) (types_of (take n function.variables))) []) (sym few) tt)))
    (λ it t have. record {
      call = record {
        place = program.main;
        function = function;
        there = is;
        code = refl;
        kinds = [];
        reached = begins;
        values = tt;
        fits = have.1;
      };
      waiting = typed.main function is;
      globals = have.0;
    })

-- `main` has no parameters
no_parameters : (types : TypeTable) (functions : List TypedFunction) (codes : List FunctionCode) (place : ℕ) (function : CodeFunction)
    → IsMainOf types (slice_get functions place) → slice_get (functions_with functions codes) place ≡ Some function → function.parameters ≡ 0
no_parameters types [] codes place function main is = absurd main
no_parameters types (one ∷ functions) [] place function main is = absurd cc
no_parameters types (one ∷ functions) (code ∷ codes) zero function main is =
    subst (λ (f : CodeFunction). f.parameters ≡ 0) (same (function_with one code) function is) main.1
  where
    same : (a b : CodeFunction) → Some a ≡ Some b → a ≡ b
    same a b is = cc
no_parameters types (one ∷ functions) (code ∷ codes) (suc place) function main is = no_parameters types functions codes place function main is

-- each run of the code of a typed program begins so
pub run_begins : (program : TypedProgram) (classes : List Class) (its : List FunctionCode) → IsCode program classes its → Fits program
    → (choices : List Bool) (input : Input) (schedule : List Decision) (turns : ℕ) (function : CodeFunction)
    → slice_get (functions_with program.functions its) program.main ≡ Some function
    → RanTo (IsKindPoint (code_program program its))
    (begun (code_program program its) choices function (starting (setting_of program) input schedule turns))
run_begins program classes its are fits choices input schedule turns function is =
    begins_kinds (code_program program its) (code_is_typed program classes its are fits) function choices
    (starting (setting_of program) input schedule turns) is
    (no_parameters program.types program.functions its program.main function fits.main is) (starting_fit program 0 program.globals fits.globals)
