-- The job of a window of the names is that of the code.
--     task_of ..         the task: its names are a part of those of the function
--     IsFor ..           what is known of the lists
--     task_is ..         the task is that of the code
--     same_task ..       the parts of a job are those of the task
use Rattle.std.proofs.Common.{◌≡◌, ◌≤◌, ℕ, zero, suc, ◌+◌, ◌-◌, max, Bool, true, false, ap, sym, subst, ◌∙◌, refl, arith, List, [], ◌∷◌, length, slice_get, Option, Some, None}
use Rattle.hs_code.specs.Codes.{is_slot_in}
use Rattle.hs_code.specs.Stacks.{Scope, variable_in}
use Rattle.hs_code.specs.declared.function_code.FunctionCode.{FunctionCode}
use Rattle.hs_code.specs.declared.function_code.Placed.{Placed}
use Rattle.hs_code.specs.declared.op.Op.{Op}
use Rattle.hs_code.specs.declared.op.Op.TheVariants as op
use Rattle.hs_fact_rows.specs.Cells.{index_of}
use Rattle.hs_fact_rows.specs.Cuts.{Task, IsTask, the_task}
use Rattle.hs_fact_rows.specs.Given.{FitsStep}
use Rattle.hs_fact_rows.specs.Laws.Numbers.{index_least, less_number, less_numbers, some_one}
use Rattle.hs_fact_rows.specs.Laws.Solved.{IsOf}
use Rattle.hs_fact_rows.specs.Steps.{OpFits, routine_step, set_step, step_of}
use Rattle.hs_fact_rows.specs.declared.plan.Plan.{Plan}
use Rattle.hs_fact_rows.specs.declared.step.Step.{Step}
use Rattle.hs_facts.specs.Names.{is_name, names_of, role_at, taken}
use Rattle.hs_restores.specs.Laws.Naming.{are_names, distinct_names}
use Rattle.hs_restores.specs.Laws.Numbering.{is_in}
use Rattle.hs_restores.specs.Laws.Windows.{part_of, part_length, part_distinct, part_there}
use Rattle.hs_restores.specs.Stepping.{greatest, step_by, steps_by}
use Rattle.hs_table.specs.declared.role.Role.{Role}
use Rattle.hs_table.specs.declared.role.Role.TheVariants as role
use Rattle.hs_tree.specs.declared.head.Variable.{Variable}
use Rattle.hs_tree.specs.declared.head.Variable.TheVariants as name

-- ---- steps

module _ (scope : Scope) (names part slots : List Variable) where
  steps_length : (ops : List Placed) → length (steps_by scope names part slots ops) ≡ length ops
  steps_length [] = refl
  steps_length (its ∷ rest) = ap (λ n. suc n) (steps_length rest)

  steps_at : (ops : List Placed) (at : ℕ) (its : Placed) → slice_get ops at ≡ Some its
      → slice_get (steps_by scope names part slots ops) at ≡ Some (step_by scope names part slots its.op its.places)
  steps_at [] at its there = absurd cc
  steps_at (it ∷ rest) zero its there =
      ap (λ (p : Placed). Some (step_by scope names part slots p.op p.places)) (some_one it its there)
  steps_at (it ∷ rest) (suc at) its there = steps_at rest at its there

  -- an operation whose step is the one of that number
  step_from : (ops : List Placed) (at : ℕ) (its : Step) → slice_get (steps_by scope names part slots ops) at ≡ Some its
      → (it : Placed) × (slice_get ops at ≡ Some it) × (step_by scope names part slots it.op it.places ≡ its)
  step_from [] at its there = absurd cc
  step_from (it ∷ rest) zero its there = (it, refl, some_one (step_by scope names part slots it.op it.places) its there)
  step_from (it ∷ rest) (suc at) its there = step_from rest at its there

  -- ---- they fit the plan

  module _ (plan : Plan) (listed : plan.slots ≡ length slots) where
    set_fits : (is : Bool) (depth number : ℕ) (v : Variable) → depth ≤ plan.places → FitsStep plan (set_step is depth number (index_of slots v))
    set_fits true depth number v low = let least = index_least slots v in omega (arith, least, listed)
    set_fits false depth number v low = (low, let least = index_least slots v in omega (arith, least, listed))

    role_fits : (its : Option Role) (depth base : ℕ) → depth ≤ plan.places → FitsStep plan (routine_step its depth base)
    role_fits None depth base low = tt
    role_fits (Some role.NewHandle) depth base low = tt
    role_fits (Some role.DisposeHandle) depth base low = tt
    role_fits (Some role.GetSize) depth base low = tt
    role_fits (Some role.SetSize) depth base low = tt
    role_fits (Some role.Lock) depth base low = tt
    role_fits (Some role.Unlock) depth base low = tt
    role_fits (Some role.Purge) depth base low = tt
    role_fits (Some role.NoPurge) depth base low = tt
    role_fits (Some role.GetState) depth base low = low
    role_fits (Some role.SetState) depth base low = tt
    role_fits (Some role.Empty) depth base low = tt
    role_fits (Some role.Realloc) depth base low = tt
    role_fits (Some role.NewPtr) depth base low = tt
    role_fits (Some role.DisposePtr) depth base low = tt
    role_fits (Some role.BlockMove) depth base low = tt
    role_fits (Some role.Getchar) depth base low = tt
    role_fits (Some role.Putchar) depth base low = tt
    role_fits (Some role.Plain) depth base low = tt

    step_fits : (its : Op) (depth : ℕ) → depth ≤ plan.places → FitsStep plan (step_by scope names part slots its depth)
    step_fits (op.Num bits) depth low = tt
    step_fits op.Nil depth low = tt
    step_fits (op.Address its) depth low = tt
    step_fits (op.Get v) depth low = let least = index_least slots v in omega (arith, least, listed)
    step_fits (op.Set v) depth low = set_fits (is_in names v) depth (index_of part v) v low
    step_fits (op.Load its) depth low = tt
    step_fits (op.Store its) depth low = tt
    step_fits op.Drop depth low = tt
    step_fits op.Dup depth low = low
    step_fits op.Tuck depth low = low
    step_fits (op.Conv kind) depth low = low
    step_fits (op.Unary its) depth low = tt
    step_fits (op.Binary its kind) depth low = tt
    step_fits op.IsNil depth low = tt
    step_fits (op.Compare its) depth low = tt
    step_fits (op.Difference size) depth low = tt
    step_fits (op.Offset bytes) depth low = tt
    step_fits (op.Step stride pointer_first) depth low = tt
    step_fits (op.Jump target) depth low = tt
    step_fits (op.Zero target) depth low = tt
    step_fits (op.Choose goal) depth low = tt
    step_fits (op.Shift place) depth low = tt
    step_fits (op.Routine place) depth low = role_fits (role_at scope place) depth (depth - taken scope (op.Routine place)) low
    step_fits (op.Call f) depth low = tt
    step_fits op.Return depth low = tt
    step_fits op.Turn depth low = tt
    step_fits op.Mark depth low = tt
    step_fits (op.Pick target) depth low = tt
    step_fits (op.Bring zero) depth low = tt
    step_fits (op.Bring (suc place)) depth low = low

  -- ---- they are those of the code, if the names are

  module _ (code : FunctionCode) (are : (v : Variable) → is_name scope code v ≡ is_in names v) where
    step_is : (its : Op) (depth : ℕ) → step_by scope names part slots its depth ≡ step_of scope code part slots its depth
    step_is (op.Num bits) depth = refl
    step_is op.Nil depth = refl
    step_is (op.Address its) depth = refl
    step_is (op.Get v) depth = refl
    step_is (op.Set v) depth = ap (λ is. set_step is depth (index_of part v) (index_of slots v)) (sym (are v))
    step_is (op.Load its) depth = refl
    step_is (op.Store its) depth = refl
    step_is op.Drop depth = refl
    step_is op.Dup depth = refl
    step_is op.Tuck depth = refl
    step_is (op.Conv kind) depth = refl
    step_is (op.Unary its) depth = refl
    step_is (op.Binary its kind) depth = refl
    step_is op.IsNil depth = refl
    step_is (op.Compare its) depth = refl
    step_is (op.Difference size) depth = refl
    step_is (op.Offset bytes) depth = refl
    step_is (op.Step stride pointer_first) depth = refl
    step_is (op.Jump target) depth = refl
    step_is (op.Zero target) depth = refl
    step_is (op.Choose goal) depth = refl
    step_is (op.Shift place) depth = refl
    step_is (op.Routine place) depth = refl
    step_is (op.Call f) depth = refl
    step_is op.Return depth = refl
    step_is op.Turn depth = refl
    step_is op.Mark depth = refl
    step_is (op.Pick target) depth = refl
    step_is (op.Bring place) depth = refl

-- ---- places

greatest_least : (least : ℕ) (ops : List Placed) → least ≤ greatest least ops
greatest_least least [] = omega arith
greatest_least least (it ∷ rest) = let next = greatest_least (max least it.places) rest in omega (arith, next)

pub greatest_at : (least : ℕ) (ops : List Placed) (at : ℕ) (its : Placed) → slice_get ops at ≡ Some its → its.places ≤ greatest least ops
greatest_at least [] at its there = absurd cc
greatest_at least (it ∷ rest) zero its there =
    let next = greatest_least (max least it.places) rest in
    let same = ap (λ (p : Placed). p.places) (some_one it its there) in omega (arith, next, same)
greatest_at least (it ∷ rest) (suc at) its there = greatest_at (max least it.places) rest at its there

-- ---- tasks

-- of a window of the names, in a function whose own operations and calls assign so
abbrev pub task_of : Scope → FunctionCode → Plan → ℕ → ℕ → List Variable → (ℕ → ℕ → Bool) → Task
task_of scope code plan from count slots assigned = record {
  plan = plan;
  names = part_of from count (names_of scope code);
  slots = slots;
  steps = steps_by scope (names_of scope code) (part_of from count (names_of scope code)) slots code.ops;
  code = code;
  assigned = assigned;
}

-- what is known of a window, the plan and the slots
pub record IsFor (scope : Scope) (code : FunctionCode) (plan : Plan) (from count : ℕ) (slots : List Variable) (assigned : ℕ → ℕ → Bool) : Type 0 where
  pub fits : from + count ≤ length (names_of scope code)
  pub plan_names : plan.names ≡ count
  pub plan_slots : plan.slots ≡ length slots
  pub plan_places : plan.places ≡ greatest 0 code.ops
  pub gets : (at : ℕ) (its : Placed) (v : Variable) → slice_get code.ops at ≡ Some its → its.op ≡ op.Get v
      → is_slot_in scope.types (variable_in scope v) ≡ true
  pub sets : (at : ℕ) (its : Placed) (v : Variable) → slice_get code.ops at ≡ Some its → its.op ≡ op.Set v → is_in slots v ≡ true
  pub calls : (at : ℕ) (its : Placed) (f g : ℕ) → slice_get code.ops at ≡ Some its → its.op ≡ op.Call f
      → is_slot_in scope.types (variable_in scope (name.Global g)) ≡ true → assigned f g ≡ true → is_in slots (name.Global g) ≡ true

module _ (scope : Scope) (code : FunctionCode) (plan : Plan) (from count : ℕ) (slots : List Variable) (assigned : ℕ → ℕ → Bool)
    (its : IsFor scope code plan from count slots assigned) where
  names_all : List Variable
  names_all = names_of scope code

  fits_by : (at : ℕ) (it : Placed) → slice_get code.ops at ≡ Some it → (o : Op) → it.op ≡ o → OpFits scope slots assigned o
  fits_by at it there (op.Num bits) e = tt
  fits_by at it there op.Nil e = tt
  fits_by at it there (op.Address of) e = tt
  fits_by at it there (op.Get v) e = its.gets at it v there e
  fits_by at it there (op.Set v) e = less_numbers (index_of slots v) (length slots) (its.sets at it v there e)
  fits_by at it there (op.Load of) e = tt
  fits_by at it there (op.Store of) e = tt
  fits_by at it there op.Drop e = tt
  fits_by at it there op.Dup e = tt
  fits_by at it there op.Tuck e = tt
  fits_by at it there (op.Conv kind) e = tt
  fits_by at it there (op.Unary of) e = tt
  fits_by at it there (op.Binary of kind) e = tt
  fits_by at it there op.IsNil e = tt
  fits_by at it there (op.Compare of) e = tt
  fits_by at it there (op.Difference size) e = tt
  fits_by at it there (op.Offset bytes) e = tt
  fits_by at it there (op.Step stride pointer_first) e = tt
  fits_by at it there (op.Jump target) e = tt
  fits_by at it there (op.Zero target) e = tt
  fits_by at it there (op.Choose goal) e = tt
  fits_by at it there (op.Shift place) e = tt
  fits_by at it there (op.Routine place) e = tt
  fits_by at it there (op.Call f) e = λ g slot a. less_numbers (index_of slots (name.Global g)) (length slots) (its.calls at it f g there e slot a)
  fits_by at it there op.Return e = tt
  fits_by at it there op.Turn e = tt
  fits_by at it there op.Mark e = tt
  fits_by at it there (op.Pick target) e = tt
  fits_by at it there (op.Bring place) e = tt

  low_at : (at : ℕ) (it : Placed) → slice_get code.ops at ≡ Some it → it.places ≤ plan.places
  low_at at it there = let most = greatest_at 0 code.ops at it there in let places = its.plan_places in omega (arith, most, places)

  pub task_whole : IsTask (task_of scope code plan from count slots assigned)
  task_whole = record {
    steps = steps_length scope (names_of scope code) (part_of from count (names_of scope code)) slots code.ops;
    fit = λ at stp there.
        let from_op = step_from scope (names_of scope code) (part_of from count (names_of scope code)) slots code.ops at stp there in
        subst (FitsStep plan) from_op.2
        (step_fits scope (names_of scope code) (part_of from count (names_of scope code)) slots plan its.plan_slots from_op.0.op from_op.0.places
        (low_at at from_op.0 from_op.1));
    names = part_length (names_of scope code) from count its.fits ∙ sym its.plan_names;
    slots = sym its.plan_slots;
  }

  pub task_is : IsOf scope (task_of scope code plan from count slots assigned)
  task_is = record {
    whole = task_whole;
    distinct = part_distinct (names_of scope code) from count (distinct_names scope code) its.fits;
    are_names = λ v listed.
        let at = part_there (names_of scope code) from count (distinct_names scope code) its.fits v listed in
        let len = part_length (names_of scope code) from count its.fits in
        let within = its.fits in
        are_names scope code v ∙ less_number (index_of (names_of scope code) v) (length (names_of scope code)) (omega (arith, at, len, within, listed));
    steps = λ at it there.
        steps_at scope (names_of scope code) (part_of from count (names_of scope code)) slots code.ops at it there
        ∙ ap (λ (s : Step). Some s) (step_is scope (names_of scope code) (part_of from count (names_of scope code)) slots code (are_names scope code)
        it.op it.places);
    places = low_at;
    op_fits = λ at it there. fits_by at it there it.op refl;
  }

-- the job that is made is the task of the window
pub same_task :
    (scope : Scope) (code : FunctionCode) (plan : Plan) (from count : ℕ) (assigned : ℕ → ℕ → Bool) (names part slots listed : List Variable)
    (steps : List Step) (ops : List Placed) → part ≡ part_of from count names → listed ≡ slots
    → steps ≡ steps_by scope names (part_of from count names) slots ops → ops ≡ code.ops → names ≡ names_of scope code
    → the_task plan part listed steps code assigned ≡ task_of scope code plan from count slots assigned
same_task scope code plan from count assigned names part slots listed steps ops is_part is_listed are_steps are_ops are_all =
    rw (is_part, is_listed, are_steps, are_ops, are_all) refl
