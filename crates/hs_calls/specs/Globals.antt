-- A step gives no global another binding, unless it is a Set of that global (own).
--     GlobalStays g before after     the global of that place has the binding that it had
--     sets_global g its              the operation gives a value to that global
--     step_keeps_global              the law
use Rattle.std.proofs.Common.{◌≡◌, ℕ, zero, suc, pos, ◌==◌, Bool, true, false, ◌||◌, List, [], ◌∷◌, length, take, slice_get, Option, Some, None, refl, ap, ◌∙◌, arith}
use Rattle.std.proofs.lemmas.Bool.Decides.{nat_tests}
use Rattle.hs_base.specs.Entries.{set_other}
use Rattle.hs_base.specs.declared.pos.Pos.{Pos}
use Rattle.hs_calls.specs.Stacks.{RanTo, then_to}
use Rattle.hs_code.specs.declared.function_code.Placed.{Placed}
use Rattle.hs_code.specs.declared.op.Binary.TheVariants as binary
use Rattle.hs_code.specs.declared.op.Object.{Object}
use Rattle.hs_code.specs.declared.op.Object.TheVariants as object
use Rattle.hs_code.specs.declared.op.Op.{Op}
use Rattle.hs_code.specs.declared.op.Op.TheVariants as op
use Rattle.hs_code.specs.declared.op.Unary.TheVariants as unary
use Rattle.hs_code_run.specs.Codes.{CodeFunction, CodeProgram, Waiting, Point}
use Rattle.hs_code_run.specs.Steps.{stepped, stepped_at, by_stack, by_operation, operates_if, routine_called, function_called, returned_to, operation_of, routine_arguments, taken, holds, address_at}
use Rattle.hs_heap.specs.Shift.{Powers}
use Rattle.hs_heap.specs.declared.cell.Pointer.TheVariants.{Fixed}
use Rattle.hs_lowering.specs.Laws.Variables.{KeepsVariables, is_set, operate_keeps, stored_keeps}
use Rattle.hs_meaning.specs.Accesses.{by_stop, stored}
use Rattle.hs_meaning.specs.Classes.{class_of_type}
use Rattle.hs_meaning.specs.Evaluation.{Location, in_slot, at_address, located, variable_at, address_of, decided_by, powers_of}
use Rattle.hs_meaning.specs.Frames.{has_frame, in_frame, given_to, given_all, opened_if, opened, without_objects}
use Rattle.hs_meaning.specs.Machine.{Machine, Binding, slot, object_at, Done, done, stopped, and_then, binding_of, with_object, ended_object}
use Rattle.hs_meaning.specs.Numbers.{signed}
use Rattle.hs_meaning.specs.Objects.{bindings, objects_for}
use Rattle.hs_meaning.specs.Operations as operation
use Rattle.hs_meaning.specs.Operations.{Operation, operate, operation_stops, operation_value, operation_machine}
use Rattle.hs_meaning.specs.Runs.{own_locals, closes}
use Rattle.hs_meaning.specs.Settings.{Setting, access_of_type}
use Rattle.hs_meaning.specs.Steps.{State, Ran, went, over, Step, ◌>>=◌, give, ends, acts, ran_at, turn, turn_from, number_used, either, decided}
use Rattle.hs_meaning.specs.Stops.{first_stop}
use Rattle.hs_meaning.specs.Values.{Value, bits_in, number_stop}
use Rattle.hs_meaning.specs.declared.outcome.Outcome.{Outcome}
use Rattle.hs_meaning.specs.declared.outcome.Outcome.TheVariants.{Finished}
use Rattle.hs_meaning.specs.declared.outcome.Stop.{Stop}
use Rattle.hs_tree.specs.declared.function.BoundRoutine.{BoundRoutine}
use Rattle.hs_tree.specs.declared.head.Variable.{Variable}
use Rattle.hs_tree.specs.declared.head.Variable.TheVariants as name
use Rattle.hs_tree.specs.declared.head.VariableDecl.{VariableDecl}
use Rattle.hs_types.specs.declared.row.TypeId.{TypeId}

-- ---- what stays

-- the global of that place has the binding that it had
abbrev pub GlobalStays : ℕ → Machine → Machine → Type 0
GlobalStays g before after = slice_get after.globals g ≡ slice_get before.globals g

-- what is done does not stop
abbrev pub KeepsGlobal : {A : Type 0} → ℕ → Machine → Done A → Type 0
KeepsGlobal g before (done it after) = GlobalStays g before after
KeepsGlobal g before (stopped why after) = Unit {0}

-- a variable that is that global
abbrev pub is_global : ℕ → Variable → Bool
is_global g (name.Global place) = place == g
is_global g (name.Local place) = false

-- the operation gives a value to that global
abbrev pub sets_global : ℕ → Op → Bool
sets_global g (op.Set variable) = is_global g variable
sets_global g its = false

-- if there is an operation
abbrev pub sets_global_at : ℕ → Option Placed → Bool
sets_global_at g None = false
sets_global_at g (Some its) = sets_global g its.op

module _ (g : ℕ) where
  -- ---- what is done to a machine

  -- all variables stay
  of_variables : {A : Type 0} → (before : Machine) (its : Done A) → KeepsVariables before its → KeepsGlobal g before its
  of_variables before (done it after) is = ap (λ all. slice_get all g) is.0
  of_variables before (stopped why after) is = tt

  -- one after another
  and_then_keeps : {A B : Type 0} → (before : Machine) (first : Done A) (next : A → Machine → Done B) → KeepsGlobal g before first
      → ((it : A) (after : Machine) → KeepsGlobal g after (next it after)) → KeepsGlobal g before (and_then first next)
  and_then_keeps before (done it after) next is each = further (next it after) (each it after)
    where
      further : {B : Type 0} → (its : Done B) → KeepsGlobal g after its → KeepsGlobal g before its
      further (done it last) so = so ∙ is
      further (stopped why last) so = tt
  and_then_keeps before (stopped why after) next is each = tt

  by_stop_keeps : {A : Type 0} → (why : Option Stop) (it : A) (after before : Machine) → GlobalStays g before after
      → KeepsGlobal g before (by_stop why it after before)
  by_stop_keeps None it after before is = is
  by_stop_keeps (Some why) it after before is = tt

  -- a value that is used as a number
  used_keeps : (value : Value) (machine : Machine) → KeepsGlobal g machine (number_used value machine)
  used_keeps value machine = by_stop_keeps (number_stop value) (bits_in value) machine machine refl

  -- where a variable is, and the address of an object
  variable_keeps : (variable : Variable) (machine : Machine) → KeepsGlobal g machine (variable_at variable machine)
  variable_keeps variable machine = by_binding (binding_of variable machine)
    where
      by_binding : (its : Option Binding) → KeepsGlobal g machine (located variable its machine)
      by_binding None = tt
      by_binding (Some (slot value)) = refl
      by_binding (Some (object_at place)) = refl

  address_keeps : (its : Location) (machine : Machine) → KeepsGlobal g machine (address_of its machine)
  address_keeps (in_slot variable) machine = tt
  address_keeps (at_address its) machine = refl

  -- a call begins
  given_keeps : (setting : Setting) (place : ℕ) (id : TypeId) (value : Value) (binding : Option Binding) (machine : Machine)
      → KeepsGlobal g machine (given_to setting place id value binding machine)
  given_keeps setting place id value None machine = tt
  given_keeps setting place id value (Some (slot before)) machine = refl
  given_keeps setting place id value (Some (object_at object)) machine =
      and_then_keeps machine (stored (access_of_type setting id (class_of_type setting.same id)) (Fixed object (pos 0)) value machine)
      (λ it after. done tt after)
      (of_variables machine (stored (access_of_type setting id (class_of_type setting.same id)) (Fixed object (pos 0)) value machine)
      (stored_keeps (access_of_type setting id (class_of_type setting.same id)) (Fixed object (pos 0)) value machine)) (λ it after. refl)

  all_given_keeps : (setting : Setting) (place : ℕ) (parameters : List VariableDecl) (values : List Value) (machine : Machine)
      → KeepsGlobal g machine (given_all setting place parameters values machine)
  all_given_keeps setting place [] values machine = refl
  all_given_keeps setting place (variable ∷ rest) [] machine = tt
  all_given_keeps setting place (variable ∷ rest) (value ∷ values) machine =
      and_then_keeps machine (given_to setting place variable.type_id value (slice_get machine.locals place) machine)
      (λ it after. given_all setting (suc place) rest values after)
      (given_keeps setting place variable.type_id value (slice_get machine.locals place) machine)
      (λ it after. all_given_keeps setting (suc place) rest values after)

  opened_keeps : (setting : Setting) (parameters : ℕ) (variables : List VariableDecl) (values : List Value) (machine : Machine)
      → KeepsGlobal g machine (opened setting parameters variables values machine)
  opened_keeps setting parameters variables values machine = by_frame (has_frame (objects_for setting.types variables) machine)
    where
      by_frame : (b : Bool) → KeepsGlobal g machine (opened_if b setting parameters variables values machine)
      by_frame false = tt
      by_frame true =
          all_given_keeps setting 0 (take parameters variables) values
          (in_frame (bindings setting.types (length machine.objects) variables) (objects_for setting.types variables) machine)

  -- a call ends
  without_stays : (locals : List Binding) (machine : Machine) → (without_objects locals machine).globals ≡ machine.globals
  without_stays [] machine = refl
  without_stays (slot value ∷ rest) machine = without_stays rest machine
  without_stays (object_at place ∷ rest) machine = without_stays rest (with_object place ended_object machine)

  closed_keeps : (caller : List Binding) (machine : Machine) → KeepsGlobal g machine (closes caller machine)
  closed_keeps caller machine = ap (λ all. slice_get all g) (without_stays machine.locals machine)

  -- ---- operations

  -- of the machine, likewise
  abbrev sets : Operation → Bool
  sets (operation.set variable) = is_global g variable
  sets its = false

  other_place : (place : ℕ) → (place == g) ≡ false → g ≡ place → ⊥
  other_place place is same = absurd (grind (arith, nat_tests, is, same))

  set_keeps : (variable : Variable) (values : List Value) (machine : Machine) → is_global g variable ≡ false
      → GlobalStays g machine (operation_machine (operation.set variable) values machine)
  set_keeps variable [] machine is = refl
  set_keeps (name.Global place) (value ∷ []) machine is =
      set_other machine.globals place (slot (Some value)) g (other_place place is)
  set_keeps (name.Local place) (value ∷ []) machine is = refl
  set_keeps variable (value ∷ next ∷ values) machine is = refl

  done_keeps : (setting : Setting) (its : Operation) (values : List Value) (machine : Machine) (b : Bool) → is_set its ≡ b → sets its ≡ false
      → KeepsGlobal g machine (operate setting its values machine)
  done_keeps setting its values machine false is so =
      of_variables machine (operate setting its values machine) (operate_keeps setting its values machine is)
  done_keeps setting (operation.set variable) values machine true is so =
      by_stop_keeps (first_stop (operation_stops (operation.set variable) values machine)) (operation_value (operation.set variable) values machine)
      (operation_machine (operation.set variable) values machine) machine (set_keeps variable values machine so)
  done_keeps setting its values machine true is so = absurd cc

  -- ---- steps

  -- from any state
  pub record Keeps {A : Type 0} (step : Step A) : Type 0 where
    pub from : (s : State) → RanTo (λ outcome t. Unit {0}) (λ it t. GlobalStays g s.machine t.machine) (step s)

  thens : {A B : Type 0} → {first : Step A} → {next : A → Step B} → Keeps first → ((it : A) → Keeps (next it)) → Keeps (first >>= next)
  thens {first = first} {next = next} is each =
      record {
        from = λ s. then_to (λ outcome t. Unit {0}) (λ it t. GlobalStays g s.machine t.machine) (λ it t. GlobalStays g s.machine t.machine) next (first s)
            (is.from s) (λ it t so. further s t (next it t) so ((each it).from t));
      }
    where
      further : {B : Type 0} → (s t : State) (r : Ran B) → GlobalStays g s.machine t.machine
          → RanTo (λ outcome u. Unit {0}) (λ it u. GlobalStays g t.machine u.machine) r
          → RanTo (λ outcome u. Unit {0}) (λ it u. GlobalStays g s.machine u.machine) r
      further s t (went it u) is so = so ∙ is
      further s t (over outcome u) is so = tt

  gives : {A : Type 0} → {it : A} → Keeps (give it)
  gives = record { from = λ s. refl }

  over_keeps : {A : Type 0} → {outcome : Outcome} → Keeps (ends {A = A} outcome)
  over_keeps = record { from = λ s. tt }

  act_keeps : {A : Type 0} → (at : Pos) (act : Machine → Done A) → ((machine : Machine) → KeepsGlobal g machine (act machine)) → Keeps (acts at act)
  act_keeps at act each = record { from = λ s. by_done s (act s.machine) (each s.machine) }
    where
      by_done : {A : Type 0} → (s : State) (its : Done A) → KeepsGlobal g s.machine its
          → RanTo (λ outcome t. Unit {0}) (λ it t. GlobalStays g s.machine t.machine) (ran_at at s its)
      by_done s (done it machine) is = is
      by_done s (stopped why machine) is = tt

  turn_keeps : Keeps turn
  turn_keeps = record { from = λ s. by_turns s s.turns }
    where
      by_turns : (s : State) (left : ℕ) → RanTo (λ outcome t. Unit {0}) (λ it t. GlobalStays g s.machine t.machine) (turn_from left s)
      by_turns s zero = tt
      by_turns s (suc left) = refl

  -- a decision changes the blocks alone
  decided_keeps : (b : Bool) (powers : Powers) → Keeps (either b (decided powers) (give tt))
  decided_keeps true powers = record { from = λ s. refl }
  decided_keeps false powers = gives

  shift_keeps : (it : Option BoundRoutine) → Keeps (decided_by it)
  shift_keeps None = gives
  shift_keeps (Some it) = decided_keeps ((powers_of it).moves || (powers_of it).purges) (powers_of it)

  module _ (program : CodeProgram) (at : Pos) (point : Point) where
    operates_keep : (b : Bool) (count : ℕ) (its : Operation) → sets its ≡ false → Keeps (operates_if program at point b count its)
    operates_keep true count its is =
        thens (act_keeps at (operate program.setting its (taken count point.frame.stack))
        (λ machine. done_keeps program.setting its (taken count point.frame.stack) machine (is_set its) refl is)) (λ value. gives)
    operates_keep false count its is = over_keeps

    routine_keeps : (place : ℕ) (count : Option ℕ) → Keeps (routine_called program at point place count)
    routine_keeps place None = over_keeps
    routine_keeps place (Some count) = operates_keep (holds count point.frame.stack) count (operation.routine place) refl

    called_keeps : (function : Option CodeFunction) → Keeps (function_called program at point function)
    called_keeps None = over_keeps
    called_keeps (Some function) =
        thens turn_keeps (λ it. thens (act_keeps at own_locals (λ machine. refl)) (λ locals. thens
        (act_keeps at (opened program.setting function.parameters function.variables (taken function.parameters point.frame.stack))
        (λ machine. opened_keeps program.setting function.parameters function.variables (taken function.parameters point.frame.stack) machine))
        (λ it. gives)))

    -- the call that waited goes on
    abbrev resumed : Value → Waiting → List Waiting → Point
    resumed value caller rest =
        record point { frame = record { code = caller.frame.code; at = caller.frame.at; stack = value ∷ caller.frame.stack }; waiting = rest }

    returned_keeps : (value : Value) (waiting : List Waiting) → Keeps (returned_to program at point value waiting)
    returned_keeps value [] =
        thens (act_keeps at (closes []) (λ machine. closed_keeps [] machine)) (λ it. thens
        (act_keeps at (number_used value) (λ machine. used_keeps value machine)) (λ bits. over_keeps {outcome = Finished (signed bits)}))
    returned_keeps value (caller ∷ rest) =
        thens (act_keeps at (closes caller.locals) (λ machine. closed_keeps caller.locals machine)) (λ it. gives {it = resumed value caller rest})

    address_at_keeps : (its : Object) → Keeps (address_at at program.setting its)
    address_at_keeps (object.Variable variable) =
        thens (act_keeps at (variable_at variable) (λ machine. variable_keeps variable machine))
        (λ place. act_keeps at (address_of place) (λ machine. address_keeps place machine))
    address_at_keeps (object.Literal place) = gives

    -- of the operation of the machine, if it is one
    abbrev SetsNone : Option (ℕ × Operation) → Type 0
    SetsNone None = Unit {0}
    SetsNone (Some its) = sets its.1 ≡ false

    sets_none : (its : Op) → sets_global g its ≡ false → SetsNone (operation_of its)
    sets_none (op.Get variable) is = refl
    sets_none (op.Set variable) is = is
    sets_none (op.Load its) is = refl
    sets_none (op.Store its) is = refl
    sets_none (op.Conv kind) is = refl
    sets_none (op.Unary (unary.Sign its)) is = refl
    sets_none (op.Unary unary.Not) is = refl
    sets_none (op.Binary (binary.Arithmetic its) kind) is = refl
    sets_none (op.Binary (binary.Comparison its) kind) is = refl
    sets_none op.IsNil is = refl
    sets_none (op.Compare its) is = refl
    sets_none (op.Difference size) is = refl
    sets_none (op.Offset bytes) is = refl
    sets_none (op.Step stride first) is = refl
    sets_none its is = tt

    operation_keeps : (its : Option (ℕ × Operation)) → SetsNone its → Keeps (by_operation program at point its)
    operation_keeps None is = over_keeps
    operation_keeps (Some its) is = operates_keep (holds its.0 point.frame.stack) its.0 its.1 is

    stack_keeps : (its : Op) (stack : List Value) → sets_global g its ≡ false → Keeps (by_stack program at point its stack)
    stack_keeps (op.Num bits) stack is = gives
    stack_keeps op.Nil stack is = gives
    stack_keeps (op.Address its) stack is = thens (address_at_keeps its) (λ value. gives)
    stack_keeps op.Drop [] is = over_keeps
    stack_keeps op.Drop (v ∷ stack) is = gives
    stack_keeps op.Dup [] is = over_keeps
    stack_keeps op.Dup (v ∷ stack) is = gives
    stack_keeps op.Tuck [] is = over_keeps
    stack_keeps op.Tuck (v ∷ []) is = over_keeps
    stack_keeps op.Tuck (v ∷ u ∷ stack) is = gives
    stack_keeps (op.Jump target) stack is = gives
    stack_keeps (op.Zero target) [] is = over_keeps
    stack_keeps (op.Zero target) (v ∷ stack) is = thens (act_keeps at (number_used v) (λ machine. used_keeps v machine)) (λ bits. gives)
    stack_keeps (op.Choose goal) [] is = over_keeps
    stack_keeps (op.Choose goal) (v ∷ stack) is = thens (act_keeps at (number_used v) (λ machine. used_keeps v machine)) (λ bits. gives)
    stack_keeps (op.Shift place) stack is = thens (shift_keeps (slice_get program.setting.routines place)) (λ it. gives)
    stack_keeps (op.Routine place) stack is = routine_keeps place (routine_arguments (slice_get program.setting.routines place))
    stack_keeps (op.Call place) stack is = called_keeps (slice_get program.functions place)
    stack_keeps op.Return [] is = over_keeps
    stack_keeps op.Return (v ∷ stack) is = returned_keeps v point.waiting
    stack_keeps op.Turn stack is = thens turn_keeps (λ it. gives)
    stack_keeps op.Mark stack is = gives
    stack_keeps (op.Pick target) stack is = gives
    stack_keeps (op.Bring place) stack is = gives
    stack_keeps its stack is = operation_keeps (operation_of its) (sets_none its is)

  at_keeps : (program : CodeProgram) (point : Point) (its : Option Placed) → sets_global_at g its ≡ false → Keeps (stepped_at program point its)
  at_keeps program point None is = over_keeps
  at_keeps program point (Some its) is = stack_keeps program its.at point its.op point.frame.stack is

  -- A step gives no global another binding, unless it is a Set of that global.
  pub step_keeps_global : (program : CodeProgram) (point : Point) (s : State)
      → sets_global_at g (slice_get point.frame.code.ops point.frame.at) ≡ false
      → RanTo (λ outcome t. Unit {0}) (λ next t. GlobalStays g s.machine t.machine) (stepped program point s)
  step_keeps_global program point s is = (at_keeps program point (slice_get point.frame.code.ops point.frame.at) is).from s
